-- What the calls for C and Rust answer: one number, and the lent bytes as they leave them.
use Rattle.std.specs.Prelude.{ℕ, ◌+◌, ◌*◌, ◌/◌, ◌≤◌, ◌<◌, ◌≡◌, cond, ◌||◌, List, ◌++◌, length, get_or, take, drop, ltb, eqb, ℤ, pos, neg_ℤ}
use Rattle.model.specs.declared.Description.{Description}
use Rattle.model.specs.declared.Policy.{Policy}
use Rattle.model.specs.declared.Machine.{Machine}
use Rattle.model.specs.declared.Ticked.{Ticked}
use Rattle.model.specs.declared.Refusal.TheVariants.{OffKnob, ShortPage}
use Rattle.model.specs.Refusals.{Outcome, Done, Refused, Numbered, accepted, refusal, of_outcome, of_filled, of_quote, on_done}
use Rattle.model.specs.Header.{number_in}
use Rattle.model.specs.File.{read_file, filled_by}
use Rattle.model.specs.Verdicts.{on_knob, quoted_file}
use Rattle.model.specs.Report.{reported, page_reported}
use Rattle.model.specs.Clock.{clock_spacing}
use Rattle.model.specs.Machine.{idle}
use Rattle.model.specs.History.{left}
use Rattle.model.specs.Promise.{Calls, Assured}
use Rattle.model.specs.Run.{calls_in, codes, page}
use Rattle.layout.specs.Layout.{record_length, record_bytes}

-- an answer as one number: its value where the work is done, or else the refusal's number and place below 0
unfoldable pub reply : Numbered → ℤ
reply n = cond (eqb n.number 0) (pos n.value) (neg_ℤ (pos (10000 * n.number + n.value)))

-- what a report answers, and what it leaves in the buffer
abbrev pub ReportReplied : Policy → List ℕ → List ℕ → List ℕ → ℤ → Type 0
ReportReplied p s out out' r = (r ≡ reply (of_filled (reported p s out))) × (out' ≡ page_reported p s out)

-- what a quote answers
abbrev pub QuoteReplied : Policy → List ℕ → ℤ → Type 0
QuoteReplied p s r = r ≡ reply (of_quote (quoted_file p s))

-- a run: refused as its file is, then 13 where a buffer is short; the buffers change only if it is done
unfoldable pub run_outcome : List ℕ → List ℕ → List ℕ → List ℕ → Outcome
run_outcome s calls outcomes out =
    on_done (read_file s).outcome
    (cond (ltb (length out) record_length || ltb (length outcomes) (length calls / 6)) (Refused ShortPage 0) Done)
    Refused

abbrev pub codes_after : Policy → Outcome → Description → List ℕ → List ℕ → List ℕ
codes_after p o d calls outcomes = on_done o (filled_by (page p d (calls_in calls)) outcomes) (λ r place. outcomes)

abbrev pub record_after : Policy → Outcome → Description → List ℕ → List ℕ → List ℕ
record_after p o d calls out = on_done o (record_bytes (left p d (idle d) (calls_in calls)) ++ drop record_length out) (λ r place. out)

-- what a run answers, and what it leaves in the buffers of outcomes and of the record
pub record RunReplied (p : Policy) (s calls outcomes out outcomes' out' : List ℕ) (r : ℤ) : Type 0 where
  pub answer : r ≡ reply (of_outcome (run_outcome s calls outcomes out))
  pub codes : outcomes' ≡ codes_after p (run_outcome s calls outcomes out) (read_file s).description calls outcomes
  pub bytes : out' ≡ record_after p (run_outcome s calls outcomes out) (read_file s).description calls out

-- what the clock call answers: the spacing of the MIDI clock, or 11
abbrev pub ClockReplied : ℕ → ℤ → Type 0
ClockReplied t r = r ≡ reply (cond (on_knob t) (accepted (clock_spacing t)) (refusal OffKnob 0))

-- the promise of what a caller has in hand: the codes in the buffer of outcomes and the record in the other are those of a list of tick calls
-- from the start, of which all is assured up to the number that the quote call answered
pub record RunAssured (p : Policy) (s : List ℕ) (q : ℕ) (calls outcomes out : List ℕ) : Type 0 where
  pub answered : List Ticked
  pub machine : Machine
  pub called : Calls p (read_file s).description (idle (read_file s).description) (calls_in calls) answered machine
  pub told : take (length (calls_in calls)) outcomes ≡ codes answered
  pub kept : take record_length out ≡ record_bytes machine
  pub assured : Assured p (read_file s).description q (calls_in calls) answered machine

-- no call of a run that is answered 0 has a tempo above q, as a caller can see from the bytes
abbrev pub CallsUpTo : ℕ → List ℕ → List ℕ → Type 0
CallsUpTo q calls outcomes = (i : ℕ) → i < length calls / 6 → get_or outcomes i 0 ≡ 0 → number_in calls (6 * i + 2) 2 ≤ q

-- What the header promises of a run: of the bytes that `bench_run` leaves, up to the number that `bench_quote` answers; and of a page, that `bench_report`
-- leaves. On the hold-on model of those of `bench_hold_run`, `bench_hold_quote` and `bench_hold_report`. Assumes nothing.
use Rattle.std.specs.Prelude.{Ok, Err}
use Prim.Native.Nat.{ℕ, zero, suc, ◌+◌, ◌*◌, ◌/◌, ◌≤◌, ◌<◌}
use mathlib.Core.Path.{◌≡◌, refl, sym, ap, ◌∙◌}
use mathlib.Core.Bool.{Bool, true, false, cond, ◌||◌}
use mathlib.Core.List.{List, [], ◌∷◌, ◌++◌}
use native.Mathlib.Omega.{arith}
use lib.ListN.{length, get_or, take, drop}
use lib.Seq.{take_at, get_or-take}
use lib.Dec.{ltb}
use lib.IntN.{ℤ, pos, negsuc, neg_ℤ}
use borrow.Author.Tests.{le-ltb, ltb-false}
use seplogic.Ra.Ura.{Ura}
use base.Logic.{SProp, ent, id⊢}
use prog.Memory.{Memory}
use prog.Routine.{Routine}
use types.Logic.{Logic}
use contract.Monad.{Fun, fact}
use contract.Lifetimes.{Lfts}
use denote.Triple.Entry.{Args}
use denote.Triple.Clauses.{AtExit}
use Rattle.model.specs.declared.Description.{Description}
use Rattle.model.specs.declared.Policy.{Policy}
use Rattle.model.specs.declared.Policy.TheVariants.{Preemptive, HoldOn}
use Rattle.model.specs.declared.Machine.{Machine}
use Rattle.model.specs.Refusals.{Quote, Refused, Outcome, Filled, Done, number_of, refusal, of_outcome, of_filled, of_quote}
use Rattle.model.specs.declared.Refusal.{Refusal}
use Rattle.model.specs.declared.Refusal.TheVariants.{ShortPage}
use Rattle.model.specs.File.{read_file, filled_by}
use Rattle.model.specs.Verdicts.{quoted_file}
use Rattle.model.specs.Machine.{idle}
use Rattle.model.specs.History.{Call, plain_call, answers, left, observe, is_done, ticks}
use Rattle.model.specs.Promise.{UpTo}
use Rattle.model.specs.Report.{reported}
use Rattle.model.specs.Page.{TellsModel, TempoLine, tempo_words, FromPage}
use Rattle.model.specs.Run.{calls_in, codes, page}
use Rattle.lemmas.proofs.Tests.{or_false_right, not_both}
use Rattle.lemmas.proofs.Outcomes.{refused_not}
use Rattle.lemmas.proofs.Table.{length-tab}
use Rattle.theory.proofs.NumberBytes.{Bytes as AllBytes}
use Rattle.theory.proofs.QuotedFile.{QuotedFile, quoted_file_lem}
use Rattle.assurance.proofs.Replay.{call_at, tick_refused}
use Rattle.assurance.proofs.Demand3.{up_next}
use Rattle.assurance.proofs.PlainCalls.{plain_calls, plain_assured}
use Rattle.assurance.proofs.Paper.{from_buffer}
use Rattle.runs.proofs.RunLaws.{calls_length, calls_at, codes_length}
use Rattle.library.specs.Replies.{reply, run_outcome, ReportReplied, QuoteReplied, RunReplied, RunAssured, CallsUpTo}
use Rattle.layout.specs.Layout.{record_length, record_byte, record_bytes}
use Rattle.library.proofs.Laws.{numbered, reply_refused, reply_done}
use Rattle.library.specs.contracts.bench_report as report
use Rattle.library.specs.contracts.bench_hold_report as hold-report
use Rattle.library.specs.contracts.bench_quote as quote
use Rattle.library.specs.contracts.bench_hold_quote as hold-quote
use Rattle.library.specs.contracts.bench_run as run
use Rattle.library.specs.contracts.bench_hold_run as hold-run

-- an answer of 0 or more is no refusal
abbrev low : ℤ → Bool
low (pos n) = false
low (negsuc n) = true

abbrev size : ℤ → ℕ
size (pos n) = n
size (negsuc n) = n

neg_low : (k : ℕ) → 0 < k → low (neg_ℤ (pos k)) ≡ true
neg_low zero h = absurd (omega arith)
neg_low (suc k) h = refl

refusal_low : (r : Refusal) (p : ℕ) (n : ℕ) → reply (refusal r p) ≡ pos n → ⊥
refusal_low r p n e = not_both (neg_low (10000 * number_of r + p) (omega (arith, numbered r))) (ap low (reply_refused r p ∙ e))

-- a quote call that answers q of 0 or more has quoted q
pub quote_told : (x : Quote) (q : ℕ) → reply (of_quote x) ≡ pos q → x ≡ Ok q
quote_told (Ok t) q e = ap Ok (ap size (reply_done t ∙ e))
quote_told (Err x) q e = absurd (refusal_low x.why x.place q e)

-- a report call that answers n of 0 or more has filled n bytes
filled_told : (x : Filled) (n : ℕ) → reply (of_filled x) ≡ pos n → x ≡ Ok n
filled_told (Ok k) n e = ap Ok (ap size (reply_done k ∙ e))
filled_told (Err x) n e = absurd (refusal_low x.why x.place n e)

-- the page of such a call assures what `Page.CallPaper` says of it
pub bench_paper : (made p : Policy) (s out out' : List ℕ) (r : ℤ) (n q : ℕ) → AllBytes s → ReportReplied made s out out' r → r ≡ pos n
    → TellsModel p (take n out') → TempoLine p (take n out') (tempo_words q) → FromPage p s (take n out') q
bench_paper made p s out out' r n q b c f =
    from_buffer made p s out out' (reported made s out) n q b (refl, c.1) (filled_told (reported made s out) n (sym c.0 ∙ f))

-- a run call that answers 0 is done
run_done : (o : Outcome) → reply (of_outcome o) ≡ pos 0 → o ≡ Done
run_done (Ok tt) e = refl
run_done (Err x) e = absurd (refusal_low x.why x.place 0 e)

short_not : (b : Bool) → cond b (Refused ShortPage 0) (let x : Outcome = Done in x) ≡ Done → b ≡ false
short_not true e = refused_not e
short_not false e = refl

enough : (s calls outcomes out : List ℕ) → (read_file s).outcome ≡ Done → run_outcome s calls outcomes out ≡ Done → length calls / 6 ≤ length outcomes
unfolding run_outcome
enough s calls outcomes out a e =
    let f : (ltb (length out) record_length || ltb (length outcomes) (length calls / 6)) ≡ false = short_not _ (rw a at e) in
    ltb-false (length outcomes) (length calls / 6) (or_false_right (ltb (length out) record_length) _ f)

-- the ticks of a list are its calls that are answered 0
code_done : (o : Outcome) → is_done o ≡ true → (of_outcome o).number ≡ 0
code_done (Ok tt) e = refl
code_done (Err x) e = absurd (not_both e refl)

CodesUpTo : ℕ → List Call → List ℕ → Type 0
CodesUpTo q cs rs = (i : ℕ) → i < length cs → get_or rs i 0 ≡ 0 → (call_at cs i).tempo ≤ q

codes_ticks : (pol : Policy) (q : ℕ) (d : Description) (cs : List Call) (m : Machine) → CodesUpTo q cs (codes (answers pol d m cs)) → UpTo q (ticks pol d m cs)
unfolding CodesUpTo ticks answers codes observe
codes_ticks pol q d [] m h = λ x p. absurd (omega arith)
codes_ticks pol q d (c ∷ cs) m h =
    go (is_done (plain_call pol d m c).outcome) refl (codes_ticks pol q d cs (plain_call pol d m c).machine (λ i p e. h (suc i) (omega arith) e))
  where
    go : (b : Bool) → is_done (plain_call pol d m c).outcome ≡ b → UpTo q (ticks pol d (plain_call pol d m c).machine cs) → UpTo q (ticks pol d m (c ∷ cs))
    go true f a = rw (f, ticks) (up_next q (observe pol d m c) (ticks pol d (plain_call pol d m c).machine cs) (h 0 (omega arith) (code_done (plain_call pol d m c).outcome f)) a)
    go false f a = rw (f, ticks) (rw (tick_refused pol d m c f) at a)

-- a run call that answered 0, no tick of it above what the quote call answered
pub bench_assured : (pol : Policy) (s calls outcomes out outcomes' out' : List ℕ) (q : ℕ) (quoted ran : ℤ) → AllBytes s
    → QuoteReplied pol s quoted → quoted ≡ pos q → RunReplied pol s calls outcomes out outcomes' out' ran → ran ≡ pos 0 → CallsUpTo q calls outcomes' → RunAssured pol s q calls outcomes' out'
unfolding filled_by record_bytes CodesUpTo
bench_assured pol s calls outcomes out outcomes' out' q quoted ran b told e R done up =
    let d = (read_file s).description in
    let cs = calls_in calls in
    let k : QuotedFile pol s q = quoted_file_lem pol s q b (quote_told (quoted_file pol s) q (sym told ∙ e)) in
    let o : run_outcome s calls outcomes out ≡ Done = run_done (run_outcome s calls outcomes out) (sym R.answer ∙ done) in
    let n : length (page pol d cs) ≡ length cs = codes_length pol d cs (idle d) in
    let w : ltb (length outcomes) (length cs) ≡ false = le-ltb (length outcomes) (length cs) (omega (arith, calls_length calls, enough s calls outcomes out k.accepted o)) in
    let f : outcomes' ≡ page pol d cs ++ drop (length cs) outcomes = rw (o, n, w) at R.codes in
    let g : out' ≡ record_bytes (left pol d (idle d) cs) ++ drop record_length out = rw o at R.bytes in
    let t : take (length cs) outcomes' ≡ page pol d cs = ap (take (length cs)) f ∙ take_at (page pol d cs) (drop (length cs) outcomes) (length cs) n in
    let slow : UpTo q (ticks pol d (idle d) cs) = codes_ticks pol q d cs (idle d) (λ i p z. let j : i < length calls / 6 = omega (arith, calls_length calls) in let c = calls_at calls i j in rw c (up i j (sym (get_or-take (length cs) outcomes' i 0 p) ∙ ap (λ (l : List ℕ). get_or l i 0) t ∙ z))) in
    record {
      answered = answers pol d (idle d) cs;
      machine = left pol d (idle d) cs;
      called = plain_calls pol d cs (idle d);
      told = t;
      kept = ap (take record_length) g ∙ take_at (record_bytes (left pol d (idle d) cs)) (drop record_length out) record_length (length-tab record_length (record_byte (left pol d (idle d) cs)));
      assured = plain_assured pol d q k.widths k.quoted cs slow;
    }

-- What the checker has as the `ensures` of the report, quote and run calls is what this asks of them, on each model: with a weaker one these fail.
module _ {M : Type 1} {𝓤 : Ura M} (𝓛 : Logic 𝓤) (mem : Memory → SProp 𝓤) (does : Routine → Fun 𝓤) where
  pub report_meets : (κs : Lfts 2) (x : Args report.signature κs) (r : ℤ) (e : AtExit report.ended κs)
      → ent 𝓤 ((report.clauses 𝓛 mem does κs x).ensures tt r e) (fact 𝓤 (ReportReplied Preemptive x.0.now x.1.0.now e.1.0.now r))
  report_meets κs x r e = id⊢ 𝓤 _

  pub hold_report_meets : (κs : Lfts 2) (x : Args hold-report.signature κs) (r : ℤ) (e : AtExit hold-report.ended κs)
      → ent 𝓤 ((hold-report.clauses 𝓛 mem does κs x).ensures tt r e) (fact 𝓤 (ReportReplied HoldOn x.0.now x.1.0.now e.1.0.now r))
  hold_report_meets κs x r e = id⊢ 𝓤 _

  pub quote_meets : (κs : Lfts 1) (x : Args quote.signature κs) (r : ℤ) (e : AtExit quote.ended κs)
      → ent 𝓤 ((quote.clauses 𝓛 mem does κs x).ensures tt r e) (fact 𝓤 (QuoteReplied Preemptive x.0.now r))
  quote_meets κs x r e = id⊢ 𝓤 _

  pub hold_quote_meets : (κs : Lfts 1) (x : Args hold-quote.signature κs) (r : ℤ) (e : AtExit hold-quote.ended κs)
      → ent 𝓤 ((hold-quote.clauses 𝓛 mem does κs x).ensures tt r e) (fact 𝓤 (QuoteReplied HoldOn x.0.now r))
  hold_quote_meets κs x r e = id⊢ 𝓤 _

  pub run_meets : (κs : Lfts 4) (x : Args run.signature κs) (r : ℤ) (e : AtExit run.ended κs)
      → ent 𝓤 ((run.clauses 𝓛 mem does κs x).ensures tt r e) (fact 𝓤 (RunReplied Preemptive x.0.now x.1.0.now x.1.1.0.now x.1.1.1.0.now e.1.1.0.now e.1.1.1.0.now r))
  run_meets κs x r e = id⊢ 𝓤 _

  pub hold_run_meets : (κs : Lfts 4) (x : Args hold-run.signature κs) (r : ℤ) (e : AtExit hold-run.ended κs)
      → ent 𝓤 ((hold-run.clauses 𝓛 mem does κs x).ensures tt r e) (fact 𝓤 (RunReplied HoldOn x.0.now x.1.0.now x.1.1.0.now x.1.1.1.0.now e.1.1.0.now e.1.1.1.0.now r))
  hold_run_meets κs x r e = id⊢ 𝓤 _

-- A run of many tick calls: the list of calls that its bytes stand for, its answer, the buffer it leaves, and what is assured of both.
use Rattle.std.specs.Prelude.{ℕ, ◌+◌, ◌*◌, ◌/◌, ◌%◌, ◌^◌, Bool, cond, not, List, [], ◌∷◌, ◌≡◌, length, get_or, take, eqb, ltb, Ok}
use Rattle.model.specs.declared.Description.{Description}
use Rattle.model.specs.declared.Policy.{Policy}
use Rattle.model.specs.declared.Ticked.{Ticked}
use Rattle.model.specs.Refusals.{Done, of_outcome, on_done}
use Rattle.model.specs.declared.Refusal.TheVariants.{ShortPage}
use Rattle.model.specs.Basics.{tab}
use Rattle.model.specs.Header.{number_in}
use Rattle.model.specs.File.{filled_by, judge}
use Rattle.model.specs.Verdicts.{quote_of}
use Rattle.model.specs.Machine.{idle, unstarted}
use Rattle.model.specs.History.{Call, answers, left, history}
use Rattle.model.specs.Promise.{Calls, UpTo, Assured}

-- the arrivals of a mask, whose bit u is source 33 + u
abbrev pub heard : ℕ → ℕ → Bool
heard mask u = eqb (mask / 2 ^ u % 2) 1

unfoldable pub marks_in : ℕ → List Bool
marks_in mask = tab 16 (heard mask)

-- a call in six bytes: the mask of its arrivals and its tempo, high byte first; finish, unless the byte is 0; and a byte that is not looked at
abbrev pub call_of : ℕ → ℕ → Bool → Call
call_of mask t finish = record { tempo = t; arrivals = record { marks = marks_in mask }; finish = finish }

abbrev pub call_in : List ℕ → ℕ → Call
call_in bytes i = call_of (number_in bytes (6 * i) 2) (number_in bytes (6 * i + 2) 2) (not (eqb (get_or bytes (6 * i + 4) 0) 0))

-- as many calls as the bytes have whole sixes
abbrev pub calls_in : List ℕ → List Call
calls_in bytes = tab (length bytes / 6) (call_in bytes)

-- a call's end as a byte: 0 for work done, or else the refusal's number
unfoldable pub codes : List Ticked → List ℕ
codes [] = []
codes (r ∷ rs) = (of_outcome r.outcome).number ∷ codes rs

-- the codes of the plain machine's answers
abbrev pub page : Policy → Description → List Call → List ℕ
page p d cs = codes (answers p d (idle d) cs)

-- the run's answer: 1 to 10 as judged, 13 where the buffer does not hold a byte for each call, or else the record after the last call
abbrev pub ran_from : Policy → Description → List Call → List ℕ → Ticked
ran_from p d cs buffer =
    cond (ltb (length buffer) (length cs))
    (unstarted ShortPage 0)
    (record { outcome = Done; machine = left p d (idle d) cs })

unfoldable pub ran : Policy → Description → List Call → List ℕ → Ticked
ran p d cs buffer = on_done (judge d) (ran_from p d cs buffer) unstarted

-- the buffer after it: "a refusal changes no byte of a lent buffer"
unfoldable pub page_ran : Policy → Description → List Call → List ℕ → List ℕ
page_ran p d cs buffer = on_done (judge d) (filled_by (page p d cs) buffer) (λ r place. buffer)

-- the promise of a run's own answer and buffer: its record is the one that a list of tick calls from the start leaves, the first bytes
-- of its buffer are the codes of those calls' answers, and of both all is assured
pub record RunAssured (p : Policy) (d : Description) (q : ℕ) (cs : List Call) (buffer : List ℕ) (r : Ticked) : Type 0 where
  pub answered : List Ticked
  pub called : Calls p d (idle d) cs answered r.machine
  pub told : take (length cs) buffer ≡ codes answered
  pub assured : Assured p d q cs answered r.machine

-- what the run call ensures of its answer and of the caller's buffer
pub record RunMeets (p : Policy) (d : Description) (cs : List Call) (buffer buffer' : List ℕ) (r : Ticked) : Type 0 where
  pub answer : r ≡ ran p d cs buffer
  pub filled : buffer' ≡ page_ran p d cs buffer
  pub assured : (q : ℕ) → quote_of p d ≡ Ok q → UpTo q (history p d cs) → r.outcome ≡ Done → RunAssured p d q cs buffer' r

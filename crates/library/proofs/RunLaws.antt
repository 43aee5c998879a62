-- A run for C and Rust by its checks: the file, the buffers, then the calls. Assumes nothing.
use Prim.Native.Nat.{ℕ, ◌/◌, ◌≤◌, ◌<◌}
use mathlib.Core.Path.{◌≡◌, refl, sym, ap, ◌∙◌}
use mathlib.Core.Bool.{Bool, true, false, cond, ◌||◌}
use mathlib.Core.List.{List, ◌++◌}
use native.Mathlib.Omega.{arith}
use lib.ListN.{length, drop}
use lib.Dec.{ltb}
use lib.IntN.{pos}
use borrow.Author.Tests.{lt-ltb, le-ltb}
use Rattle.model.specs.declared.Description.{Description}
use Rattle.model.specs.declared.Policy.{Policy}
use Rattle.model.specs.declared.Machine.{Machine}
use Rattle.model.specs.declared.Reading.{Reading}
use Rattle.model.specs.declared.Ticked.{Ticked}
use Rattle.model.specs.declared.Refusal.{Refusal}
use Rattle.model.specs.declared.Refusal.TheVariants.{ShortPage}
use Rattle.model.specs.Refusals.{Done, Refused, refusal, of_outcome}
use Rattle.model.specs.File.{read_file, judge, filled_by}
use Rattle.model.specs.Machine.{idle}
use Rattle.model.specs.History.{left}
use Rattle.theory.proofs.NumberBytes.{Bytes as AllBytes}
use Rattle.theory.proofs.FileLength.{place_in, read_place}
use Rattle.theory.proofs.ReadBack.{read_judged}
use Rattle.model.specs.Run.{calls_in, page, ran_from}
use Rattle.runs.proofs.RunLaws.{calls_length}
use Rattle.library.specs.Replies.{reply, run_outcome, codes_after, record_after}
use Rattle.layout.specs.Layout.{record_length, record_bytes}
use Rattle.library.proofs.Laws.{reply_done}

module _ (s : List ℕ) (x : Reading) (whole : x ≡ read_file s) where
  outcome_is : x.outcome ≡ (read_file s).outcome
  outcome_is = ap (λ (r : Reading). r.outcome) whole

  pub read_most : (r : Refusal) (p : ℕ) → x.outcome ≡ Refused r p → p ≤ 2128
  read_most r p e =
      let k : place_in (read_file s).outcome ≡ p = ap place_in (sym outcome_is ∙ e) in
      omega (arith, read_place s)

  pub read_done : AllBytes s → x.outcome ≡ Done → judge x.description ≡ Done
  read_done b e =
      let a : (read_file s).outcome ≡ Done = sym outcome_is ∙ e in
      rw whole (read_judged s b a)

  module _ (calls outcomes out : List ℕ) where
    -- the refusals in their order
    pub run_unread : (r : Refusal) (p : ℕ) → x.outcome ≡ Refused r p → run_outcome s calls outcomes out ≡ Refused r p
    unfolding run_outcome
    run_unread r p e = rw (sym outcome_is ∙ e) refl

    module _ (done : x.outcome ≡ Done) where
      short : (a b : Bool) → ltb (length out) record_length ≡ a → ltb (length outcomes) (length calls / 6) ≡ b → run_outcome s calls outcomes out ≡ cond (a || b) (Refused ShortPage 0) Done
      unfolding run_outcome
      short a b p q = rw (sym outcome_is ∙ done, p, q) refl

      pub run_short_record : length out < record_length → run_outcome s calls outcomes out ≡ Refused ShortPage 0
      run_short_record h = short true (ltb (length outcomes) (length calls / 6)) (lt-ltb (length out) record_length h) refl

      pub run_short_codes : record_length ≤ length out → length outcomes < length calls / 6 → run_outcome s calls outcomes out ≡ Refused ShortPage 0
      run_short_codes k h = short false true (le-ltb (length out) record_length k) (lt-ltb (length outcomes) (length calls / 6) h)

      pub run_whole : record_length ≤ length out → length calls / 6 ≤ length outcomes → run_outcome s calls outcomes out ≡ Done
      run_whole k h = short false false (le-ltb (length out) record_length k) (le-ltb (length outcomes) (length calls / 6) h)

    -- what is answered and left
    pub run_refused : (pol : Policy) (d : Description) (r : Refusal) (p : ℕ) → run_outcome s calls outcomes out ≡ Refused r p → (reply (refusal r p) ≡ reply (of_outcome (run_outcome s calls outcomes out))) × (outcomes ≡ codes_after pol (run_outcome s calls outcomes out) d calls outcomes) × (out ≡ record_after pol (run_outcome s calls outcomes out) d calls out)
    run_refused pol d r p e = (rw e refl, rw e refl, rw e refl)

    pub run_machine : (pol : Policy) (y : Ticked) → length calls / 6 ≤ length outcomes → y ≡ ran_from pol x.description (calls_in calls) outcomes → y.machine ≡ left pol x.description (idle x.description) (calls_in calls)
    run_machine pol y h e =
        ap (λ (k : Ticked). k.machine) e
        ∙ rw (le-ltb (length outcomes) (length (calls_in calls)) (omega (arith, calls_length calls))) refl

    pub run_does : (pol : Policy) (m : Machine) (codes' out' : List ℕ) → run_outcome s calls outcomes out ≡ Done → m ≡ left pol x.description (idle x.description) (calls_in calls) → codes' ≡ filled_by (page pol x.description (calls_in calls)) outcomes → out' ≡ record_bytes m ++ drop record_length out → (pos 0 ≡ reply (of_outcome (run_outcome s calls outcomes out))) × (codes' ≡ codes_after pol (run_outcome s calls outcomes out) (read_file s).description calls outcomes) × (out' ≡ record_after pol (run_outcome s calls outcomes out) (read_file s).description calls out)
    run_does pol m codes' out' e f g h =
        let filled : codes' ≡ filled_by (page pol (read_file s).description (calls_in calls)) outcomes = g ∙ ap (λ (r : Reading). filled_by (page pol r.description (calls_in calls)) outcomes) whole in
        let stored : out' ≡ record_bytes (left pol (read_file s).description (idle (read_file s).description) (calls_in calls)) ++ drop record_length out = h ∙ ap (λ (k : Machine). record_bytes k ++ drop record_length out) (f ∙ ap (λ (r : Reading). left pol r.description (idle r.description) (calls_in calls)) whole) in
        (rw e (reply_done 0), rw e filled, rw e stored)

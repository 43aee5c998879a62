use Prim.Native.Nat.{ℕ, ◌+◌, ◌*◌, ◌≤◌}
use mathlib.Core.Path.{◌≡◌, sym, ◌∙◌}
use mathlib.Core.Bool.{true, ◌&&◌}
use mathlib.Core.List.{List}
use native.Mathlib.Omega.{arith}
use lib.ListN.{get_or, length-set}
use lib.Dec.{eqb, leb}
use borrow.Author.Tests.{eqb-true, leb-true}
use Rattle.model.specs.Header.{number_in}
use Rattle.lemmas.proofs.Tests.{not_both, and_left, and_right}
use Rattle.lemmas.proofs.Table.{under}
use Rattle.passing.proofs.StoreLaws.{store_turn}
use Rattle.passing.proofs.skip.Goals as goal
use Rattle.passing.proofs.skip.Goals.{else-runs-via-then-runs+else-calls-k-ne0, else-runs-via-else-runs}

-- a call that is passed
abbrev Quiet : List ℕ → ℕ → ℕ → Type 0
Quiet calls peak k = (number_in calls (6 * k) 2 ≡ 0) × (200 ≤ number_in calls (6 * k + 2) 2) × (number_in calls (6 * k + 2) 2 ≤ peak)

pub loop-k-preserved : goal.loop-k-preserved
loop-k-preserved c =
    let A = c.args in
    let L = c.loop-k in
    let i = L.k in
    let t = number_in A.calls.now (6 * i + 2) 2 in
    let both : (eqb (number_in A.calls.now (6 * i) 2) 0 && (leb t A.peak && leb 200 t)) ≡ true = sym c.quiet_at.ensures ∙ c.if-not-quiet_at.false in
    let on : (leb t A.peak && leb 200 t) ≡ true = and_right (eqb (number_in A.calls.now (6 * i) 2) 0) _ both in
    let here : Quiet A.calls.now A.peak i = (eqb-true _ 0 (and_left _ _ both), leb-true 200 t (and_right (leb t A.peak) _ on), leb-true t A.peak (and_left (leb t A.peak) _ on)) in
    let last : A.runs ≡ true → get_or A.calls.now (6 * i + 4) 0 ≡ 0 = λ r. elim c.else-runs.branch [ else-runs-via-then-runs+else-calls-k-ne0 w ↦ w.if-calls-k-ne0.false | else-runs-via-else-runs w ↦ absurd (not_both r w.if-runs.false) ] in
    record {
      on = omega (arith, L.invariant.on);
      most = omega (arith, c.loop-k-test.true);
      sized = length-set L.outcomes i 0 ∙ L.invariant.sized;
      quiet = λ k a b. under (λ x. A.from ≤ x → Quiet A.calls.now A.peak x) i (λ x y z. L.invariant.quiet x z y) (λ z. here) k b a;
      unfinished = λ r k a b. under (λ x. A.from ≤ x → get_or A.calls.now (6 * x + 4) 0 ≡ 0) i (λ x y z. L.invariant.unfinished r x z y) (λ z. last r) k b a;
      stored = λ text out a b f e. store_turn out L.outcomes text i 0 (omega arith) (omega arith) (L.invariant.stored text out (omega arith) (omega arith) (λ k x y. f k x (omega arith)) e) (sym (f i L.invariant.on (omega arith)));
    }

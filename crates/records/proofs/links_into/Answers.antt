use Prim.Native.Nat.{◌<◌}
use mathlib.Core.Path.{sym, ap, ◌∙◌}
use mathlib.Core.Bool.{true, false}
use native.Mathlib.Omega.{arith}
use Rattle.std.proofs.lemmas.List.{length-take}
use Rattle.lemmas.proofs.Range.{any_none}
use Rattle.sets.specs.Wide.{inside}
use Rattle.records.proofs.RecordLaws.{into_more}
use Rattle.records.proofs.links_into.Goals as goal
use Rattle.records.proofs.links_into.Goals.{then-has, else-has}

pub loop-k-init : goal.loop-k-init
loop-k-init c = λ l. c.none-set.ensures l ∙ sym (any_none _ 0 0 (λ k a b. absurd (omega arith)))

pub loop-k-preserved : goal.loop-k-preserved
loop-k-preserved c =
    let A = c.args in
    let k = c.loop-k.k in
    let low : k < 33 = omega (arith, c.loop-k-test.true, length-take 33 A.rows.now) in
    elim c.if-has.branch [
      | then-has w ↦ into_more A.rows.now A.tasks k low c.loop-k.set c.if-has.set true (sym w.if-has.true ∙ c.has.ensures) (λ l. ap (λ s. inside s l) w.set-is ∙ w.union-set.ensures l) c.loop-k.invariant
      | else-has w ↦ into_more A.rows.now A.tasks k low c.loop-k.set c.if-has.set false (sym w.if-has.false ∙ c.has.ensures) (λ l. ap (λ s. inside s l) w.set-is) c.loop-k.invariant
    ]

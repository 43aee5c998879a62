use Prim.Native.Nat.{◌+◌, ◌/◌, ◌%◌, ◌^◌}
use mathlib.Core.Path.{◌≡◌, refl, ap, ◌∙◌}
use lib.ListN.{get_or, length-set}
use lib.Seq.{get_or-set_other}
use Rattle.lemmas.proofs.Table.{stored}
use Rattle.wheels.specs.Wheel.{waste_on}
use Rattle.wheels.proofs.Steps.{waste_none, waste_more, turn_far}
use native.Mathlib.Omega.{arith}
use Rattle.wheels.proofs.stretches.Wheels.waste_passed.Goals as goal

pub loop-k-init : goal.loop-k-init
loop-k-init c =
    let a = c.args in
    (c.told-turns, (λ j p. absurd (omega arith)), (λ j p. refl), waste_none (2 ^ a.self.now.block.shift) a.self.now.places.now a.self.now.table.now a.turns.now, omega arith)

pub loop-k-preserved : goal.loop-k-preserved
loop-k-preserved c =
    let a = c.args in
    let w = a.self.now in
    let L = c.loop-k in
    let v = c.turned.result in
    -- the block that the wheel stands in, and its entry in the table
    let standing : c.of.result ≡ get_or a.turns.now L.k 0 / 2 ^ w.block.shift = c.of.ensures ∙ ap (λ x. x / 2 ^ w.block.shift) (L.invariant.2 L.k (omega arith)) in
    let e : get_or w.table.now (get_or w.places.now L.k 0 + c.of.result) 0 ≡ get_or w.table.now (get_or w.places.now L.k 0 + get_or a.turns.now L.k 0 / 2 ^ w.block.shift) 0 = ap (λ x. get_or w.table.now (get_or w.places.now L.k 0 + x) 0) standing in (
      length-set L.turns L.k v ∙ L.invariant.0,
      stored (λ j x. x ≡ (get_or a.turns.now j 0 + a.width) % get_or w.plan.now.periods j 0) 0 L.turns L.k v (omega (arith, L.invariant.0, w.placed.few)) L.invariant.1
          (c.turned.ensures ∙ ap (λ x. (x + a.width) % get_or w.plan.now.periods L.k 0) (L.invariant.2 L.k (omega arith))),
      (λ j p. get_or-set_other L.turns L.k j v 0 (λ e. omega arith) ∙ L.invariant.2 j (omega arith)),
      omega (arith, L.invariant.3, e, waste_more (2 ^ w.block.shift) w.places.now w.table.now a.turns.now L.k),
      omega (arith, L.invariant.4),
    )

pub returns : goal.returns
returns c =
    let a = c.args in
    let w = a.self.now in
    let L = c.loop-k in
    let e : L.k ≡ w.built.count = omega arith in (
      L.invariant.3 ∙ ap (λ x. waste_on (2 ^ w.block.shift) w.places.now w.table.now a.turns.now x) e,
      omega (arith, L.invariant.4, w.placed.few),
      λ d o t. record { sized = L.invariant.0; at = λ k p. turn_far d a.width (get_or w.plan.now.periods k 0) (get_or a.turns.now k 0) (get_or L.turns k 0) o (t.at k p) (L.invariant.1 k (omega arith)) },
    )

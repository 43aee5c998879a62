use mathlib.Core.Path.{◌∙◌}
use native.Mathlib.Omega.{arith}
use Rattle.rounds.proofs.Laws.{counted_part, part_most}
use Rattle.wheels.proofs.Steps.{left_none, left_on, left_off}
use Rattle.wheels.proofs.stretches.left_of.Goals as goal
use Rattle.wheels.proofs.stretches.left_of.Goals.{then-count-wheels, else-count-wheels}

pub loop-u-init : goal.loop-u-init
loop-u-init c =
    let y = c.args.level.now in
    ((λ p q. left_none y.start y.loads.now y.gaps.now c.args.wheels.now c.args.count p), omega (arith, y.on_scale.start_most))

pub brought-rest-requires : goal.brought-rest-requires
brought-rest-requires c =
    let y = c.args.level.now in
    (y.on_scale.gap_some c.loop-u.u (omega arith), part_most y.start y.loads.now y.gaps.now y.count c.args.ends.now y.on_scale c.requires c.loop-u.u (omega arith))

pub overflow_add-rest : goal.overflow_add-rest
overflow_add-rest c =
    let y = c.args.level.now in
    omega
    (arith, c.brought-rest.ensures, part_most y.start y.loads.now y.gaps.now y.count c.args.ends.now y.on_scale c.requires c.loop-u.u (omega arith), c.loop-u.invariant.1, y.on_scale.few)

pub loop-u-preserved : goal.loop-u-preserved
loop-u-preserved c =
    let a = c.args in
    let y = a.level.now in
    let wheels = a.wheels.now in
    let count = a.count in
    let L = c.loop-u in
    let u = L.u in
    elim c.if-count-wheels.branch [
      | then-count-wheels w ↦ rw w.rest-is (
        (λ p q. omega (arith, L.invariant.0 p q, w.brought-rest.ensures, counted_part y.start y.loads.now y.gaps.now y.count p a.ends.now y.on_scale q u (omega arith), left_off y.start y.loads.now y.gaps.now wheels count p u w.if-count-wheels.true)),
        omega (arith, L.invariant.1, w.brought-rest.ensures, part_most y.start y.loads.now y.gaps.now y.count a.ends.now y.on_scale c.requires u (omega arith)),
      )
      | else-count-wheels w ↦ rw w.rest-is ((λ p q. L.invariant.0 p q ∙ left_on y.start y.loads.now y.gaps.now wheels count p u w.if-count-wheels.false), omega (arith, L.invariant.1))
    ]

use Prim.Native.Nat.{◌≤◌, ◌<◌}
use mathlib.Core.Path.{◌≡◌}
use Rattle.rounds.specs.Level.{round_in, Jump}
use Rattle.rounds.proofs.Laws.{lower_round, reach_fixed, reach_over}
use Rattle.wheels.specs.Wheel.{left_in, RestFrom}
use Rattle.wheels.proofs.Laws.{left_mono, left_most}
use native.Mathlib.Omega.{arith}
use Rattle.reach.proofs.rounds_between.Goals as goal
use Rattle.reach.proofs.rounds_between.Goals.{then-jumps, else-jumps}

pub returns-then-sum-d : goal.returns-then-sum-d
returns-then-sum-d c =
    let a = c.args in
    let y = a.level.now in
    let L = c.loop-sum in
    (reach_fixed y.start y.loads.now y.gaps.now y.count a.limit L.d y.on_scale L.invariant.0.lower L.invariant.1 L.invariant.0.most (omega (arith, L.invariant.2, c.if-sum-d.true)), tt)

pub jumped-far-requires : goal.jumped-far-requires
jumped-far-requires c =
    let a = c.args in
    let y = a.level.now in
    let L = c.loop-sum in
    let e : L.sum ≡ round_in y.start y.loads.now y.gaps.now y.count L.d = L.invariant.2 in (
      record {
        place = L.d;
        counted = L.invariant.3;
        some = omega (arith, e, c.if-sum-d.false);
        most = omega (arith, e, c.loop-sum-test.true, c.requires.0);
        lower = L.invariant.0.lower;
      },
      c.fill_shares.ensures,
      record {
        lower = rw e (lower_round y.start y.loads.now y.gaps.now y.count L.d y.on_scale L.invariant.0.lower);
        most = omega (arith, c.loop-sum-test.true);
      },
    )

pub pass-d-requires : goal.pass-d-requires
pass-d-requires c =
    let a = c.args in
    let w = a.wheels.now in
    let y = a.level.now in
    let L = c.loop-sum in
    let e : c.left_of-rest.result ≡ left_in y.start y.loads.now y.gaps.now w.plan.now.wheels y.count w.built.count L.d = c.left_of-rest.ensures L.d L.invariant.3 in
    let far : L.sum ≤ c.if-jumps.far = elim c.if-jumps.branch [ then-jumps w ↦ rw w.far-is w.jumped-far.ensures.1 | else-jumps w ↦ rw w.far-is (omega arith) ] in
    let near : c.if-jumps.far ≤ a.limit = elim c.if-jumps.branch [ then-jumps w ↦ rw w.far-is w.jumped-far.ensures.0.most | else-jumps w ↦ rw w.far-is (omega (arith, c.loop-sum-test.true)) ] in (
      omega (arith, e, left_most y.start y.loads.now y.gaps.now w.plan.now.wheels y.count w.built.count L.d, L.invariant.2, c.loop-sum-test.true, c.requires.0),
      omega (arith, far, c.if-sum-d.false),
      near,
      c.requires.0,
    )

pub loop-sum-preserved : goal.loop-sum-preserved
loop-sum-preserved c =
    let a = c.args in
    let w = a.wheels.now in
    let y = a.level.now in
    let L = c.loop-sum in
    let e : L.sum ≡ round_in y.start y.loads.now y.gaps.now y.count L.d = L.invariant.2 in
    let plain : Jump y.start y.loads.now y.gaps.now y.count a.limit L.sum = record { lower = rw e (lower_round y.start y.loads.now y.gaps.now y.count L.d y.on_scale L.invariant.0.lower); most = omega (arith, c.loop-sum-test.true) } in
    let next : Jump y.start y.loads.now y.gaps.now y.count a.limit c.if-jumps.far = elim c.if-jumps.branch [ then-jumps w ↦ rw w.far-is w.jumped-far.ensures.0 | else-jumps w ↦ rw w.far-is plain ] in
    let far : L.sum ≤ c.if-jumps.far = elim c.if-jumps.branch [ then-jumps w ↦ rw w.far-is w.jumped-far.ensures.1 | else-jumps w ↦ rw w.far-is (omega arith) ] in
    -- the next d is above d
    let up : L.d < c.pass-d.result = omega (arith, c.pass-d.ensures.1, far, c.if-sum-d.false) in
    let rest : RestFrom y.start y.loads.now y.gaps.now w.plan.now.wheels y.count w.built.count c.if-jumps.far c.left_of-rest.result = λ Z z. omega (arith, c.left_of-rest.ensures L.d L.invariant.3, left_mono y.start y.loads.now y.gaps.now w.plan.now.wheels y.count w.built.count L.d Z y.on_scale (omega (arith, far, c.if-sum-d.false))) in (
      record {
        lower = c.pass-d.ensures.0 y.start y.loads.now y.gaps.now w.plan.now.wheels y.count y.on_scale c.requires.2.on c.requires.2.leaves rest next.lower;
        most = c.pass-d.ensures.2;
      },
      omega (arith, up, L.invariant.1),
      c.round_at-sum-in-loop-sum.ensures.0,
      c.round_at-sum-in-loop-sum.ensures.1,
      omega (arith, up, L.invariant.4),
      omega (arith, c.pass-d.ensures.1, L.invariant.5, far, c.if-sum-d.false),
    )

pub returns : goal.returns
returns c =
    let a = c.args in
    let y = a.level.now in
    let L = c.loop-sum in
    (reach_over y.start y.loads.now y.gaps.now y.count a.limit L.d y.on_scale L.invariant.0.lower (omega (arith, L.invariant.2, c.loop-sum-test.false)), tt)

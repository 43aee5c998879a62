use Prim.Native.Nat.{◌≤◌}
use mathlib.Core.Path.{◌≡◌}
use native.Mathlib.Omega.{arith}
use Rattle.rounds.specs.Level.{round_in, Shares, Jump}
use Rattle.rounds.proofs.Laws.{lower_start, lower_round, reach_fixed, reach_over, round_in-start, shares_none}
use Rattle.rounds.proofs.Level.few_rounds.Goals as goal
use Rattle.rounds.proofs.Level.few_rounds.Goals.{then-rounds-eq32, else-rounds-eq32, then-jumps, else-jumps}

pub returns-then-limit-self : goal.returns-then-limit-self
returns-then-limit-self c =
    let a = c.args in
    let y = a.self.now in
    reach_over y.start y.loads.now y.gaps.now y.count a.limit y.start y.on_scale (lower_start y.start y.loads.now y.gaps.now y.count)
    (omega (arith, c.if-limit-self.true, round_in-start y.start y.loads.now y.gaps.now y.count y.start))

pub loop-sum-init : goal.loop-sum-init
loop-sum-init c =
    let a = c.args in
    let y = a.self.now in (
      record { lower = lower_start y.start y.loads.now y.gaps.now y.count; most = omega (arith, c.if-limit-self.false) },
      omega arith,
      c.round_at-sum.ensures.0,
      c.round_at-sum.ensures.1,
      shares_none y.start y.loads.now y.gaps.now y.count y.on_scale,
      omega arith,
    )

pub returns-then-sum-d : goal.returns-then-sum-d
returns-then-sum-d c =
    let a = c.args in
    let y = a.self.now in
    let L = c.loop-sum in
    reach_fixed y.start y.loads.now y.gaps.now y.count a.limit L.d y.on_scale L.invariant.0.lower L.invariant.1 L.invariant.0.most (omega (arith, L.invariant.2, c.if-sum-d.true))

pub jumped-d-requires : goal.jumped-d-requires
jumped-d-requires c =
    let a = c.args in
    let y = a.self.now in
    let L = c.loop-sum in
    let e : L.sum ≡ round_in y.start y.loads.now y.gaps.now y.count L.d = L.invariant.2 in (
      record {
        place = L.d;
        counted = L.invariant.3;
        some = omega (arith, e, c.if-sum-d.false);
        most = omega (arith, e, c.loop-sum-test.true, c.requires);
        lower = L.invariant.0.lower;
      },
      elim c.if-rounds-eq32.branch [ then-rounds-eq32 w ↦ rw w.shares-is w.fill_shares.ensures | else-rounds-eq32 w ↦ rw w.shares-is L.invariant.4 ],
      record {
        lower = rw e (lower_round y.start y.loads.now y.gaps.now y.count L.d y.on_scale L.invariant.0.lower);
        most = omega (arith, c.loop-sum-test.true);
      },
    )

pub returns : goal.returns
returns c =
    let a = c.args in
    let y = a.self.now in
    let L = c.loop-sum in
    reach_over y.start y.loads.now y.gaps.now y.count a.limit L.d y.on_scale L.invariant.0.lower (omega (arith, L.invariant.2, c.loop-sum-test.false))

pub loop-sum-preserved : goal.loop-sum-preserved
loop-sum-preserved c =
    let a = c.args in
    let y = a.self.now in
    let L = c.loop-sum in
    let filled : Shares y.loads.now y.gaps.now y.count c.if-rounds-eq32.shares = elim c.if-rounds-eq32.branch [ then-rounds-eq32 w ↦ rw w.shares-is w.fill_shares.ensures | else-rounds-eq32 w ↦ rw w.shares-is L.invariant.4 ] in
    let e : L.sum ≡ round_in y.start y.loads.now y.gaps.now y.count L.d = L.invariant.2 in
    let plain : Jump y.start y.loads.now y.gaps.now y.count a.limit L.sum = record { lower = rw e (lower_round y.start y.loads.now y.gaps.now y.count L.d y.on_scale L.invariant.0.lower); most = omega (arith, c.loop-sum-test.true) } in
    let next : Jump y.start y.loads.now y.gaps.now y.count a.limit c.if-jumps.d = elim c.if-jumps.branch [ then-jumps w ↦ rw w.d-is w.jumped-d.ensures.0 | else-jumps w ↦ rw w.d-is plain ] in
    let far : L.sum ≤ c.if-jumps.d = elim c.if-jumps.branch [ then-jumps w ↦ rw w.d-is w.jumped-d.ensures.1 | else-jumps w ↦ rw w.d-is (omega arith) ] in
    let now = c.next_reach-sum.ensures y.start L.d (omega (arith, far, c.if-sum-d.false)) L.invariant.3 e in
    (next, omega (arith, far, L.invariant.1, c.if-sum-d.false), now.0, now.1, filled, omega (arith, c.if-rounds-ge256.false))

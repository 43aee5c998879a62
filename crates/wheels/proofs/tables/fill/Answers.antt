use Prim.Native.Nat.{◌≤◌, ◌<◌, ◌+◌, ◌*◌, ◌/◌}
use native.Mathlib.Nat.{mul-le-mul_right}
use Rattle.rounds.proofs.Laws.{level_any}
use Rattle.wheels.proofs.Laws.{round_light}
use Rattle.wheels.proofs.Steps.{filling_more, block_of}
use native.Mathlib.Omega.{arith}
use Rattle.wheels.proofs.tables.fill.Goals as goal

pub next_reach-sum-requires : goal.next_reach-sum-requires
next_reach-sum-requires c =
    let a = c.args in
    let L = c.loop-done in
    let n = L.invariant.3 in
    let y = a.part.now in
    let g = level_any y.start y.loads.now y.gaps.now y.count y.on_scale in
    (omega (arith, L.invariant.0, a.row.short), omega (arith, n.total, round_light a.part.now.loads.now a.part.now.gaps.now a.part.now.count n.last g c.requires.1 (omega (arith, n.near, L.invariant.1, L.invariant.0, a.row.short))))

pub loop-done-preserved : goal.loop-done-preserved
loop-done-preserved c =
    let blocks : (c.loop-done.done / c.args.row.block < c.args.row.entries) × (c.loop-done.done / c.args.row.block * c.args.row.block ≤ c.loop-done.done) × (c.loop-done.done < (c.loop-done.done / c.args.row.block + 1) * c.args.row.block) × ((c.loop-done.done / c.args.row.block + 1) * c.args.row.block ≤ c.args.row.entries * c.args.row.block) = block_of c.loop-done.done c.args.row.block c.args.row.entries c.args.row.some (omega (arith, c.loop-done.invariant.0, c.loop-done-test.true)) in
    let a = c.args in
    let L = c.loop-done in
    let b = blocks in
    let y = a.part.now in
    let g = level_any y.start y.loads.now y.gaps.now y.count y.on_scale in
    let x = c.next_reach-sum.ensures 0 L.invariant.3.last (omega (arith, L.invariant.3.near)) L.invariant.3.counted L.invariant.3.total in
    let q = c.min-end in
    let up : L.done < q.result = omega (arith, c.quiet_end-quiet.ensures, c.max.ensures, q.ensures, b.2) in (
      L.invariant.0,
      omega (arith, q.ensures, b.3, L.invariant.0),
      filling_more a.part.now.loads.now a.part.now.gaps.now a.part.now.count a.flow a.row.block a.row.place L.done q.result (L.done / a.row.block) c.next_reach-sum.result c.waste.result c.min.result a.table.now L.table
          g L.invariant.2 (omega (arith, b.0, a.row.inside)) b.1 up (omega (arith, q.ensures)) x.0 c.waste.ensures (omega (arith, c.min.ensures)) (omega (arith, c.min.ensures)),
      record { last = L.done + 1; near = omega (arith, up); counted = x.1; total = x.0 },
    )

pub returns : goal.returns
returns c =
    let a = c.args in
    let L = c.loop-done in
    let f = L.invariant.2 in
    record {
      sized = f.sized;
      at = λ i z e p q. f.at i z p q (omega (arith, L.invariant.0, mul-le-mul_right {m = i + 1} {n = a.row.entries} a.row.block (omega arith)));
      before = f.below;
    }

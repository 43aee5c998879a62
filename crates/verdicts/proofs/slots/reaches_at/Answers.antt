use Prim.Native.Nat.{◌+◌}
use mathlib.Core.List.{[]}
use mathlib.Core.Path.{◌∙◌}
use native.Mathlib.Omega.{arith}
use lib.ListN.{get_or, length-set}
use Rattle.verdicts.proofs.TableLaws.{reaches_more, reach_most}
use Rattle.verdicts.proofs.slots.reaches_at.Goals as goal

pub overflow_add-reaches : goal.overflow_add-reaches
overflow_add-reaches c =
    let j = c.loop-j.j in
    let t = c.args.t.now in
    omega (arith, reach_most (get_or t.starts j 0) (get_or t.levels j []) c.args.gaps.now c.args.m c.saturating_sub-limit.result, c.level_reach.ensures, c.saturating_sub-limit.ensures, c.requires.2 j, c.from-tail.ensures, c.requires.0.tail_most j c.loop-j-test.true)

pub loop-j-preserved : goal.loop-j-preserved
loop-j-preserved c =
    let L = c.loop-j in
    let a = c.args in
    let tail = c.from-tail.result in
    (length-set L.reaches L.j (c.level_reach.result + tail) ∙ L.invariant.0, reaches_more a.t.now a.gaps.now a.limits.now a.n a.m L.reaches L.j c.level_reach.result tail c.saturating_sub-limit.result c.loop-j-test.true c.requires.0.few_tasks L.invariant.0 c.from-tail.ensures c.saturating_sub-limit.ensures c.level_reach.ensures L.invariant.1)

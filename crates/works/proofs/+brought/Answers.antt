use native.Mathlib.Omega.{arith}
use mathlib.Core.Path.{◌≡◌}
use mathlib.Core.List.{[]}
use Prim.Native.Nat.{◌+◌}
use Rattle.paths.specs.Paths.Through.{one}
use Rattle.paths.specs.Rows.{Brought}
use Rattle.works.specs.Works.{SetMemo}
use Rattle.works.proofs.Bringing.{through_falls, cycle_free}
use Rattle.works.proofs.Gathering.{linked_node, gathered_none, gathered_more, gathered_all}
use Rattle.works.proofs.Working.{noted, memo_put}
use Rattle.works.proofs.+brought.Goals as goal
use Rattle.works.proofs.+brought.Goals.{then-through-eq0, else-through-eq0}

pub loop-left-init : goal.loop-left-init
loop-left-init t c =
    let p = c.requires in
    (gathered_none c.args.wired.now.succ.now c.args.wired.now.count c.args.i p.0 c.below-links.result c.below-links.ensures, p.1)

pub bounds-brings-k : goal.bounds-brings-k
bounds-brings-k t c =
    omega (arith, linked_node c.args.wired.now.succ.now c.args.wired.now.count c.args.wired.now.ready.few c.args.i c.first-k.result (c.loop-left.invariant.0.links c.first-k.result c.first-k.ensures.in_set))

pub brought-through-requires : goal.brought-through-requires
brought-through-requires t c =
    let L = c.loop-left in
    let p = c.requires in
    let l = L.invariant.0.links c.first-k.result c.first-k.ensures.in_set in
    let h = through_falls c.args.wired.now.succ.now [] c.args.wired.now.count (cycle_free c.args.wired.now.succ.now c.args.wired.now.runs.now c.args.wired.now.count c.args.wired.now.ready.no_cycle) 0 (one l) in
    let e = c.decreases in
    (omega arith, (linked_node c.args.wired.now.succ.now c.args.wired.now.count c.args.wired.now.ready.few c.args.i c.first-k.result l, L.invariant.1))

pub loop-left-preserved : goal.loop-left-preserved
loop-left-preserved t c =
    let L = c.loop-left in
    let p = c.requires in
    let N = linked_node c.args.wired.now.succ.now c.args.wired.now.count c.args.wired.now.ready.few c.args.i c.first-k.result (L.invariant.0.links c.first-k.result c.first-k.ensures.in_set) in
    -- the set of the link's task, from the memo or found
    let J : Brought c.args.wired.now.succ.now c.args.wired.now.count (c.first-k.result + 1) c.if-through-eq0.through × SetMemo c.args.wired.now.succ.now c.args.wired.now.count c.if-through-eq0.brings =
    elim c.if-through-eq0.branch [
      | then-through-eq0 w ↦ (rw w.through-is w.brought-through.ensures.0, rw w.brings-is w.brought-through.ensures.1)
      | else-through-eq0 w ↦ (rw w.through-is (noted (Brought c.args.wired.now.succ.now c.args.wired.now.count) 48 L.brings c.first-k.result N L.invariant.1 w.if-through-eq0.false), rw w.brings-is L.invariant.1)
    ]
    in
    (gathered_more c.args.wired.now.succ.now c.args.wired.now.count c.args.i p.0 L.left c.rest-left.result L.set c.union-set.result c.first-k.result c.below-low.result c.if-through-eq0.through L.invariant.0 c.first-k.ensures c.rest-left.ensures J.0 c.below-low.ensures c.union-set.ensures, J.1)

pub returns : goal.returns
returns t c =
    let L = c.loop-left in
    let p = c.requires in
    let e : L.left ≡ 0 = omega arith in
    let B = gathered_all c.args.wired.now.succ.now c.args.wired.now.count c.args.i p.0 L.set (rw e at L.invariant.0) in
    (B, memo_put (Brought c.args.wired.now.succ.now c.args.wired.now.count) 48 L.brings c.args.i L.set p.0 L.invariant.1 B)

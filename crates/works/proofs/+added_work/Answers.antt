use native.Mathlib.Omega.{arith}
use Prim.Native.Nat.{◌+◌}
use mathlib.Core.Path.{◌≡◌, sym, ◌∙◌}
use Rattle.lemmas.proofs.Tests.{not_both}
use Rattle.paths.specs.Rows.{graph}
use Rattle.works.specs.Works.{WorkIs}
use Rattle.works.proofs.Bringing.{through_falls, added_in, added_out}
use Rattle.works.proofs.Working.{work_to-more, work_to-start, work_to-end, work_to-most, memo_put}
use Rattle.works.proofs.+added_work.Goals as goal

pub added-set_of-requires : goal.added-set_of-requires
added-set_of-requires t c =
    let p = c.requires in
    (p.0, p.2)

pub added-returns-then-noted-gt0 : goal.added-returns-then-noted-gt0
added-returns-then-noted-gt0 t c =
    let p = c.requires in
    let path = c.set_of.ensures.0.only c.args.j p.1 (sym c.has.ensures ∙ c.if-has.true) in
    (p.3.right c.args.j p.1 c.if-noted-gt0.true ∙ sym (added_in c.args.wired.now.succ.now c.args.wired.now.runs.now c.args.wired.now.count c.args.wired.now.ready.no_cycle c.args.j path), c.set_of.ensures.1, p.3)

pub added-work-requires : goal.added-work-requires
added-work-requires t c =
    let p = c.requires in
    let path = c.set_of.ensures.0.only c.args.j p.1 (sym c.has.ensures ∙ c.if-has.true) in
    let h = through_falls c.args.wired.now.succ.now c.args.wired.now.runs.now c.args.wired.now.count c.args.wired.now.ready.no_cycle c.args.j path in
    let e = c.decreases in
    (omega arith, (p.1, c.set_of.ensures.1, p.3))

pub added-returns-then-has : goal.added-returns-then-has
added-returns-then-has t c =
    let p = c.requires in
    let path = c.set_of.ensures.0.only c.args.j p.1 (sym c.has.ensures ∙ c.if-has.true) in
    (c.work.ensures.0 ∙ sym (added_in c.args.wired.now.succ.now c.args.wired.now.runs.now c.args.wired.now.count c.args.wired.now.ready.no_cycle c.args.j path), c.work.ensures.1, c.work.ensures.2)

pub added-returns : goal.added-returns
added-returns t c =
    let p = c.requires in
    let e = added_out c.args.wired.now.succ.now c.args.wired.now.runs.now c.args.wired.now.count c.args.wired.now.ready.no_cycle c.args.i c.args.j (λ path. not_both (c.set_of.ensures.0.all c.args.j p.1 path) (sym c.has.ensures ∙ c.if-has.false)) in
    (sym e, c.set_of.ensures.1, p.3)

pub work-loop-k-init : goal.work-loop-k-init
work-loop-k-init t c =
    let p = c.requires in
    (c.from-sum.ensures ∙ sym (work_to-start c.args.wired.now.succ.now c.args.wired.now.runs.now c.args.wired.now.count c.args.wired.now.ready c.args.j p.0), p.1, p.2)

pub work-overflow_add-sum : goal.work-overflow_add-sum
work-overflow_add-sum t c =
    let L = c.loop-k in
    let p = c.requires in
    let s = graph c.args.wired.now.succ.now c.args.wired.now.runs.now c.args.wired.now.count in
    let most = work_to-most c.args.wired.now.succ.now c.args.wired.now.runs.now c.args.wired.now.count c.args.wired.now.ready c.args.j (L.k + 1 + 1) p.0 (omega arith) in
    omega (arith, most, work_to-more s c.args.j (L.k + 1) (omega arith), c.added-a.ensures.0, L.invariant.0)

pub work-loop-k-preserved : goal.work-loop-k-preserved
work-loop-k-preserved t c =
    let L = c.loop-k in
    let s = graph c.args.wired.now.succ.now c.args.wired.now.runs.now c.args.wired.now.count in
    (omega (arith, work_to-more s c.args.j (L.k + 1) (omega arith), c.added-a.ensures.0, L.invariant.0), c.added-a.ensures.1, c.added-a.ensures.2)

pub work-returns : goal.work-returns
work-returns t c =
    let L = c.loop-k in
    let p = c.requires in
    let e : L.k ≡ c.args.wired.now.count = omega arith in
    let w = rw e at L.invariant.0 ∙ work_to-end c.args.wired.now.succ.now c.args.wired.now.runs.now c.args.wired.now.count c.args.wired.now.ready c.args.j in
    (w, L.invariant.1, memo_put (WorkIs (graph c.args.wired.now.succ.now c.args.wired.now.runs.now c.args.wired.now.count)) c.args.wired.now.count L.known c.args.j L.sum p.0 L.invariant.2 w)

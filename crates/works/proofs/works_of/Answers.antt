use native.Mathlib.Omega.{arith}
use Prim.Native.Nat.{suc, ◌+◌, ◌-◌}
use mathlib.Core.Path.{◌≡◌}
use Rattle.model.specs.Loads.{work}
use Rattle.paths.specs.Rows.{Brought, graph}
use Rattle.works.specs.Works.{WorkIs}
use Rattle.works.proofs.Working.{graph_work, memo_none, works_none, works_put, works_end}
use Rattle.works.proofs.works_of.Goals as goal

pub loop-j-init : goal.loop-j-init
loop-j-init c =
    let s = graph c.args.wired.now.succ.now c.args.wired.now.runs.now c.args.wired.now.count in
    (memo_none (Brought c.args.wired.now.succ.now c.args.wired.now.count) 48 48 (omega arith), memo_none (WorkIs s) c.args.wired.now.count 32 c.args.wired.now.ready.few, works_none s c.args.wired.now.count)

pub loop-j-preserved : goal.loop-j-preserved
loop-j-preserved c =
    let L = c.loop-j in
    let s = graph c.args.wired.now.succ.now c.args.wired.now.runs.now c.args.wired.now.count in
    let b = L.j - 1 in
    let e : L.j ≡ suc b = omega arith in
    let f : b + 1 ≡ suc b = omega arith in
    let w : c.work.result ≡ work s (suc b) = rw f at c.work.ensures.0 in
    let most = graph_work c.args.wired.now.succ.now c.args.wired.now.runs.now c.args.wired.now.count c.args.wired.now.ready (suc b) (omega arith) in
    (c.work.ensures.1, c.work.ensures.2, works_put s c.args.wired.now.count b L.works c.work.result (omega (arith, c.args.wired.now.ready.few)) w (omega (arith, w, most)) (rw e at L.invariant.2))

pub set_of-requires : goal.set_of-requires
set_of-requires c = ((omega arith, omega arith), c.loop-i.invariant.0)

pub returns : goal.returns
returns c =
    let e : c.loop-j.j ≡ 0 = omega arith in
    let w = rw e at c.loop-j.invariant.2 in (
      works_end c.args.wired.now.succ.now c.args.wired.now.runs.now c.args.wired.now.count c.loop-j.works w,
      w.scaled,
      λ i N. let q : i - 1 + 1 ≡ i = omega (arith, N) in rw q at (c.loop-i.invariant.1 (i - 1) (omega (arith, N))),
    )

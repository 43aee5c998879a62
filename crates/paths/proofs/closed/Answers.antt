use borrow.Author.Rules.{rules}
use native.Mathlib.Omega.{arith}
use Prim.Native.Nat.{suc, ◌-◌}
use mathlib.Core.Path.{◌≡◌}
use lib.ListN.{length}
use Rattle.paths.proofs.PathLaws.{rows_start, rows_step}
use Rattle.paths.proofs.closed.Goals as goal

pub loop-v-init : goal.loop-v-init
loop-v-init c = let z : length c.args.succ ≡ 48 = search rules in (z, rows_start c.args.succ c.args.n c.requires)

pub loop-v-preserved : goal.loop-v-preserved
loop-v-preserved c =
    let L = c.loop-v in
    let b = L.v - 1 in
    let e : L.v ≡ suc b = omega arith in
    let B = rw e at L.invariant.1 in
    (c.allow.ensures.long, rows_step c.args.succ c.args.n b (omega arith) L.rows _ c.below-low.result B c.below-low.ensures c.allow.ensures)

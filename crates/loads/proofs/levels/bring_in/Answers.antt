use native.Mathlib.Omega.{arith}
use Prim.Native.Nat.{◌+◌}
use mathlib.Core.Path.{ap}
use lib.ListN.{get_or}
use Rattle.lemmas.proofs.Range.{given_le}
use Rattle.sets.specs.Sets.{member}
use Rattle.loads.proofs.Columns.{column_none, column_more}
use Rattle.loads.proofs.levels.bring_in.Goals as goal

pub loop-k-init : goal.loop-k-init
loop-k-init c = column_none c.args.base c.args.brings.now c.args.j c.args.w c.args.loads.now

pub overflow_add-loads : goal.overflow_add-loads
overflow_add-loads c =
    let k = c.loop-k.k in
    let w = c.args.w in
    let row = get_or c.args.brings.now (c.args.base + k) 0 in
    omega (arith, c.loop-k.invariant.2 k (omega arith), c.requires.4 k (omega arith), c.requires.3, c.part.ensures, given_le (member row c.args.j) w w (λ e. omega arith))

pub loop-k-preserved : goal.loop-k-preserved
loop-k-preserved c =
    let L = c.loop-k in
    column_more c.args.base c.args.brings.now c.args.j c.args.w L.k c.args.loads.now L.loads (get_or L.loads L.k 0 + c.part.result) (omega (arith, c.requires.1)) (ap (λ y. get_or L.loads L.k 0 + y) c.part.ensures) L.invariant

use native.Mathlib.Omega.{arith}
use Prim.Native.Nat.{suc, ◌+◌, ◌-◌}
use mathlib.Core.Path.{◌≡◌, sym}
use Rattle.works.specs.Works.{load_by}
use Rattle.loads.proofs.Sums.{load_by-none, load_by-step, load_by-most, row_none, row_put}
use Rattle.loads.proofs.rows.load_row.Goals as goal

pub loop-j-init : goal.loop-j-init
loop-j-init c = (sym (load_by-none c.args.row c.args.s.now.works.now c.args.s.now.count (suc c.args.s.now.count) (omega arith)), row_none c.args.row c.args.s.now.works.now c.args.s.now.count)

pub overflow_add-sum : goal.overflow_add-sum
overflow_add-sum c =
    let L = c.loop-j in
    let b = L.j - 1 in
    let e : L.j ≡ suc b = omega arith in
    omega (arith, rw e at L.invariant.0, c.part-sum.ensures, load_by-step c.args.row c.args.s.now.works.now c.args.s.now.count b (omega arith), load_by-most c.args.row c.args.s.now.works.now c.args.s.now.count (suc b) c.args.s.now.few c.args.s.now.scaled (omega arith))

pub loop-j-preserved : goal.loop-j-preserved
loop-j-preserved c =
    let L = c.loop-j in
    let b = L.j - 1 in
    let e : L.j ≡ suc b = omega arith in
    let s : L.sum + c.part-sum.result ≡ load_by c.args.row c.args.s.now.works.now c.args.s.now.count (suc b) = omega (arith, rw e at L.invariant.0, c.part-sum.ensures, load_by-step c.args.row c.args.s.now.works.now c.args.s.now.count b (omega arith)) in
    (s, row_put c.args.row c.args.s.now.works.now c.args.s.now.count b L.loads (L.sum + c.part-sum.result) (omega arith) s (rw e at L.invariant.1))

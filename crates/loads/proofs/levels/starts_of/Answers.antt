use native.Mathlib.Omega.{arith}
use Prim.Native.Nat.{suc, ◌-◌}
use mathlib.Core.Path.{◌≡◌, refl, sym, ◌∙◌}
use lib.ListN.{get_or}
use Rattle.loads.proofs.Sums.{load_by-none, load_by-most}
use Rattle.loads.proofs.Columns.{starts_none, starts_step, zero_entry, top_front}
use Rattle.loads.proofs.levels.starts_of.Goals as goal

pub loop-j-init : goal.loop-j-init
loop-j-init c = (refl, λ k p. zero_entry 32 k (omega (arith, c.args.s.now.few)) ∙ sym (load_by-none (get_or c.args.s.now.brings.now k 0) c.args.s.now.works.now c.args.s.now.count (suc c.args.s.now.count) (omega arith)), starts_none c.args.s.now.brings.now c.args.s.now.works.now c.args.s.now.count)

pub bring_in-requires : goal.bring_in-requires
bring_in-requires c =
    let L = c.loop-j in
    (omega (arith, c.args.s.now.few), omega (arith, c.args.s.now.few, L.invariant.0), omega (arith, c.args.s.now.few), c.args.s.now.scaled (L.j - 1), λ k p. omega (arith, L.invariant.1 k (omega arith), load_by-most (get_or c.args.s.now.brings.now k 0) c.args.s.now.works.now c.args.s.now.count (suc L.j) c.args.s.now.few c.args.s.now.scaled (omega arith)))

pub loop-j-preserved : goal.loop-j-preserved
loop-j-preserved c =
    let L = c.loop-j in
    let b = L.j - 1 in
    let e : L.j ≡ suc b = omega arith in
    let C = c.bring_in.ensures in
    starts_step c.args.s.now.brings.now c.args.s.now.works.now c.args.s.now.count b L.starts L.loads c.bring_in.new.loads c.largest.result (omega arith) c.args.s.now.few L.invariant.0 (rw e at L.invariant.1) C
    (c.largest.ensures ∙ top_front c.bring_in.new.loads b (omega (arith, C.0, L.invariant.0, c.args.s.now.few)))
    (rw e at L.invariant.2)

use native.Mathlib.Omega.{arith}
use Prim.Native.Nat.{suc, ◌+◌, ◌-◌}
use mathlib.Core.Path.{◌≡◌, refl, sym, ◌∙◌}
use lib.ListN.{get_or}
use Rattle.model.specs.Basics.{top_n}
use Rattle.loads.specs.Tables.{held}
use Rattle.loads.proofs.Sums.{load_by-none, load_by-most}
use Rattle.loads.proofs.Columns.{hold_step, zero_entry}
use Rattle.loads.proofs.levels.hold_starts_of.Goals as goal

pub loop-j-init : goal.loop-j-init
loop-j-init c = (refl, (λ k p q. zero_entry 32 k p ∙ sym (load_by-none (get_or c.args.s.now.brings.now k 0) c.args.s.now.works.now c.args.s.now.count (suc c.args.s.now.count) (omega arith))), (refl, λ k p q. absurd (omega arith)))

pub longest_hold-requires : goal.longest_hold-requires
longest_hold-requires c =
    let L = c.loop-j in
    (omega (arith, c.args.s.now.few), λ k p. omega (arith, L.invariant.1 k (omega (arith, c.args.s.now.few)) (omega arith), load_by-most (get_or c.args.s.now.brings.now k 0) c.args.s.now.works.now c.args.s.now.count (suc L.j) c.args.s.now.few c.args.s.now.scaled (omega arith)))

pub bring_in-requires : goal.bring_in-requires
bring_in-requires c =
    let L = c.loop-j in
    (omega (arith, c.args.s.now.few), omega (arith, c.args.s.now.few, L.invariant.0), omega (arith, c.args.s.now.few), c.args.s.now.scaled (L.j - 1), λ k p. omega (arith, L.invariant.1 k (omega (arith, c.args.s.now.few)) (omega arith), load_by-most (get_or c.args.s.now.brings.now k 0) c.args.s.now.works.now c.args.s.now.count (suc L.j) c.args.s.now.few c.args.s.now.scaled (omega arith)))

pub loop-j-preserved : goal.loop-j-preserved
loop-j-preserved c =
    let L = c.loop-j in
    let b = L.j - 1 in
    let e : L.j ≡ suc b = omega arith in
    let f : b + 1 ≡ suc b = omega arith in
    let longest : c.longest_hold.result ≡ top_n (held c.args.runs.now (λ k. get_or L.loads k 0)) 0 (b + 1) = c.longest_hold.ensures in
    hold_step c.args.s.now.brings.now c.args.s.now.works.now c.args.runs.now c.args.s.now.count b L.starts L.loads c.bring_in.new.loads c.longest_hold.result (omega arith) c.args.s.now.few L.invariant.0
    (λ k p q. rw e at (L.invariant.1 k p (omega arith)))
    (rw f at c.bring_in.ensures)
    (rw f at longest)
    (rw e at L.invariant.2)

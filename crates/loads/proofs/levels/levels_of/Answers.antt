use native.Mathlib.Omega.{arith}
use Prim.Native.Nat.{ℕ, suc, ◌+◌, ◌-◌, ◌<◌}
use mathlib.Core.Path.{◌≡◌, refl, sym, ◌∙◌}
use lib.ListN.{get_or}
use Rattle.works.specs.Works.{load_by}
use Rattle.loads.proofs.Sums.{load_by-none, load_by-most}
use Rattle.loads.proofs.Columns.{column_load, levels_none, levels_put, zero_entry}
use Rattle.loads.proofs.levels.levels_of.Goals as goal

pub loop-j-init : goal.loop-j-init
loop-j-init c =
    let brings = c.args.s.now.brings.now in
    let n = c.args.s.now.count in
    (refl, (λ u p. zero_entry 16 u (omega (arith, c.requires.0)) ∙ sym (load_by-none (get_or brings (32 + u) 0) c.args.s.now.works.now n (suc n) (omega arith))), levels_none brings c.args.s.now.works.now n c.args.m c.args.below c.requires.0)

pub bring_in-requires : goal.bring_in-requires
bring_in-requires c =
    let L = c.loop-j in
    (omega (arith, c.requires.0), omega (arith, c.requires.0, L.invariant.0), omega (arith, c.args.s.now.few), c.args.s.now.scaled (L.j - 1), λ u p. omega (arith, L.invariant.1 u p, load_by-most (get_or c.args.s.now.brings.now (32 + u) 0) c.args.s.now.works.now c.args.s.now.count (suc L.j) c.args.s.now.few c.args.s.now.scaled (omega arith)))

pub loop-j-preserved : goal.loop-j-preserved
loop-j-preserved c =
    let L = c.loop-j in
    let brings = c.args.s.now.brings.now in
    let works = c.args.s.now.works.now in
    let n = c.args.s.now.count in
    let b = L.j - 1 in
    let e : L.j ≡ suc b = omega arith in
    let before = rw e at L.invariant.1 in
    let C = c.bring_in.ensures in
    let now : (u : ℕ) → u < c.args.m → get_or c.bring_in.new.loads u 0 ≡ load_by (get_or brings (32 + u) 0) works n (suc b) =
    λ u p. column_load 32 brings works n b c.args.m L.loads c.bring_in.new.loads (omega arith) C u p (before u p) in
    (C.0 ∙ L.invariant.0, now, levels_put brings works n c.args.m c.args.below (b - c.args.below) b L.levels c.bring_in.new.loads (omega arith) (omega (arith, c.args.s.now.few)) now (rw e at L.invariant.2))

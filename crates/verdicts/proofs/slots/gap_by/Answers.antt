-- `gap_by` meets its contract. Assumes nothing.
use Prim.Native.Nat.{ℕ, ◌-◌}
use mathlib.Core.Path.{◌≡◌, ap, ◌∙◌}
use native.Mathlib.Omega.{arith}
use lib.ListN.{get_or}
use Rattle.verdicts.proofs.SlotLaws.{gap_task, gap_source}
use Rattle.verdicts.proofs.slots.gap_by.Goals as goal

pub returns-in-Some : goal.returns-in-Some
returns-in-Some c =
    let k = c.args.link in
    let e : c.in-Some.u ≡ k.from - 33 = omega (arith, c.in-Some.ensures) in
    ap (λ (u : ℕ). get_or c.args.gaps.now u 0) e ∙ gap_source c.args.gaps.now k (omega (arith, c.in-Some.ensures))

pub returns-in-None : goal.returns-in-None
returns-in-None c = gap_task c.args.gaps.now c.args.link c.in-None.ensures

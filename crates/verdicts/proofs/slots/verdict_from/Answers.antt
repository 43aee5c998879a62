-- `verdict_from` meets its contract. Assumes nothing.
use mathlib.Core.Path.{ap, ◌∙◌}
use Prim.Native.Nat.{ℕ, ◌-◌}
use lib.ListN.{get_or}
use Rattle.verdicts.specs.Slots.{verdict_by, gap_by, by_tables}
use Rattle.verdicts.proofs.slots.verdict_from.Goals as goal

pub returns : goal.returns
unfolding by_tables
returns c =
    let a = c.args in
    c.verdict_by.ensures
    ∙ (ap (λ g. verdict_by a.link a.order g (get_or a.reaches.now (c.from.result - 1) 0)) c.gap_by-gap.ensures
    ∙ ap (λ (x : ℕ). verdict_by a.link a.order (gap_by a.gaps.now a.link) (get_or a.reaches.now (x - 1) 0)) c.from.ensures)

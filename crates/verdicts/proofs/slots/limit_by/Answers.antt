-- `limit_by` meets its contract. Assumes nothing.
use mathlib.Core.Path.{sym, ◌∙◌}
use Rattle.verdicts.proofs.LimitLaws.{limit_gap, limit_free}
use Rattle.verdicts.proofs.slots.limit_by.Goals as goal

pub returns-then-link-eq1 : goal.returns-then-link-eq1
returns-then-link-eq1 c = let a = c.args in c.from.ensures ∙ (c.gap_by.ensures ∙ limit_gap a.gaps.now a.link c.if-link-eq1.true)

pub returns-else-link-eq1 : goal.returns-else-link-eq1
returns-else-link-eq1 c = let a = c.args in sym (limit_free a.gaps.now a.link c.if-link-eq1.false)

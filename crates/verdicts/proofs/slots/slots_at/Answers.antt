-- `verdicts::slots::slots_at` meets its contract: the verdicts by the tables. Assumes nothing.
use mathlib.Core.Path.{refl, ◌∙◌}
use Rattle.verdicts.proofs.TableLaws.{leveled, slots_by}
use Rattle.verdicts.proofs.slots.slots_at.Goals as goal

pub reaches_at-reaches-requires : goal.reaches_at-reaches-requires
reaches_at-reaches-requires c =
    let a = c.args in
    let w = c.requires.0 in
    (leveled w.model a.d a.t.now w.tables, c.requires.1, c.limits_at-limits.ensures.most)

pub returns : goal.returns
returns c =
    let a = c.args in
    λ pol t gap z. c.decide_all.ensures ∙ slots_by pol a.d a.t.now t gap a.gaps.now z c.limits_at-limits.result c.limits_at-limits.ensures c.reaches_at-reaches.result (c.reaches_at-reaches.ensures pol a.d gap t.good t.by_level t.by_start t.by_tail refl refl z)

-- `verdicts::level::level_held` meets its contract: the link of the source with the narrowest spacing decides. Assumes nothing.
use mathlib.Core.Path.{ap, ◌∙◌}
use lib.Dec.{ltb}
use Rattle.sets.specs.Sets.{member}
use Rattle.sets.proofs.SetLaws.{member_none}
use Rattle.verdicts.specs.Tables.{seen}
use Rattle.verdicts.proofs.NarrowLaws.{level_empty, level_beyond, level_narrow}
use Rattle.verdicts.proofs.level.level_held.Goals as goal

pub returns-then-level-eq0 : goal.returns-then-level-eq0
returns-then-level-eq0 c = let a = c.args in λ pol d gap j g o k e z. level_empty pol d g j o (seen a.level.now) k gap (λ u p. ap (λ s. member s u) c.if-level-eq0.true ∙ member_none u)

pub returns-then-narrow-gt1000000000 : goal.returns-then-narrow-gt1000000000
returns-then-narrow-gt1000000000 c = let a = c.args in λ pol d gap j g o k e z. level_beyond pol d g j o (seen a.level.now) k gap a.gaps.now (rw e at z) c.narrowest-narrow.result (rw e at c.narrowest-narrow.ensures) c.if-narrow-gt1000000000.true

pub returns : goal.returns
returns c =
    let a = c.args in
    let r = c.narrowest-narrow.result in
    λ pol d gap j g o k e z. ap (λ x. ltb x c.saturating_sub-limit.result) c.reach_below.ensures ∙ rw c.saturating_sub-limit.ensures (rw e (level_narrow pol d g j o (seen a.level.now) k gap a.gaps.now (rw e at z) r (rw e at c.narrowest-narrow.ensures) c.if-narrow-gt1000000000.false))

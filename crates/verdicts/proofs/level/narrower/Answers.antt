-- `narrower` meets its contract. Assumes nothing.
use mathlib.Core.Path.{◌∙◌}
use Rattle.verdicts.proofs.LevelSteps.{narrower_min, narrower_free}
use Rattle.verdicts.proofs.level.narrower.Goals as goal

pub returns-then-counts : goal.returns-then-counts
returns-then-counts c = c.min.ensures ∙ narrower_min c.args.best c.args.gap c.args.counts c.if-counts.true

pub returns-else-counts : goal.returns-else-counts
returns-else-counts c = narrower_free c.args.best c.args.gap c.args.counts c.if-counts.false

use mathlib.Core.Path.{◌∙◌}
use Rattle.model.specs.Machine.{lawful}
use Rattle.rules.proofs.RuleLaws.{broken, kept}
use Rattle.rules.proofs.lawful.Goals as goal

pub returns-then-rules_kept : goal.returns-then-rules_kept
unfolding lawful
returns-then-rules_kept c = λ d r g. kept (c.rules_kept.ensures d r g) c.if-rules_kept.true c.alone.ensures

pub returns-else-rules_kept : goal.returns-else-rules_kept
unfolding lawful
returns-else-rules_kept c = λ d r g. c.if-rules_kept.false ∙ broken _ (c.rules_kept.ensures d r g) c.if-rules_kept.false

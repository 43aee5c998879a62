use mathlib.Core.Path.{sym, ap, ◌∙◌}
use lib.Dec.{leb}
use Rattle.model.specs.declared.Policy.{Policy}
use Rattle.model.specs.Machine.{parts_done, alone_rule}
use Rattle.rules.proofs.alone.Goals as goal

pub returns-in-HoldOn : goal.returns-in-HoldOn
unfolding parts_done
returns-in-HoldOn c = ap (λ x. leb x 1) c.parts_done.ensures ∙ sym (ap (λ (p : Policy). alone_rule p c.args.m.now) c.in-HoldOn.is)

-- `spacings_in` meets its contract: one spacing where d is no longer, else the rounded quotient. Assumes nothing.
use mathlib.Core.Path.{◌∙◌}
use Rattle.rounds.proofs.Laws.{spacings_near, spacings_far}
use Rattle.rounds.proofs.spacings_in.Goals as goal

pub returns-then-d-m : goal.returns-then-d-m
returns-then-d-m c = spacings_near c.args.d c.args.m c.requires.0 c.if-d-m.true

pub returns : goal.returns
returns c = c.from.ensures ∙ spacings_far c.args.d c.args.m c.requires.0 c.if-d-m.false

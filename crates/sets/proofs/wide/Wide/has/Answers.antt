-- `Wide::has` meets its contract. Assumes nothing.
use mathlib.Core.Path.{sym, ◌∙◌}
use Rattle.sets.proofs.WideLaws.{inside_here}
use Rattle.sets.proofs.wide.Wide.has.Goals as goal

pub returns : goal.returns
returns c = c.has.ensures ∙ sym (inside_here c.args.self c.args.l c.requires)

-- `Wide::with` meets its contract. Assumes nothing.
use borrow.Author.Rules.{rules}
use Rattle.sets.proofs.WideLaws.{inside_with}
use Rattle.sets.proofs.wide.Wide.with.Goals as goal

pub returns : goal.returns
returns c = inside_with c.args.self c.args.l c.with.result (search rules) c.requires c.with.ensures

use mathlib.Core.Path.{◌≡◌}
use borrow.Author.Rules.{rules}
use Rattle.sets.specs.Wide.{inside}
use Rattle.records.proofs.FromFnLaws.{made_all}
use Rattle.records.proofs.links_of.Goals as goal

pub returns : goal.returns
returns c = (c.from_fn.ensures.items.long, λ l h. made_all _ 256 (λ i y. y ≡ inside c.args.set i) _ (λ i y q b k. search rules) _ c.from_fn.ensures.items l _ h)

-- `Set::union` of four words meets its contract, word by word. Assumes nothing.
use mathlib.Core.Path.{refl}
use mathlib.Core.Bool.{◌||◌}
use Rattle.sets.proofs.WideLaws.{by_words}
use Rattle.sets.proofs.wide.WideSet.union.Goals as goal

pub returns : goal.returns
returns c = by_words (λ a b. a || b) refl c.args.self c.args.other _ _ _ _ c.union.ensures c.union-2.ensures c.union-3.ensures c.union-4.ensures

-- `Set::without` of four words meets its contract, word by word. Assumes nothing.
use mathlib.Core.Path.{refl}
use mathlib.Core.Bool.{◌&&◌, not}
use Rattle.sets.proofs.WideLaws.{by_words}
use Rattle.sets.proofs.wide.WideSet.without.Goals as goal

pub returns : goal.returns
returns c = by_words (λ a b. a && not b) refl c.args.self c.args.other _ _ _ _ c.without.ensures c.without-2.ensures c.without-3.ensures c.without-4.ensures

-- `Set::both` of four words meets its contract, word by word. Assumes nothing.
use mathlib.Core.Path.{refl}
use mathlib.Core.Bool.{◌&&◌}
use Rattle.sets.proofs.WideLaws.{by_words}
use Rattle.sets.proofs.wide.WideSet.both.Goals as goal

pub returns : goal.returns
returns c = by_words (λ a b. a && b) refl c.args.self c.args.other _ _ _ _ c.both.ensures c.both-2.ensures c.both-3.ensures c.both-4.ensures

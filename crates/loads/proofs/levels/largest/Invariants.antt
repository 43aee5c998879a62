use mathlib.Core.Path.{◌≡◌}
use lib.ListN.{get_or}
use Rattle.model.specs.Basics.{top_n}
use Rattle.loads.proofs.levels.largest.Given as goal

abbrev pub invariant-loop-load : goal.invariant-loop-load
invariant-loop-load l = l.best ≡ top_n (λ k. get_or l.loads k 0) 0 l.load-index

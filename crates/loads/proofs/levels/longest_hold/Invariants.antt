use mathlib.Core.Path.{◌≡◌}
use lib.ListN.{get_or}
use Rattle.model.specs.Basics.{top_n}
use Rattle.loads.specs.Tables.{held}
use Rattle.loads.proofs.levels.longest_hold.Given as goal

abbrev pub invariant-loop-k : goal.invariant-loop-k
invariant-loop-k l = l.best ≡ top_n (held l.runs (λ i. get_or l.loads i 0)) 0 l.k

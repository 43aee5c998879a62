-- `walk_back` meets its contract: a bound of 34 is above the 32 unmet tasks. Assumes nothing.
use native.Mathlib.Omega.{arith}
use Rattle.model.specs.Order.{walk}
use Rattle.neighbourhoods.specs.Into.{unmet}
use Rattle.neighbourhoods.proofs.walk.walk_back.Goals as goal

pub returns : goal.returns
unfolding unmet walk
returns c = c.visit.ensures.0 34 (omega arith)

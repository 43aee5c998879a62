-- `far_reach` meets its contract: the level is open at the place until it is settled, and the last attempt settles it. Assumes nothing.
use Rattle.rounds.specs.Level.{OpenAt}
use Rattle.reach.proofs.far_reach.Given as goal

abbrev pub invariant-loop-shift : goal.invariant-loop-shift
invariant-loop-shift l = OpenAt l.level.start l.level.loads.now l.level.gaps.now l.level.count l.limit l.place

-- `critical_of` meets its contract: the sets by the first links. Assumes nothing.
use Rattle.verdicts.proofs.LevelSteps.{CriticalTo}
use Rattle.verdicts.proofs.level.critical_of.Given as goal

abbrev pub invariant-loop-link : goal.invariant-loop-link
invariant-loop-link l = CriticalTo l.fn.d l.sets l.link-index

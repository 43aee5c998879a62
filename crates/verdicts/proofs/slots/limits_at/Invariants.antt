-- `limits_at` meets its contract: the limits by the first links. Assumes nothing.
use Rattle.verdicts.proofs.LimitLaws.{LimitsTo}
use Rattle.verdicts.proofs.slots.limits_at.Given as goal

abbrev pub invariant-loop-link : goal.invariant-loop-link
invariant-loop-link l = LimitsTo l.fn.d l.gaps l.limits l.link-index

-- `divisor` meets its contract: the larger number is never 0, and each remainder is less than the one before. Assumes nothing.
use Prim.Native.Nat.{◌≤◌}
use Rattle.periods.proofs.divisor.Given as goal

abbrev pub invariant-loop-small : goal.invariant-loop-small
invariant-loop-small l = 1 ≤ l.large

abbrev pub decreases-loop-small : goal.decreases-loop-small
decreases-loop-small l = l.small

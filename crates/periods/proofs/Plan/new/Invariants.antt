-- `new` meets its contract: each period is at most the largest. Assumes nothing.
use Rattle.std.proofs.Common.{◌≤◌}
use Rattle.periods.proofs.Plan.new.Given as goal

abbrev pub invariant-loop-k : goal.invariant-loop-k
invariant-loop-k l = (l.largest ≤ 1048576)

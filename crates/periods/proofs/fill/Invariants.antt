-- `fill` meets its contract: a period other than 1 is at most the most. Assumes nothing.
use Prim.Native.Nat.{◌≤◌, ◌-◌}
use Rattle.periods.proofs.fill.Given as goal

abbrev pub invariant-loop : goal.invariant-loop
invariant-loop l = (l.period - 1 ≤ l.most - 1)

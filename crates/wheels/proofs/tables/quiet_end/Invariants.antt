-- `quiet_end` meets its contract: each turn keeps an end beyond the place. Assumes nothing.
use Prim.Native.Nat.{◌≤◌, ◌<◌}
use Rattle.wheels.proofs.tables.quiet_end.Given as goal

abbrev pub invariant-loop-other : goal.invariant-loop-other
invariant-loop-other l = (l.place < l.near) × (l.near ≤ l.end)

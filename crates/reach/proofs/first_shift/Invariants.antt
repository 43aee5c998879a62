-- `first_shift` meets its contract: 64 bits hold the sum. Assumes nothing.
use Prim.Native.Nat.{◌≤◌, ◌*◌}
use Rattle.reach.proofs.first_shift.Given as goal

abbrev pub invariant-loop-u : goal.invariant-loop-u
invariant-loop-u l = l.sum ≤ l.u * 1000000

-- `turn_to` meets its contract: the first k wheels stand where d is. Assumes nothing.
use Prim.Native.Nat.{ℕ, ◌<◌, ◌-◌, ◌%◌}
use mathlib.Core.Path.{◌≡◌}
use lib.ListN.{get_or, length}
use Rattle.wheels.proofs.stretches.Wheels.turn_to.Given as goal

abbrev pub invariant-loop-k : goal.invariant-loop-k
invariant-loop-k l = (length l.turns ≡ 16) × ((j : ℕ) → j < l.k → get_or l.turns j 0 ≡ (l.d - 1) % get_or l.self.plan.now.periods j 0)

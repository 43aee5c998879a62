-- `waste_passed` meets its contract: the sum of the first k wheels' entries, and where these wheels stand then. Assumes nothing.
use Prim.Native.Nat.{ℕ, ◌≤◌, ◌<◌, ◌+◌, ◌*◌, ◌%◌, ◌^◌}
use mathlib.Core.Path.{◌≡◌}
use lib.ListN.{get_or, length}
use Rattle.wheels.specs.Wheel.{waste_on}
use Rattle.wheels.proofs.stretches.Wheels.waste_passed.Given as goal

abbrev pub invariant-loop-k : goal.invariant-loop-k
invariant-loop-k l = (length l.turns ≡ 16) × ((j : ℕ) → j < l.k → get_or l.turns j 0 ≡ (get_or l.initial.turns j 0 + l.width) % get_or l.self.plan.now.periods j 0) × ((j : ℕ) → l.k ≤ j → get_or l.turns j 0 ≡ get_or l.initial.turns j 0) × (l.sum ≡ waste_on (2 ^ l.self.block.shift) l.self.places.now l.self.table.now l.initial.turns l.k) × (l.sum ≤ l.k * 65535)

-- `sift` meets its contract: every source looked at is off its wheel or may be on it. Assumes nothing.
use Prim.Native.Nat.{ℕ, ◌<◌}
use mathlib.Core.Path.{◌≡◌}
use lib.ListN.{get_or}
use Rattle.wheels.specs.Wheel.{Kept}
use Rattle.wheels.proofs.tables.sift.Given as goal

abbrev pub invariant-loop-u : goal.invariant-loop-u
invariant-loop-u l = ((v : ℕ) → v < l.u → get_or l.plan.wheels v 0 < l.plan.count → Kept (get_or l.level.loads.now v 0) (get_or l.level.gaps.now v 0) (get_or l.plan.periods (get_or l.plan.wheels v 0) 0)) × (l.plan.periods ≡ l.initial.plan.periods) × (l.plan.count ≡ l.initial.plan.count)

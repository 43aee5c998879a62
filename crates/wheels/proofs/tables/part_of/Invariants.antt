-- `part_of` meets its contract: the loads of the first u sources, and the sum of their flows. Assumes nothing.
use Prim.Native.Nat.{ℕ, ◌≤◌, ◌<◌, ◌*◌, ◌/◌}
use mathlib.Core.Path.{◌≡◌}
use lib.ListN.{get_or, length}
use Rattle.model.specs.Basics.{sum_n}
use Rattle.wheels.specs.Wheel.{part_at}
use Rattle.wheels.proofs.tables.part_of.Given as goal

abbrev pub invariant-loop-u : goal.invariant-loop-u
invariant-loop-u l = (length l.part ≡ 16) × ((v : ℕ) → v < l.u → get_or l.part v 0 ≡ part_at l.level.loads.now l.plan.wheels l.k v) × (l.flow ≡ sum_n (λ v. part_at l.level.loads.now l.plan.wheels l.k v * 4398046511104 / get_or l.level.gaps.now v 0) 0 l.u) × (l.flow ≤ l.u * 4398046511104)

-- `build` meets its contract: the tables of the first k wheels are put, and their flows summed. Assumes nothing.
use Prim.Native.Nat.{◌≤◌, ◌*◌}
use mathlib.Core.Path.{◌≡◌}
use lib.ListN.{length}
use Rattle.wheels.specs.Wheel.{flow_on}
use Rattle.wheels.proofs.Steps.{Building}
use Rattle.wheels.proofs.tables.build.Given as goal

abbrev pub invariant-loop-k : goal.invariant-loop-k
invariant-loop-k l = (length l.places ≡ 16) × (length l.table ≡ 65536) × (length l.part ≡ 16) × (l.place ≤ 65536) × (l.flow ≡ flow_on l.level.loads.now l.level.gaps.now l.plan.wheels l.level.count l.k) × (l.flow ≤ l.k * 70368744177664) × Building l.level.loads.now l.level.gaps.now l.plan.wheels l.level.count l.block l.plan.periods l.places l.table l.k l.place

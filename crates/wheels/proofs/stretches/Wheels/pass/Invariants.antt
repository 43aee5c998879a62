-- `pass` meets its contract: no stretch that is passed has a fixed point. Assumes nothing.
use Prim.Native.Nat.{◌≤◌, ◌*◌, ◌^◌}
use mathlib.Core.Path.{◌≡◌}
use Rattle.wheels.specs.Wheel.{Turned, Passes}
use Rattle.wheels.proofs.stretches.Wheels.pass.Given as goal

abbrev pub invariant-loop : goal.invariant-loop
invariant-loop l = (l.width ≡ 7 * 2 ^ l.self.block.shift) × (l.width ≤ 458752) × (l.from ≤ l.d) × (l.d ≤ l.limit) × Turned l.self.plan.now.periods l.self.built.count l.d l.turns × Passes l.self.plan.now.periods l.self.places.now l.self.table.now (2 ^ l.self.block.shift) l.self.built.count l.self.built.slope l.rest l.from l.d

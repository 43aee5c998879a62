-- `left_of` meets its contract: the sum of the first u sources, those on a wheel left out. Assumes nothing.
use Prim.Native.Nat.{ℕ, ◌≤◌, ◌+◌, ◌*◌}
use mathlib.Core.Path.{◌≡◌}
use Rattle.rounds.specs.Level.{Counted}
use Rattle.wheels.specs.Wheel.{left_in}
use Rattle.wheels.proofs.stretches.left_of.Given as goal

abbrev pub invariant-loop-u : goal.invariant-loop-u
invariant-loop-u l = ((p : ℕ) → Counted l.level.loads.now l.level.gaps.now l.level.count p l.ends → l.rest ≡ left_in l.level.start l.level.loads.now l.level.gaps.now l.wheels l.u l.count p) × (l.rest ≤ 1010000000 + l.u * 1000000000)

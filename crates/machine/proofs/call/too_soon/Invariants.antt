use Prim.Native.Nat.{ℕ, ◌+◌, ◌≤◌, ◌<◌}
use mathlib.Core.Path.{◌≡◌}
use mathlib.Core.Bool.{true}
use lib.ListN.{get_or}
use Rattle.model.specs.Run.{heard}
use Rattle.arrivals.proofs.MaskLaws.{Rest}
use Rattle.machine.specs.Calls.{due_by}
use Rattle.machine.proofs.call.too_soon.Given as goal

-- no source below r comes too soon, and what is left of the mask has the others
abbrev pub invariant-loop-rest : goal.invariant-loop-rest
invariant-loop-rest l = (r : ℕ) × Rest l.mask r l.rest × ((u : ℕ) → u < r → heard l.mask u ≡ true → get_or l.since u 0 + due_by l.s.paces l.fastest l.peak u ≤ l.tick)

abbrev pub decreases-loop-rest : goal.decreases-loop-rest
decreases-loop-rest l = l.rest

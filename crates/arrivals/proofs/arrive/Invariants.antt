use Prim.Native.Nat.{ℕ, ◌≤◌}
use Rattle.arrivals.specs.Arrivals.{Stored}
use Rattle.arrivals.proofs.MaskLaws.{Rest}
use Rattle.arrivals.proofs.ArriveLaws.{Joined}
use Rattle.arrivals.proofs.arrive.Given as goal

-- the links out of the sources below r are joined, and what is left of the mask has the others
abbrev pub invariant-loop-rest : goal.invariant-loop-rest
invariant-loop-rest l = (r : ℕ) × (r ≤ 16) × Rest l.mask r l.rest × Joined l.rows l.mask r l.out l.wakes × Stored l.mask r l.w.tick l.initial.since l.since × Stored l.mask r l.t l.initial.fastest l.fastest

abbrev pub decreases-loop-rest : goal.decreases-loop-rest
decreases-loop-rest l = l.rest

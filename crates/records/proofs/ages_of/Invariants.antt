use Prim.Native.Nat.{ℕ, ◌-◌, ◌≤◌, ◌<◌, min}
use mathlib.Core.Path.{◌≡◌}
use lib.ListN.{get_or, length}
use Rattle.records.proofs.ages_of.Given as goal

-- the first u ages are read off, and the others are 0
abbrev pub invariant-loop-u : goal.invariant-loop-u
invariant-loop-u l = (length l.ages ≡ 16) × ((k : ℕ) → k < l.u → get_or l.ages k 0 ≡ min (get_or l.gaps k 0) (l.tick - get_or l.since k 0)) × ((k : ℕ) → l.u ≤ k → get_or l.ages k 0 ≡ 0)

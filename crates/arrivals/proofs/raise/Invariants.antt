use Prim.Native.Nat.{ℕ, ◌≤◌, ◌<◌}
use mathlib.Core.Path.{◌≡◌}
use lib.ListN.{get_or, length}
use Rattle.words.specs.Words.{raised_to}
use Rattle.arrivals.proofs.raise.Given as goal

-- the first tempos are raised, and the others are as they were
abbrev pub invariant-loop-kept : goal.invariant-loop-kept
invariant-loop-kept l = (length l.fastest ≡ 16) × ((k : ℕ) → k < l.kept-index → get_or l.fastest k 0 ≡ raised_to l.t (get_or l.initial.fastest k 0)) × ((k : ℕ) → l.kept-index ≤ k → get_or l.fastest k 0 ≡ get_or l.initial.fastest k 0)

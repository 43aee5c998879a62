-- The rows passed so far have grown.
use Prim.Native.Nat.{ℕ, ◌≤◌, ◌<◌}
use mathlib.Core.Path.{◌≡◌}
use lib.ListN.{get_or}
use Rattle.paths.specs.Rows.{Grown}
use Rattle.paths.proofs.allow.Given as goal

abbrev pub invariant-loop-row : goal.invariant-loop-row
invariant-loop-row l =
    ((i : ℕ) → i < l.row-index → Grown (get_or l.initial.row-items i 0) l.low l.v (get_or l.row-items i 0))
    × ((i : ℕ) → l.row-index ≤ i → get_or l.row-items i 0 ≡ get_or l.initial.row-items i 0)

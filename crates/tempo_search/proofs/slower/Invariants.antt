-- `tempo_search::slower` meets its contract: the level is held at `low` and not at `high`, which close in on each other. Assumes nothing.
use Prim.Native.Nat.{ℕ, ◌≤◌, ◌-◌}
use mathlib.Core.Path.{◌≡◌}
use mathlib.Core.Bool.{true, false}
use Rattle.model.specs.declared.Description.{Description}
use Rattle.model.specs.declared.Policy.{Policy}
use Rattle.model.specs.Delays.{spacing_of}
use Rattle.spacings.specs.declared.Sources.{Sources}
use Rattle.spacings.specs.Gaps.{Room}
use Rattle.verdicts.specs.Held.{level_held}
use Rattle.verdicts.specs.Tables.{Level, seen}
use Rattle.tempo_search.specs.Search.{LevelFrom}
use Rattle.tempo_search.proofs.slower.Given as goal

-- of every description that the level is of and in doubt: held at one tempo and not at another
abbrev Between : Level → Sources → ℕ → ℕ → ℕ → Type 0
Between level sources doubtful low high = (pol : Policy) (d : Description) (j : ℕ) → LevelFrom pol d j level sources → level_held pol d (spacing_of d doubtful) j ≡ false → (level_held pol d (spacing_of d low) j ≡ true) × (level_held pol d (spacing_of d high) j ≡ false)

abbrev pub invariant-loop-high : goal.invariant-loop-high
invariant-loop-high l = Room l.gaps × (200 ≤ l.low) × (l.low ≤ l.high) × (l.high ≤ l.doubtful) × Between (seen l.level) l.sources l.doubtful l.low l.high

abbrev pub decreases-loop-high : goal.decreases-loop-high
decreases-loop-high l = l.high - l.low

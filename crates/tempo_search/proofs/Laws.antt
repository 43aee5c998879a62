-- The search for a tempo step by step. Assumes nothing.
use Prim.Native.Nat.{ℕ, suc, ◌≤◌}
use mathlib.Core.Path.{◌≡◌}
use mathlib.Core.Bool.{Bool, true, false}
use mathlib.Core.List.{List}
use native.Mathlib.Omega.{arith}
use Rattle.model.specs.declared.Description.{Description}
use Rattle.model.specs.declared.Policy.{Policy}
use Rattle.model.specs.Delays.{spacing_of}
use Rattle.lemmas.proofs.Tests.{Cmp, less, same, more, cmp, not_both}
use Rattle.theory.proofs.WellFormed.{WellFormed}
use Rattle.theory.proofs.Quotes.{spaced, wider}
use Rattle.spacings.specs.declared.Sources.{Sources}
use Rattle.spacings.specs.Gaps.{GapsBy}
use Rattle.spacings.proofs.GapLaws.{gaps_of}
use Rattle.rounds.specs.Level.{LevelOn}
use Rattle.verdicts.specs.Held.{level_held}
use Rattle.verdicts.specs.Tables.{Level, HeldBy}
use Rattle.verdicts.proofs.LevelLaws.{level_wider}
use Rattle.verdicts.proofs.LevelRounds.{level_on}
use Rattle.tempo_search.specs.Search.{LevelFrom, SlowerAt}

-- a level that is held at one tempo is held at every lower one
pub level_slower : (pol : Policy) (d : Description) → WellFormed d → (t t' j : ℕ) → 1 ≤ t → t ≤ t' → t' ≤ 3000 → level_held pol d (spacing_of d t') j ≡ true → level_held pol d (spacing_of d t) j ≡ true
level_slower pol d g t t' j a b c e = level_wider pol d g (spacing_of d t') (spacing_of d t) j (spaced d g t' (omega arith) c) (wider d g t t' a b) e

-- a level on the scale of the rounds
pub from_on : (pol : Policy) (d : Description) (j : ℕ) (v : Level) (sources : Sources) (t : ℕ) (gaps : List ℕ) → LevelFrom pol d j v sources → GapsBy sources t gaps → LevelOn v.start v.loads gaps sources.count
from_on pol d j v sources t gaps f z =
    rw f.sources_are.counted (level_on d f.good pol j f.task v.start v.loads f.level_is.start_is f.level_is.load_is gaps (gaps_of d sources t gaps f.sources_are z).fit)

-- whether a level is held at the spacings of a tempo
pub held_from : (pol : Policy) (d : Description) (j : ℕ) (v : Level) (sources : Sources) (t : ℕ) (gaps : List ℕ) (r : Bool) → LevelFrom pol d j v sources → GapsBy sources t gaps → HeldBy v gaps sources.count r → r ≡ level_held pol d (spacing_of d t) j
held_from pol d j v sources t gaps r f z h =
    h pol d (spacing_of d t) j f.good f.task f.level_is f.sources_are.counted (rw f.sources_are.counted (gaps_of d sources t gaps f.sources_are z))

-- the search by halves at its end
pub slower_found : (pol : Policy) (d : Description) (j doubtful low high : ℕ) → 200 ≤ low → low ≤ high → high ≤ doubtful → high ≤ suc low → level_held pol d (spacing_of d low) j ≡ true → level_held pol d (spacing_of d high) j ≡ false → SlowerAt pol d j doubtful low
slower_found pol d j doubtful low high a b c e h f = go (cmp low high)
  where
    go : Cmp low high → SlowerAt pol d j doubtful low
    go (less x) = let z : high ≡ suc low = omega arith in (a, omega arith, h, rw z at f)
    go (same x) = absurd (not_both h (rw x f))
    go (more x) = absurd (omega arith)

-- The search for a tempo at which a level is held.
use Rattle.std.specs.Prelude.{ℕ, suc, ◌≤◌, ◌<◌, ◌≡◌, true, false, Option, MatchOption}
use Rattle.model.specs.declared.Description.{Description}
use Rattle.model.specs.declared.Policy.{Policy}
use Rattle.model.specs.Delays.{spacing_of}
use Rattle.theory.proofs.WellFormed.{WellFormed}
use Rattle.spacings.specs.declared.Sources.{Sources}
use Rattle.spacings.specs.Sources.{SourcesOf}
use Rattle.verdicts.specs.Held.{level_held}
use Rattle.verdicts.specs.Tables.{Level, LevelOf}

-- the level of task j of a judged description, and its sources
pub record LevelFrom (p : Policy) (d : Description) (j : ℕ) (level : Level) (sources : Sources) : Type 0 where
  pub good : WellFormed d
  pub task : 1 ≤ j
  pub level_is : LevelOf p d j level
  pub sources_are : SourcesOf d sources

-- there is a model and a description that they are of
pub record Searched (level : Level) (sources : Sources) : Type 0 where
  pub model : Policy
  pub of : Description
  pub at : ℕ
  pub from : LevelFrom model of at level sources

-- the highest tempo below a doubtful one at which level j is held; none where it is not held at the lowest
abbrev pub SlowerAt : Policy → Description → ℕ → ℕ → ℕ → Type 0
SlowerAt p d j doubtful q = (200 ≤ q) × (q < doubtful) × (level_held p d (spacing_of d q) j ≡ true) × (level_held p d (spacing_of d (suc q)) j ≡ false)

abbrev pub Slower : Policy → Description → ℕ → ℕ → Option ℕ → Type 0
Slower p d j doubtful r = MatchOption r (level_held p d (spacing_of d 200) j ≡ false) (SlowerAt p d j doubtful)

-- The quote from tables, level by level.
use Rattle.std.specs.Prelude.{ℕ, suc, ◌≤◌, ◌<◌, ◌≡◌, true, false}
use Rattle.model.specs.declared.Description.{Description}
use Rattle.model.specs.declared.Policy.{Policy}
use Rattle.model.specs.Refusals.{Quote}
use Rattle.model.specs.Delays.{spacing_of}
use Rattle.model.specs.Verdicts.{all_held, tempos, largest_below}
use Rattle.neighbourhoods.specs.Orders.{orders_held}
use Rattle.verdicts.specs.declared.Tables.{Tables}
use Rattle.verdicts.specs.Held.{level_held}
use Rattle.verdicts.specs.Tables.{LevelTables}

-- there is a model and a description that the tables are of
pub record Tabled (t : Tables) : Type 0 where
  pub model : Policy
  pub of : Description
  pub tables : LevelTables model of t

-- the quote of every model and description that the tables are of
abbrev pub QuoteBy : Tables → Quote → Type 0
QuoteBy t r = (p : Policy) (d : Description) → LevelTables p d t → t.ordered ≡ orders_held d → r ≡ largest_below (all_held p d) tempos

-- the highest tempo at which levels 1 to j are held
pub record Best (p : Policy) (d : Description) (j best : ℕ) : Type 0 where
  pub low : 200 ≤ best
  pub high : best ≤ 3000
  pub held : (k : ℕ) → 1 ≤ k → k ≤ j → level_held p d (spacing_of d best) k ≡ true
  pub above : best < 3000 → (k : ℕ) × (1 ≤ k) × (k ≤ j) × (level_held p d (spacing_of d (suc best)) k ≡ false)

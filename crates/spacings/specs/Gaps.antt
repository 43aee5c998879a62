-- A table of spacings: source 33 + u at place u.
use Rattle.std.specs.Prelude.{ℕ, ◌+◌, ◌≤◌, ◌<◌, ◌≡◌, List, length, get_or}
use Rattle.model.specs.declared.Description.{Description}
use Rattle.model.specs.Delays.{spacing_of}
use Rattle.spacings.specs.declared.Sources.{Sources}
use Rattle.spacings.specs.Sources.{spacing_at}

-- a table of spacings, filled or not: 16 places, and nothing in it beyond the scale
pub record Room (gaps : List ℕ) : Type 0 where
  pub sized : length gaps ≡ 16
  pub most : (u : ℕ) → get_or gaps u 0 ≤ 1000000000

-- spacings of n sources from the scale
pub record Fit (n : ℕ) (gaps : List ℕ) : Type 0 where
  pub some : (u : ℕ) → u < n → 1 ≤ get_or gaps u 0
  pub most : (u : ℕ) → get_or gaps u 0 ≤ 1000000000

-- the spacings of n sources, by source number
pub record GapsIn (gap : ℕ → ℕ) (n : ℕ) (gaps : List ℕ) : Type 0 where
  pub at : (u : ℕ) → u < n → get_or gaps u 0 ≡ gap (33 + u)
  pub fit : Fit n gaps

-- the spacings of a description's sources at a tempo
abbrev pub GapsOf : Description → ℕ → List ℕ → Type 0
GapsOf d t gaps = GapsIn (spacing_of d t) d.source_count gaps

-- the same of sources in plain numbers
pub record GapsBy (s : Sources) (t : ℕ) (gaps : List ℕ) : Type 0 where
  pub at : (u : ℕ) → u < s.count → get_or gaps u 0 ≡ spacing_at s.paces u t
  pub fit : Fit s.count gaps

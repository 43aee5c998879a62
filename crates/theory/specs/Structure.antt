-- What a verdict goes by (C-12): the structure, that is tasks and links, and the spacings of the sources that links leave.
use Rattle.std.specs.Prelude.{ℕ, ◌+◌, ◌≤◌, ◌<◌, ◌≡◌, true, get_or}
use Rattle.model.specs.declared.Link.{Link}
use Rattle.model.specs.declared.Description.{Description}
use Rattle.model.specs.Graph.{System, system, link_at}
use Rattle.model.specs.Delays.{spacing_of}

-- "two accepted files with the same tasks and links"; one may have sources that the other has not
pub record SameStructure (d e : Description) : Type 0 where
  pub tasks : d.task_count ≡ e.task_count
  pub links : d.link_count ≡ e.link_count
  pub run : (k : ℕ) → k < d.task_count → get_or d.runs k 0 ≡ get_or e.runs k 0
  pub link : (l : ℕ) → l < d.link_count → link_at d l ≡ link_at e l

-- "if their sources have the same spacings there", each description at its own tempo: the sources that both have
abbrev pub SameSpacings : Description → ℕ → Description → ℕ → Type 0
SameSpacings d t e t' = (u : ℕ) → 33 ≤ u → u < 33 + d.source_count → u < 33 + e.source_count → spacing_of d t u ≡ spacing_of e t' u

-- a rule tells something of a link from the structure and the spacings, as `verdict_of` does
abbrev pub Rule : Type 0 → Type 0
Rule A = System → (ℕ → ℕ) → Link → A

-- what it tells of the link at place l of a description, at a tempo
abbrev pub ruled : {A : Type 0} → Rule A → Description → ℕ → ℕ → A
ruled rule d t l = rule (system d) (spacing_of d t) (link_at d l)

-- the same tasks and links with n sources
abbrev pub with_sources : System → ℕ → System
with_sources s n = record { tasks = s.tasks; sources = n; run = s.run; link = s.link }

-- the sources that a link leaves are there in both, with the same spacings
abbrev pub SameLinked : System → ℕ → (ℕ → ℕ) → (ℕ → ℕ) → Type 0
SameLinked s n gap gap' = (u j : ℕ) → 33 ≤ u → s.link u j ≡ true → (u < 33 + s.sources) × (u < 33 + n) × (gap u ≡ gap' u)

-- for a link that exists it looks at no source but those that a link leaves, and of these at the spacing alone
abbrev pub BySpacings : {A : Type 0} → Rule A → Type 0
BySpacings rule = (s : System) (n : ℕ) (gap gap' : ℕ → ℕ) (l : Link) → SameLinked s n gap gap' → s.link l.from l.to ≡ true → rule s gap l ≡ rule (with_sources s n) gap' l

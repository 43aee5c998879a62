-- The tables that are worked out once for a description, and one task's part of them.
use Rattle.std.specs.Prelude.{ℕ, suc, ◌+◌, ◌≤◌, ◌<◌, ◌≡◌, Bool, true, cond, ◌&&◌, List, [], get_or, ltb}
use Rattle.model.specs.declared.Description.{Description}
use Rattle.model.specs.declared.Policy.{Policy}
use Rattle.model.specs.declared.Policy.TheVariants.{Preemptive, HoldOn}
use Rattle.model.specs.Graph.{system}
use Rattle.model.specs.Loads.{load}
use Rattle.model.specs.Delays.{start_of, level_of, tail_of}
use Rattle.theory.proofs.WellFormed.{WellFormed}
use Rattle.sets.specs.Sets.{member}
use Rattle.spacings.specs.Sources.{SourcesOf}
use Rattle.spacings.specs.Gaps.{GapsIn}
use Rattle.neighbourhoods.specs.Orders.{OrdersOf, orders_held}
use Rattle.verdicts.specs.declared.Tables.{Tables}
use Rattle.verdicts.specs.declared.level.Level.{Level as Lent}
use Rattle.verdicts.specs.Held.{level_held, critical_to}

-- how many tasks from the lowest on have no row in the table of levels: the rounds of task j go by the loads at it, on the hold-on model above it
abbrev pub below_of : Policy → ℕ
below_of Preemptive = 0
below_of HoldOn = 1

-- by level: the load of each source that the rounds of task j + 1 go by
abbrev pub LevelsOf : Policy → Description → List (List ℕ) → Type 0
LevelsOf p d t = (j u : ℕ) → j < 32 → u < d.source_count → get_or (get_or t j []) u 0 ≡ load (system d) (33 + u) (level_of p (suc j))

-- by level: where its rounds start
abbrev pub StartsOf : Policy → Description → List ℕ → Type 0
StartsOf p d t = (j : ℕ) → j < d.task_count → get_or t j 0 ≡ start_of p (system d) (suc j)

-- by level: what a delay has beyond its D
abbrev pub TailsOf : Policy → Description → List ℕ → Type 0
TailsOf p d t = (j : ℕ) → j < d.task_count → get_or t j 0 ≡ tail_of p (system d) (suc j)

-- by level: the sources with a critical link to the task, source 33 + u as the number u
abbrev pub CriticalOf : Description → List ℕ → Type 0
CriticalOf d sets = (j u : ℕ) → j < 32 → member (get_or sets j 0) u ≡ critical_to d d.link_count (33 + u) (suc j)

-- the tables that tell whether a level is held
pub record LevelTables (p : Policy) (d : Description) (t : Tables) : Type 0 where
  pub good : WellFormed d
  pub by_level : LevelsOf p d t.levels
  pub by_start : StartsOf p d t.starts
  pub by_tail : TailsOf p d t.tails
  pub by_critical : CriticalOf d t.critical
  pub by_source : SourcesOf d t.sources
  pub counted : t.tasks ≡ d.task_count

-- all that is worked out once for a description
pub record TablesOf (p : Policy) (d : Description) (t : Tables) : Type 0 where
  pub by_levels : LevelTables p d t
  pub by_order : OrdersOf d t.orders
  pub all_ordered : t.ordered ≡ orders_held d

-- a task's level: the start of its rounds, the load of each source that they go by, what its delay has beyond them, and the set of sources with a
-- critical link to it
pub record Level : Type 0 where
  pub start : ℕ
  pub loads : List ℕ
  pub tail : ℕ
  pub critical : ℕ

abbrev pub level_with : ℕ → List ℕ → ℕ → ℕ → Level
level_with start loads tail critical = record { start = start; loads = loads; tail = tail; critical = critical }

-- a level as it is lent
abbrev pub seen : Lent → Level
seen v = level_with v.start v.loads.now v.tail v.critical

-- the level of task j + 1, as the tables have it
abbrev pub task_level : Tables → ℕ → Level
task_level t j = level_with (get_or t.starts j 0) (get_or t.levels j []) (get_or t.tails j 0) (get_or t.critical j 0)

-- the level of task j of a description
pub record LevelOf (p : Policy) (d : Description) (j : ℕ) (v : Level) : Type 0 where
  pub start_is : v.start ≡ start_of p (system d) j
  pub load_is : (u : ℕ) → u < d.source_count → get_or v.loads u 0 ≡ load (system d) (33 + u) (level_of p j)
  pub tail_is : v.tail ≡ tail_of p (system d) j
  pub critical_is : (u : ℕ) → member v.critical u ≡ critical_to d d.link_count (33 + u) j

-- whether a level of m sources is held at the spacings of a table, whatever model and description it is of
abbrev pub HeldBy : Level → List ℕ → ℕ → Bool → Type 0
HeldBy v gaps m r = (p : Policy) (d : Description) (gap : ℕ → ℕ) (j : ℕ) → WellFormed d → 1 ≤ j → LevelOf p d j v → m ≡ d.source_count → GapsIn gap m gaps → r ≡ level_held p d gap j

-- the narrower of two spacings, where the second counts
unfoldable pub narrower_of : ℕ → Bool → ℕ → ℕ
narrower_of best counts gap = cond (counts && ltb gap best) gap best

-- the narrowest spacing of the sources in a set, of the first m; 2,000,000,000 where there is none
pub record NarrowestIn (set : ℕ) (gaps : List ℕ) (m r : ℕ) : Type 0 where
  pub least : (u : ℕ) → u < m → member set u ≡ true → r ≤ get_or gaps u 0
  pub attained : r < 2000000000 → (u : ℕ) × (u < m) × (member set u ≡ true) × (get_or gaps u 0 ≡ r)

-- What is known of every accepted description and of its loads: the records that later proofs go by.
use Prim.Native.Nat.{ℕ, suc, ◌+◌, ◌≤◌, ◌<◌}
use mathlib.Core.Path.{◌≡◌}
use mathlib.Core.Bool.{Bool, true, false, ◌||◌, ◌&&◌}
use mathlib.Core.Logic.{◌⊎◌}
use lib.Dec.{ltb, eqb}
use Rattle.model.specs.declared.Link.{Link}
use Rattle.model.specs.declared.Description.{Description}
use Rattle.model.specs.declared.Field.TheVariants.{OfSource}
use Rattle.model.specs.Basics.{sum_to, top_to, given}
use Rattle.model.specs.Field.{on_scale}
use Rattle.model.specs.Graph.{System, system, run_of, link_at, source_at, cyclic}
use Rattle.model.specs.Loads.{work, added, too_heavy}
use Rattle.lemmas.proofs.Range.{All}

-- a task or a source of the system
abbrev pub IsTask : System → ℕ → Type 0
IsTask s i = (1 ≤ i) × (i ≤ s.tasks)

abbrev pub IsSource : System → ℕ → Type 0
IsSource s i = (33 ≤ i) × (i < 33 + s.sources)

-- links rise strictly by from, then by to
abbrev pub rises : Link → Link → Bool
rises a b = ltb a.from b.from || (eqb a.from b.from && ltb a.to b.to)

-- counts within their limits, runs and sources on scale, links that rise and end at nodes of the file
pub record Fielded (d : Description) : Type 0 where
  pub few_tasks : d.task_count ≤ 32
  pub few_sources : d.source_count ≤ 16
  pub few_links : d.link_count ≤ 256
  pub run_some : (k : ℕ) → 1 ≤ k → k ≤ d.task_count → 1 ≤ run_of d k
  pub run_most : (k : ℕ) → 1 ≤ k → k ≤ d.task_count → run_of d k ≤ 10000000
  pub source_scale : (u : ℕ) → 33 ≤ u → u < 33 + d.source_count → on_scale (OfSource (source_at d u)) ≡ true
  pub link_from : (l : ℕ) → l < d.link_count → IsTask (system d) (link_at d l).from ⊎ IsSource (system d) (link_at d l).from
  pub link_to : (l : ℕ) → l < d.link_count → IsTask (system d) (link_at d l).to
  pub link_critical : (l : ℕ) → l < d.link_count → (link_at d l).critical ≤ 1
  pub link_rises : (l : ℕ) → suc l < d.link_count → rises (link_at d l) (link_at d (suc l)) ≡ true

-- a description that is judged as done: it has a task, its links have no cycle, and its loads are within their limit
pub record WellFormed (d : Description) : Type 0 where
  pub fields : Fielded d
  pub some_task : 1 ≤ d.task_count
  pub no_cycle : cyclic (system d) ≡ false
  pub not_heavy : too_heavy (system d) ≡ false

-- a system whose links end at its nodes, with runs of at least 1
pub record Shaped (s : System) : Type 0 where
  pub few : s.tasks ≤ 32
  pub runs : All (λ k. 1 ≤ s.run k) 1 s.tasks
  pub to_task : (i j : ℕ) → s.link i j ≡ true → IsTask s j
  pub from_node : (i j : ℕ) → s.link i j ≡ true → IsTask s i ⊎ IsSource s i

-- the laws of loads: a rank that falls along every link, and document 000's equation 9
pub record Loaded (s : System) : Type 0 where
  pub rank : ℕ → ℕ
  pub falls : (i j : ℕ) → s.link i j ≡ true → rank j < rank i
  pub rank_most : (i : ℕ) → rank i ≤ s.tasks
  pub whole : (j : ℕ) → work s j ≡ s.run j + sum_to (added s j) (suc j) s.tasks
  pub direct : (i j : ℕ) → s.link i j ≡ true → added s i j ≡ work s j
  pub through : (i j : ℕ) → s.link i j ≡ false → added s i j ≡ top_to (λ k. given (s.link i k) (added s k j)) (suc j) s.tasks

-- The precedence graph of a description: nodes, runs, links, paths and cycles.
use Rattle.std.specs.Prelude.{ℕ, zero, suc, ◌-◌, Bool, true, cond, ◌&&◌, ◌≡◌, get_or, eqb, leb}
use Rattle.model.specs.declared.Link.{Link}
use Rattle.model.specs.declared.Source.{Source}
use Rattle.model.specs.declared.Description.{Description}
use Rattle.model.specs.Basics.{any_n}
use Rattle.model.specs.Refusals.{no_link, no_source}

-- What loads and verdicts go by: tasks 1 .. tasks with their longest runs (0 for an absent one), sources 33 .. 32 + sources, links.
pub record System : Type 0 where
  pub tasks : ℕ
  pub sources : ℕ
  pub run : ℕ → ℕ
  pub link : ℕ → ℕ → Bool

-- the longest run (worst-case execution time) of task j; the link at place l; the source with number u
abbrev pub run_of : Description → ℕ → ℕ
run_of d j = get_or d.runs (j - 1) 0

abbrev pub link_at : Description → ℕ → Link
link_at d l = get_or d.links l no_link

abbrev pub source_at : Description → ℕ → Source
source_at d u = (get_or d.sources (u - 33) no_source).source

-- whether a link from i to j exists
unfoldable pub linked : Description → ℕ → ℕ → Bool
linked d i j = any_n (λ l. eqb (link_at d l).from i && eqb (link_at d l).to j) 0 d.link_count

unfoldable pub system : Description → System
system d = record {
  tasks = d.task_count;
  sources = d.source_count;
  run = λ j. cond (leb j d.task_count) (run_of d j) 0;
  link = linked d;
}

-- a path of one link or more
pub data Reaches (s : System) : ℕ → ℕ → Type 0 where
  one : {i j : ℕ} → s.link i j ≡ true → Reaches s i j
  more : {i k j : ℕ} → s.link i k ≡ true → Reaches s k j → Reaches s i j

-- "the links contain a cycle, a link to itself included"
abbrev pub Cycle : System → Type 0
Cycle s = (k : ℕ) × Reaches s k k

-- whether a walk of n links begins at i
unfoldable pub walks : System → ℕ → ℕ → Bool
walks s zero i = true
walks s (suc n) i = any_n (λ k. s.link i k && walks s n k) 1 s.tasks

-- the test for a cycle: some task begins a walk of as many links as there are tasks
unfoldable pub cyclic : System → Bool
cyclic s = any_n (walks s s.tasks) 1 s.tasks

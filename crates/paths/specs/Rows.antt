-- The links of a description as a set of tasks for each node, and the tasks that a node brings in.
use Rattle.std.specs.Prelude.{ℕ, ◌-◌, ◌≤◌, ◌<◌, ◌≡◌, Bool, true, cond, ◌&&◌, ◌||◌, List, length, get_or, leb}
use Rattle.model.specs.declared.Description.{Description}
use Rattle.model.specs.Basics.{any_n}
use Rattle.model.specs.Graph.{System, linked}
use Rattle.theory.proofs.Links.{Linkable}
use Rattle.sets.specs.Sets.{member}
use Rattle.paths.specs.Paths.{Through}

-- a node and a task, by number
abbrev pub NodeOf : ℕ → Type 0
NodeOf i = (1 ≤ i) × (i ≤ 48)

abbrev pub TaskOf : ℕ → ℕ → Type 0
TaskOf n j = (1 ≤ j) × (j ≤ n)

-- the set of node i
abbrev pub row_of : List ℕ → ℕ → ℕ
row_of rows i = get_or rows (i - 1) 0

-- the links of a description as a set of tasks for each node
abbrev pub SuccessorsOf : Description → List ℕ → Type 0
SuccessorsOf d succ = (i j : ℕ) → Linkable i j → member (row_of succ i) (j - 1) ≡ linked d i j

-- the links that such sets stand for
unfoldable pub link_by : List ℕ → ℕ → ℕ → ℕ → Bool
link_by succ n i j = leb 1 i && (leb i 48 && (leb 1 j && (leb j n && member (row_of succ i) (j - 1))))

-- the system of n tasks that sets of tasks and a table of runs stand for; loads and cycles ask nothing of the sources
unfoldable pub graph : List ℕ → List ℕ → ℕ → System
graph succ runs n = record {
  tasks = n;
  sources = 0;
  run = λ j. cond (leb j n) (get_or runs (j - 1) 0) 0;
  link = link_by succ n;
}

-- a task's set once paths may pass task v + 1, which brings in the set low
abbrev pub Grown : ℕ → ℕ → ℕ → ℕ → Type 0
Grown row low v r = (k : ℕ) → member r k ≡ (member row k || (member row v && member low k))

-- the same for the rows of n tasks
pub record Allowed (low v n : ℕ) (rows rows' : List ℕ) : Type 0 where
  pub long : length rows' ≡ 48
  pub each : (k : ℕ) → k < n → Grown (get_or rows k 0) low v (get_or rows' k 0)

-- the set of the tasks that node i brings in: those that a path reaches through higher ones
pub record Brought (succ : List ℕ) (n i set : ℕ) : Type 0 where
  pub only : (j : ℕ) → TaskOf n j → member set (j - 1) ≡ true → Through (link_by succ n) j i j
  pub all : (j : ℕ) → TaskOf n j → Through (link_by succ n) j i j → member set (j - 1) ≡ true

-- a row for each of n tasks
abbrev pub Closed : List ℕ → ℕ → List ℕ → Type 0
Closed succ n rows = (i : ℕ) → TaskOf n i → Brought succ n i (row_of rows i)

-- whether a task brings itself in
unfoldable pub self_in : List ℕ → ℕ → Bool
self_in rows n = any_n (λ i. member (get_or rows i 0) i) 0 n

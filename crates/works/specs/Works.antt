-- Works over links without a cycle, the sets of tasks that nodes bring in, and the loads that are sums of works.
use Rattle.std.specs.Prelude.{ℕ, ◌-◌, ◌≤◌, ◌<◌, ◌≡◌, false, List, length, get_or}
use Rattle.model.specs.Basics.{sum_to, given}
use Rattle.model.specs.Graph.{System, cyclic}
use Rattle.model.specs.Loads.{work, added}
use Rattle.sets.specs.Sets.{member}
use Rattle.paths.specs.Rows.{NodeOf, TaskOf, Brought, row_of, graph}

-- what works are worked out from: few tasks, runs on scale, links without a cycle
pub record Ready (succ : List ℕ) (runs : List ℕ) (n : ℕ) : Type 0 where
  pub few : n ≤ 32
  pub run_most : (k : ℕ) → 1 ≤ k → k ≤ n → get_or runs (k - 1) 0 ≤ 10000000
  pub no_cycle : cyclic (graph succ runs n) ≡ false

abbrev pub WorkIs : System → ℕ → ℕ → Type 0
WorkIs s j r = r ≡ work s j

abbrev pub AddedIs : System → ℕ → ℕ → ℕ → Type 0
AddedIs s i j r = r ≡ added s i j

-- a memo's rule: of each number from 1 to m, an entry above 0 is what it is asked for
pub record Memo (Is : ℕ → ℕ → Type 0) (m : ℕ) (known : List ℕ) : Type 0 where
  pub long : m ≤ length known
  pub right : (i : ℕ) → TaskOf m i → 0 < row_of known i → Is i (row_of known i)

-- the set of each node, and the work of each task
abbrev pub SetMemo : List ℕ → ℕ → List ℕ → Type 0
SetMemo succ n = Memo (Brought succ n) 48

abbrev pub WorkMemo : List ℕ → List ℕ → ℕ → List ℕ → Type 0
WorkMemo succ runs n = Memo (WorkIs (graph succ runs n)) n

-- the works of all tasks, and the sets of all nodes
abbrev pub WorksOf : System → List ℕ → Type 0
WorksOf s works = (j : ℕ) → TaskOf s.tasks j → get_or works (j - 1) 0 ≡ work s j

abbrev pub SetsOf : List ℕ → ℕ → List ℕ → Type 0
SetsOf succ n brings = (i : ℕ) → NodeOf i → Brought succ n i (row_of brings i)

-- works that 32 of do not overflow
abbrev pub Scaled : List ℕ → Type 0
Scaled works = (j : ℕ) → get_or works j 0 ≤ 42949672960000000

-- a node's load at task j, from its set and the works of n tasks
unfoldable pub load_by : ℕ → List ℕ → ℕ → ℕ → ℕ
load_by row works n j = sum_to (λ k. given (member row (k - 1)) (get_or works (k - 1) 0)) j n

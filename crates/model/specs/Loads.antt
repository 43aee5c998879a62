-- "Loads": document 000, equation 9.
use Rattle.std.specs.Prelude.{ℕ, zero, suc, ◌+◌, ◌*◌, Bool, true, false, List, ltb, replicate}
use Rattle.model.specs.declared.Row.{Row}
use Rattle.model.specs.Basics.{sum_to, top_to, any_n, given, tab}
use Rattle.model.specs.Graph.{System}

-- W(j) is e(j) plus the sum of added(j, k) over tasks k > j. added(i, j) is W(j) if a link i to j exists; else the largest
-- added(k, j) over links from i to k with k > j; else 0. The first number bounds how deep the two call each other.
unfoldable mutual
  pub work_f : ℕ → System → ℕ → ℕ
  work_f zero s j = 0
  work_f (suc f) s j = s.run j + sum_to (λ k. added_f f s j k) (suc j) s.tasks

  pub added_f : ℕ → System → ℕ → ℕ → ℕ
  added_f zero s i j = 0
  added_f (suc f) s i j = elim (s.link i j) [
    | true ↦ work_f f s j
    | false ↦ top_to (λ k. given (s.link i k) (added_f f s k j)) (suc j) s.tasks
  ]

-- two calls for each link of a path that meets no task twice
abbrev pub depth : System → ℕ
depth s = 2 * s.tasks + 4

unfoldable pub work : System → ℕ → ℕ
work s j = work_f (depth s) s j

unfoldable pub added : System → ℕ → ℕ → ℕ
added s i j = added_f (depth s) s i j

-- load(i, j) is the sum of added(i, k) over k ≥ j
unfoldable pub load : System → ℕ → ℕ → ℕ
load s i j = sum_to (added s i) j s.tasks

-- "some node's load at priority 1 exceeds 1,000,000,000": tasks are 1 to 32, sources 33 to 48, an absent node has none
unfoldable pub too_heavy : System → Bool
too_heavy s = any_n (λ i. ltb 1000000000 (load s i 1)) 1 48

-- the load sheet: "a row for each node and a column for each task"; row 0 is task 1, row 32 source 33
unfoldable pub sheet : System → List Row
sheet s = tab 48 (λ r. record { loads = tab 32 (λ c. load s (suc r) (suc c)) })

abbrev pub no_row : Row
no_row = record { loads = replicate 32 0 }

-- "Verdicts", from a task to a task: exclusive neighbourhoods (document 000, C1 to C4) and the backward walk that finds them.
use Rattle.std.specs.Prelude.{ℕ, zero, suc, ◌-◌, ◌<◌, ◌≤◌, Bool, true, false, ◌||◌, cond, ◌≡◌, get_or, set, replicate, ltb, Some, None, is_none}
use Rattle.model.specs.declared.Walk.{Walk}
use Rattle.model.specs.Basics.{up_to}
use Rattle.model.specs.Graph.{System}

-- a set of nodes
abbrev pub Set : Type 0
Set = ℕ → Bool

-- an exclusive neighbourhood (F, N) of task i: a pair of disjoint sets of tasks, with
pub record Neighbourhood (s : System) (i : ℕ) (F N : Set) : Type 0 where
  pub frontier_tasks : (k : ℕ) → F k ≡ true → (1 ≤ k) × (k ≤ s.tasks)
  pub interior_tasks : (k : ℕ) → N k ≡ true → (1 ≤ k) × (k ≤ s.tasks)
  pub disjoint : (k : ℕ) → F k ≡ true → N k ≡ true → ⊥
  -- C1: i is in F ∪ N
  pub c1 : (F i || N i) ≡ true
  -- C2: if k is in N, then all of its predecessors are in F ∪ N
  pub c2 : (p k : ℕ) → N k ≡ true → s.link p k ≡ true → (F p || N p) ≡ true
  -- C3: every task in F ∪ N except i has a unique successor in N, and i has no successors in N
  pub c3_one : (k : ℕ) → (F k || N k) ≡ true → (k ≡ i → ⊥) → (m : ℕ) × (N m ≡ true) × (s.link k m ≡ true)
  pub c3_only : (k m m' : ℕ) → (F k || N k) ≡ true → (k ≡ i → ⊥) → N m ≡ true → s.link k m ≡ true → N m' ≡ true → s.link k m' ≡ true → m ≡ m'
  pub c3_none : (m : ℕ) → N m ≡ true → s.link i m ≡ true → ⊥
  -- C4: k < m for every k in F and every m in N
  pub c4 : (k m : ℕ) → F k ≡ true → N m ≡ true → k < m

-- "the link is held exactly if some neighbourhood has all its frontier below j"
pub record InOrder (s : System) (i j : ℕ) : Type 0 where
  pub F : Set
  pub N : Set
  pub hood : Neighbourhood s i F N
  pub below : (k : ℕ) → F k ≡ true → k < j

-- the walk "goes back from i against the links, stops at tasks below j, and fails on a source or on a task met twice"
abbrev pub fail_at : ℕ → Walk → Walk
fail_at x w = record { failed = Some x; met = w.met }

abbrev pub meet : ℕ → Walk → Walk
meet x w = record { failed = w.failed; met = set w.met (x - 1) true }

-- to x, and from there to each node with a link to x in rising number; the first number bounds how deep it goes
unfoldable pub visit : ℕ → System → ℕ → ℕ → Walk → Walk
visit zero s j x w = fail_at x w
visit (suc n) s j x w =
    cond (ltb 32 x) (fail_at x w)
    (cond (get_or w.met (x - 1) false) (fail_at x w)
    (cond (ltb x j) (meet x w)
    (up_to 48 (λ r v. elim (s.link (suc r) x) [
      | false ↦ v
      | true ↦ elim (is_none v.failed) [ false ↦ v | true ↦ visit n s j (suc r) v ]
    ])
    (meet x w))))

-- deeper than there are tasks
unfoldable pub walk : System → ℕ → ℕ → Walk
walk s i j = visit 34 s j i (record { failed = None; met = replicate 32 false })

unfoldable pub in_order : System → ℕ → ℕ → Bool
in_order s i j = is_none (walk s i j).failed

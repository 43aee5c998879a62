-- Working works out along links: the partial sums of the loops, the memos and the tables. Assumes nothing.
use Prim.Native.Nat.{ℕ, suc, ◌+◌, ◌-◌, ◌≤◌, ◌<◌}
use mathlib.Core.Path.{◌≡◌, refl, sym, ◌∙◌}
use mathlib.Core.Bool.{Bool, true, false, cond}
use mathlib.Core.List.{List}
use native.Mathlib.Omega.{arith}
use native.Mathlib.Decide.{ℕ_discrete, dec_lt}
use lib.ListN.{length, get_or, set, length-set, replicate, length-replicate, get_or-replicate, get_or-eq_default}
use lib.Seq.{get_or-set_same, get_or-set_other}
use lib.Dec.{leb}
use borrow.Author.Tests.{leb-true}
use Rattle.model.specs.Basics.{sum_n}
use Rattle.model.specs.Graph.{System}
use Rattle.model.specs.Loads.{work, added}
use Rattle.lemmas.proofs.Tests.{Cmp, less, same, more, cmp}
use Rattle.lemmas.proofs.Range.{sum_n-more}
use Rattle.lemmas.proofs.Table.{get_d_same}
use Rattle.theory.proofs.LoadBounds.{sum_n-part, work_most}
use Rattle.paths.specs.Rows.{row_of, graph, TaskOf}
use Rattle.works.specs.Works.{Ready, Memo, Scaled, WorksOf}
use Rattle.paths.proofs.Tabled.{run_is, graph_loaded}

-- the works of a graph without a cycle stay on the scale
module _ (succ : List ℕ) (runs : List ℕ) (n : ℕ) where
  run_bound : ((k : ℕ) → 1 ≤ k → k ≤ n → get_or runs (k - 1) 0 ≤ 10000000) → (k : ℕ) → 1 ≤ k → (graph succ runs n).run k ≤ 10000000
  unfolding graph
  run_bound most k p = go (leb k n) refl
    where
      go : (b : Bool) → leb k n ≡ b → cond (leb k n) (get_or runs (k - 1) 0) 0 ≤ 10000000
      go true e = rw e (most k p (leb-true k n e))
      go false e = rw e (omega arith)

  few_tasks : n ≤ 32 → (graph succ runs n).tasks ≤ 32
  unfolding graph
  few_tasks p = p

  -- a work stays below 2^56
  pub graph_work : Ready succ runs n → (j : ℕ) → 1 ≤ j → work (graph succ runs n) j ≤ 42949672960000000
  graph_work R = work_most (graph succ runs n) (graph_loaded succ runs n R.no_cycle) (run_bound R.run_most) (few_tasks R.few)

-- W(j) with the added loads of the tasks below k alone
unfoldable pub work_to : System → ℕ → ℕ → ℕ
work_to s j k = s.run j + sum_n (added s j) (suc j) (k - suc j)

pub work_to-more : (s : System) (j k : ℕ) → j + 1 ≤ k → work_to s j (k + 1) ≡ work_to s j k + added s j k
unfolding work_to
work_to-more s j k p = omega (arith, sum_n-more (added s j) (suc j) k (omega arith))

module _ (succ : List ℕ) (runs : List ℕ) (n : ℕ) (R : Ready succ runs n) where
  pub work_to-start : (j : ℕ) → TaskOf n j → work_to (graph succ runs n) j (j + 1) ≡ get_or runs (j - 1) 0
  unfolding work_to sum_n
  work_to-start j T =
      let e : j + 1 - suc j ≡ 0 = omega arith in
      rw e (omega (arith, run_is succ runs n j T.1))

  pub work_to-end : (j : ℕ) → work_to (graph succ runs n) j (n + 1) ≡ work (graph succ runs n) j
  unfolding work_to graph
  work_to-end j =
      let e : n + 1 ≡ suc n = omega arith in
      rw e (sym ((graph_loaded succ runs n R.no_cycle).whole j))

  pub work_to-most : (j k : ℕ) → TaskOf n j → k ≤ n + 1 → work_to (graph succ runs n) j k ≤ 42949672960000000
  unfolding work_to
  work_to-most j k T p =
      omega (
        arith,
        graph_work succ runs n R j T.0,
        work_to-end j,
        sum_n-part (added (graph succ runs n) j) (suc j) (k - suc j) (n + 1 - suc j) (omega arith),
      )

-- one more entry of a memo is known
pub memo_put : (Is : ℕ → ℕ → Type 0) (m : ℕ) (known : List ℕ) (j r : ℕ) → TaskOf m j → Memo Is m known → Is j r → Memo Is m (set known (j - 1) r)
memo_put Is m known j r T M e =
    record {
      long = simp length-set M.long;
      right = λ k K p. go k K p (ℕ_discrete k j);
    }
  where
    here : get_or (set known (j - 1) r) (j - 1) 0 ≡ r
    here = get_or-set_same known (j - 1) r 0 (omega (arith, M.long, T))

    go : (k : ℕ) → TaskOf m k → 0 < row_of (set known (j - 1) r) k → Dec (k ≡ j) → Is k (row_of (set known (j - 1) r) k)
    go k K p (yes q) = rw (q, here) e
    go k K p (no q) =
        let f = get_or-set_other known (j - 1) (k - 1) r 0 (λ z. q (omega (arith, K, T))) in
        rw f (M.right k K (rw f at p))

-- what stands at index k, if it is not 0
pub noted : (Is : ℕ → ℕ → Type 0) (m : ℕ) (known : List ℕ) (k : ℕ) → TaskOf m (k + 1) → Memo Is m known → (get_or known k 0 ≡ 0 → ⊥) → Is (k + 1) (get_or known k 0)
noted Is m known k T M some = let e : k + 1 - 1 ≡ k = omega arith in rw e at (M.right (k + 1) T (rw e (omega arith)))

-- nothing is known yet
pub memo_none : (Is : ℕ → ℕ → Type 0) (m l : ℕ) → m ≤ l → Memo Is m (replicate l 0)
memo_none Is m l few =
    record {
      long = omega (arith, length-replicate {A = ℕ} l 0);
      right = λ i T p. absurd (omega (arith, get_d_same {A = ℕ} l (i - 1) 0));
    }

-- the works from task j + 1 on, filled from the highest down
pub record WorksFrom (s : System) (n j : ℕ) (works : List ℕ) : Type 0 where
  pub long : length works ≡ 32
  pub worked : (c : ℕ) → j ≤ c → c < n → get_or works c 0 ≡ work s (suc c)
  pub scaled : Scaled works

pub works_none : (s : System) (n : ℕ) → WorksFrom s n n (replicate 32 0)
works_none s n =
    record { long = refl; worked = λ c p q. absurd (omega arith); scaled = λ j. zeros j (dec_lt j 32) }
  where
    none : List ℕ
    none = replicate 32 0

    zeros : (j : ℕ) → Dec (j < 32) → get_or none j 0 ≤ 42949672960000000
    zeros j (yes p) = let z : get_or none j 0 ≡ 0 = get_or-replicate 32 j 0 0 p in omega arith
    zeros j (no p) = let z : get_or none j 0 ≡ 0 = get_or-eq_default none 0 {n = j} (omega arith) in omega arith

pub works_put : (s : System) (n j : ℕ) (works : List ℕ) (x : ℕ) → j < 32 → x ≡ work s (suc j) → x ≤ 42949672960000000 → WorksFrom s n (suc j) works → WorksFrom s n j (set works j x)
works_put s n j works x p e b W =
    record {
      long = simp length-set W.long;
      worked = λ c q r. go c r q (cmp j c);
      scaled = λ k. most k (ℕ_discrete k j);
    }
  where
    here : get_or (set works j x) j 0 ≡ x
    here = get_or-set_same works j x 0 (omega (arith, W.long))

    go : (c : ℕ) → c < n → j ≤ c → Cmp j c → get_or (set works j x) c 0 ≡ work s (suc c)
    go c r q (less k) = get_or-set_other works j c x 0 (λ z. omega arith) ∙ W.worked c k r
    go c r q (same k) = rw (← k) (here ∙ e)
    go c r q (more k) = absurd (omega arith)

    most : (k : ℕ) → Dec (k ≡ j) → get_or (set works j x) k 0 ≤ 42949672960000000
    most k (yes q) = rw (q, here) b
    most k (no q) = rw (get_or-set_other works j k x 0 q) (W.scaled k)

pub works_end : (succ runs : List ℕ) (n : ℕ) (works : List ℕ) → WorksFrom (graph succ runs n) n 0 works → WorksOf (graph succ runs n) works
unfolding graph
works_end succ runs n works W j T =
    let e : suc (j - 1) ≡ j = omega (arith, T) in
    rw e at (W.worked (j - 1) (omega arith) (omega (arith, T)))

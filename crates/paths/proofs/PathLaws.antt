-- Paths through the higher tasks, and how they grow as one task more may be passed. Assumes nothing.
use Prim.Native.Nat.{ℕ, zero, suc, ◌+◌, ◌-◌, ◌≤◌, ◌<◌}
use mathlib.Core.Path.{◌≡◌, refl, sym, ap, ◌∙◌}
use mathlib.Core.Bool.{Bool, true, false, ◌||◌, ◌&&◌}
use mathlib.Core.List.{List}
use mathlib.Core.Logic.{◌⊎◌, inl, inr}
use native.Mathlib.Omega.{arith}
use lib.ListN.{get_or}
use lib.Dec.{ltb}
use borrow.Author.Tests.{lt-ltb, le-ltb}
use Rattle.lemmas.proofs.Tests.{Cmp, less, same, more, cmp, or_left, or_right, or_new, and_left, and_right, both, and_false_right}
use Rattle.paths.specs.Paths.{Through}
use Rattle.paths.specs.Paths.Through.{one, more as on}
use Rattle.sets.specs.Sets.{member}
use Rattle.paths.specs.Rows.{link_by, row_of, TaskOf, Grown, Allowed, Closed}
use Rattle.paths.proofs.Tabled.{link_is, link_inside}
use Rattle.lemmas.proofs.Bools.{or_none}

module _ (link : ℕ → ℕ → Bool) where
  pub weaken : (v w : ℕ) → w ≤ v → {i j : ℕ} → Through link v i j → Through link w i j
  weaken v w p (one e) = one e
  weaken v w p (on e q t) = on e (omega arith) (weaken v w p t)

  pub join : (v m : ℕ) → v < m → {i j : ℕ} → Through link v i m → Through link v m j → Through link v i j
  join v m p (one e) t = on e p t
  join v m p (on e q r) t = on e q (join v m p r t)

  -- a path passes task v + 1 or it does not
  pub split : (v : ℕ) {i j : ℕ} → Through link v i j → Through link (suc v) i j ⊎ (Through link (suc v) i (suc v) × Through link (suc v) (suc v) j)
  split v (one e) = inl (one e)
  split v {i} {j} (on {k = k} e p t) = go (cmp k (suc v)) (split v t)
    where
      go : Cmp k (suc v) → Through link (suc v) k j ⊎ (Through link (suc v) k (suc v) × Through link (suc v) (suc v) j) → Through link (suc v) i j ⊎ (Through link (suc v) i (suc v) × Through link (suc v) (suc v) j)
      go (less q) s = absurd (omega arith)
      go (same q) (inl r) = inr (one (rw q at e), rw q at r)
      go (same q) (inr r) = inr (one (rw q at e), r.1)
      go (more q) (inl r) = inl (on e q r)
      go (more q) (inr r) = inr (on e q r.0, r.1)

  -- a way back passes a lowest task
  pub lowest : (f v i : ℕ) → i ≤ v + f → v < i → Through link v i i → (u : ℕ) × (1 ≤ u) × (u ≤ i) × Through link u u u
  lowest zero v i p q t = absurd (omega arith)
  lowest (suc f) v i p q t = go (cmp i (suc v)) (split v t) (λ r. lowest f (suc v) i (omega arith) r)
    where
      go : Cmp i (suc v) → Through link (suc v) i i ⊎ (Through link (suc v) i (suc v) × Through link (suc v) (suc v) i) → (suc v < i → Through link (suc v) i i → (u : ℕ) × (1 ≤ u) × (u ≤ i) × Through link u u u) → (u : ℕ) × (1 ≤ u) × (u ≤ i) × Through link u u u
      go (less r) s h = absurd (omega arith)
      go (same r) (inl s) h = (suc v, omega arith, omega arith, rw r at s)
      go (same r) (inr s) h = (suc v, omega arith, omega arith, rw r at s.1)
      go (more r) (inl s) h = h r s
      go (more r) (inr s) h = (suc v, omega arith, omega arith, join (suc v) i r s.1 s.0)

-- the sets once paths may pass the tasks above v: up to v they may still grow, from v on they are closed
pub record RowsAt (succ : List ℕ) (n v : ℕ) (rows : List ℕ) : Type 0 where
  pub open_only : (i j : ℕ) → TaskOf n i → TaskOf n j → j ≤ v → member (row_of rows i) (j - 1) ≡ true → Through (link_by succ n) v i j
  pub open_all : (i j : ℕ) → TaskOf n i → TaskOf n j → j ≤ v → Through (link_by succ n) v i j → member (row_of rows i) (j - 1) ≡ true
  pub shut_only : (i j : ℕ) → TaskOf n i → TaskOf n j → v ≤ j → member (row_of rows i) (j - 1) ≡ true → Through (link_by succ n) j i j
  pub shut_all : (i j : ℕ) → TaskOf n i → TaskOf n j → v ≤ j → Through (link_by succ n) j i j → member (row_of rows i) (j - 1) ≡ true

-- above all tasks a path is a link
pub rows_start : (succ : List ℕ) (n : ℕ) → n ≤ 32 → RowsAt succ n n succ
rows_start succ n few =
    record {
      open_only = λ i j N T p e. one (is i j N T ∙ e);
      open_all = λ i j N T p t. sym (is i j N T) ∙ direct n i j (omega arith) t;
      shut_only = λ i j N T p e. one (is i j N T ∙ e);
      shut_all = λ i j N T p t. sym (is i j N T) ∙ direct j i j p t;
    }
  where
    is : (i j : ℕ) → TaskOf n i → TaskOf n j → link_by succ n i j ≡ member (row_of succ i) (j - 1)
    is i j N T = link_is succ n i j (omega (arith, N, few)) T

    direct : (v i j : ℕ) → n ≤ v → Through (link_by succ n) v i j → link_by succ n i j ≡ true
    direct v i j p (one e) = e
    direct v i j p (on {k = k} e q t) = absurd (omega (arith, (link_inside succ n i k e).1.1))

module _ (succ : List ℕ) (n : ℕ) (v : ℕ) (p : suc v ≤ n) (rows rows' : List ℕ) (low : ℕ) (B : RowsAt succ n (suc v) rows)
    (L : (k : ℕ) → member low k ≡ (member (get_or rows v 0) k && ltb k v)) (A : Allowed low v n rows rows') where
  index : suc v - 1 ≡ v
  index = omega arith

  T' : TaskOf n (suc v)
  T' = (omega arith, p)

  G : (i : ℕ) → TaskOf n i → Grown (row_of rows i) low v (row_of rows' i)
  G i N = A.each (i - 1) (omega (arith, N))

  opened_only : (i j : ℕ) → TaskOf n i → TaskOf n j → j ≤ v → member (row_of rows' i) (j - 1) ≡ true → Through (link_by succ n) v i j
  opened_only i j N T q e = go (member (row_of rows i) (j - 1)) refl
    where
      go : (b : Bool) → member (row_of rows i) (j - 1) ≡ b → Through (link_by succ n) v i j
      go true f = weaken (link_by succ n) (suc v) v (omega arith) (B.open_only i j N T (omega arith) f)
      go false f =
          let g = or_new (member (row_of rows i) (j - 1)) (member (row_of rows i) v && member low (j - 1)) f (sym (G i N (j - 1)) ∙ e) in
          let h = sym (L (j - 1)) ∙ and_right (member (row_of rows i) v) (member low (j - 1)) g in
          join (link_by succ n) v (suc v) (omega arith)
          (weaken (link_by succ n) (suc v) v (omega arith) (B.open_only i (suc v) N T' (omega arith) (rw index (and_left (member (row_of rows i) v) (member low (j - 1)) g))))
          (weaken (link_by succ n) (suc v) v (omega arith) (B.open_only (suc v) j T' T (omega arith) (rw index (and_left (member (get_or rows v 0) (j - 1)) (ltb (j - 1) v) h))))

  opened_all : (i j : ℕ) → TaskOf n i → TaskOf n j → j ≤ v → Through (link_by succ n) v i j → member (row_of rows' i) (j - 1) ≡ true
  opened_all i j N T q t = G i N (j - 1) ∙ go (split (link_by succ n) v t)
    where
      go : Through (link_by succ n) (suc v) i j ⊎ (Through (link_by succ n) (suc v) i (suc v) × Through (link_by succ n) (suc v) (suc v) j) → (member (row_of rows i) (j - 1) || (member (row_of rows i) v && member low (j - 1))) ≡ true
      go (inl r) = or_left (member (row_of rows i) (j - 1)) _ (B.open_all i j N T (omega arith) r)
      go (inr r) =
          let a : member (row_of rows i) v ≡ true = rw index at (B.open_all i (suc v) N T' (omega arith) r.0) in
          let b : member (get_or rows v 0) (j - 1) ≡ true = rw index at (B.open_all (suc v) j T' T (omega arith) r.1) in
          let c : ltb (j - 1) v ≡ true = lt-ltb (j - 1) v (omega (arith, T)) in
          or_right (member (row_of rows i) (j - 1)) _ (both (member (row_of rows i) v) (member low (j - 1)) a (L (j - 1) ∙ both (member (get_or rows v 0) (j - 1)) (ltb (j - 1) v) b c))

  kept : (i j : ℕ) → TaskOf n i → v < j → member (row_of rows' i) (j - 1) ≡ member (row_of rows i) (j - 1)
  kept i j N q =
      let c : ltb (j - 1) v ≡ false = le-ltb (j - 1) v (omega arith) in
      G i N (j - 1)
      ∙ or_none (member (row_of rows i) (j - 1)) _
      (and_false_right (member (row_of rows i) v) (member low (j - 1)) (L (j - 1) ∙ and_false_right (member (get_or rows v 0) (j - 1)) (ltb (j - 1) v) c))

  -- one task more may be passed
  pub rows_step : RowsAt succ n v rows'
  rows_step =
      record {
        open_only = opened_only;
        open_all = opened_all;
        shut_only = λ i j N T q e. shut_only i j N T q e (cmp v j);
        shut_all = λ i j N T q t. shut_all i j N T q t (cmp v j);
      }
    where
      shut_only : (i j : ℕ) → TaskOf n i → TaskOf n j → v ≤ j → member (row_of rows' i) (j - 1) ≡ true → Cmp v j → Through (link_by succ n) j i j
      shut_only i j N T q e (less r) = B.shut_only i j N T r (sym (kept i j N r) ∙ e)
      shut_only i j N T q e (same r) = weaken (link_by succ n) v j (omega arith) (opened_only i j N T (omega arith) e)
      shut_only i j N T q e (more r) = absurd (omega arith)

      shut_all : (i j : ℕ) → TaskOf n i → TaskOf n j → v ≤ j → Through (link_by succ n) j i j → Cmp v j → member (row_of rows' i) (j - 1) ≡ true
      shut_all i j N T q t (less r) = kept i j N r ∙ B.shut_all i j N T r t
      shut_all i j N T q t (same r) = opened_all i j N T (omega arith) (weaken (link_by succ n) j v (omega arith) t)
      shut_all i j N T q t (more r) = absurd (omega arith)

-- a set without task v + 1 does not grow
pub same_grown : (row low v : ℕ) → member row v ≡ false → Grown row low v row
same_grown row low v e k = sym (or_none (member row k) _ (ap (λ b. b && member low k) e))

-- once paths may pass every task, all sets are closed
pub rows_end : (succ : List ℕ) (n : ℕ) (rows : List ℕ) → RowsAt succ n 0 rows → Closed succ n rows
rows_end succ n rows B i N =
    record {
      only = λ j T. B.shut_only i j N T (omega arith);
      all = λ j T. B.shut_all i j N T (omega arith);
    }

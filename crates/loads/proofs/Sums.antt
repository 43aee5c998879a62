-- Sums of works, and rows of them. Assumes nothing.
use Prim.Native.Nat.{ℕ, zero, suc, ◌+◌, ◌-◌, ◌*◌, ◌≤◌, ◌<◌}
use mathlib.Core.Path.{◌≡◌, refl, sym, ◌∙◌}
use mathlib.Core.List.{List}
use native.Mathlib.Omega.{arith}
use lib.ListN.{length, get_or, set, take, length-set, replicate, get_or-replicate}
use lib.Seq.{get_or-set_same, get_or-set_other}
use Rattle.std.specs.List.{sum}
use Rattle.model.specs.Basics.{sum_n, sum_to, given}
use Rattle.lemmas.proofs.Chains.{sum_front}
use Rattle.lemmas.proofs.Tests.{Cmp, less, same, more, cmp}
use Rattle.lemmas.proofs.Range.{sum_n-first, given_le}
use Rattle.sets.specs.Sets.{member}
use Rattle.works.specs.Works.{Scaled, load_by}

-- sums of works
pub load_by-none : (row : ℕ) (works : List ℕ) (n j : ℕ) → n < j → load_by row works n j ≡ 0
unfolding load_by sum_n
load_by-none row works n j p = let e : suc n - j ≡ 0 = omega arith in rw e refl

pub load_by-step : (row : ℕ) (works : List ℕ) (n c : ℕ) → c < n → load_by row works n (suc c) ≡ given (member row c) (get_or works c 0) + load_by row works n (suc (suc c))
unfolding load_by
load_by-step row works n c p =
    let e : suc n - suc c ≡ suc (n - suc c) = omega arith in
    let f : suc n - suc (suc c) ≡ n - suc c = omega arith in
    let g : suc c - 1 ≡ c = omega arith in
    rw (e, f) (sum_n-first (λ k. given (member row (k - 1)) (get_or works (k - 1) 0)) (suc c) (n - suc c) ∙ rw g refl)

pub sum-most : (f : ℕ → ℕ) (a n b : ℕ) → ((k : ℕ) → f k ≤ b) → sum_n f a n ≤ n * b
unfolding sum_n
sum-most f a zero b h = omega arith
sum-most f a (suc n) b h = omega (arith, h (a + n), sum-most f a n b h)

pub load_by-most : (row : ℕ) (works : List ℕ) (n j : ℕ) → n ≤ 32 → Scaled works → 1 ≤ j → load_by row works n j ≤ 1374389534720000000
unfolding load_by
load_by-most row works n j p S q =
    omega (
      arith,
      sum-most
          (λ k. given (member row (k - 1)) (get_or works (k - 1) 0))
          j
          (suc n - j)
          42949672960000000
          (λ k. given_le (member row (k - 1)) (get_or works (k - 1) 0) 42949672960000000 (λ e. S (k - 1))),
    )

-- a row of loads, filled from the highest task down
abbrev pub RowFrom : ℕ → List ℕ → ℕ → ℕ → List ℕ → Type 0
RowFrom row works n j l = (length l ≡ 32) × ((c : ℕ) → j ≤ c → c < 32 → get_or l c 0 ≡ load_by row works n (suc c))

pub row_none : (row : ℕ) (works : List ℕ) (n : ℕ) → RowFrom row works n n (replicate 32 0)
row_none row works n = (refl, λ c p q. get_or-replicate 32 c 0 0 q ∙ sym (load_by-none row works n (suc c) (omega arith)))

pub row_put : (row : ℕ) (works : List ℕ) (n j : ℕ) (l : List ℕ) (x : ℕ) → j < 32 → x ≡ load_by row works n (suc j) → RowFrom row works n (suc j) l → RowFrom row works n j (set l j x)
row_put row works n j l x p e h = (simp length-set h.0, λ c q r. go c r q (cmp j c))
  where
    here : get_or (set l j x) j 0 ≡ load_by row works n (suc j)
    here = get_or-set_same l j x 0 (omega (arith, h.0)) ∙ e

    go : (c : ℕ) → c < 32 → j ≤ c → Cmp j c → get_or (set l j x) c 0 ≡ load_by row works n (suc c)
    go c r q (less k) = get_or-set_other l j c x 0 (λ z. omega arith) ∙ h.1 c k r
    go c r q (same k) = rw (sym k) here
    go c r q (more k) = absurd (omega arith)

-- the works of n tasks as the front of a list
front_shift : (works : List ℕ) (m : ℕ) → sum_n (λ k. get_or works k 0) 0 m ≡ sum_n (λ k. get_or works (k - 1) 0) 1 m
unfolding sum_n
front_shift works zero = refl
front_shift works (suc m) =
    let e : 1 + m - 1 ≡ 0 + m = omega arith in
    rw (front_shift works m, e) refl

pub works_front : (works : List ℕ) (n : ℕ) → n ≤ length works → sum (take n works) ≡ sum_to (λ k. get_or works (k - 1) 0) 1 n
works_front works n h = let e : suc n - 1 ≡ n = omega arith in rw e (sum_front works n h ∙ front_shift works n)

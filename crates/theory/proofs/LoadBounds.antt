-- How large loads are: below 2^63 for every system without a cycle, at most 1,000,000,000 for one that is not too heavy. Assumes nothing.
use Prim.Native.Nat.{ℕ, zero, suc, ◌+◌, ◌-◌, ◌≤◌, ◌<◌}
use mathlib.Core.Path.{◌≡◌, ap}
use mathlib.Core.Bool.{false}
use native.Mathlib.Omega.{arith}
use borrow.Author.Tests.{ltb-false}
use Rattle.model.specs.Basics.{sum_n, sum_to}
use Rattle.model.specs.Graph.{System}
use Rattle.model.specs.Loads.{work, added, load, too_heavy}
use Rattle.lemmas.proofs.Tests.{Cmp, less, same, more, cmp}
use Rattle.lemmas.proofs.Range.{All, Each, sum_n-split, sum_n-first, none_any}
use Rattle.theory.proofs.WellFormed.{IsTask, IsSource, Shaped, Loaded}
use Rattle.theory.proofs.LoadLaws.{added_le, absent_load}

-- a part of a sum
pub sum_n-part : (f : ℕ → ℕ) (a n m : ℕ) → n ≤ m → sum_n f a n ≤ sum_n f a m
sum_n-part f a n m p =
    let e : m ≡ n + (m - n) = omega arith in
    rw e (omega (arith, sum_n-split f a n (m - n)))

-- a load falls as the priority grows
pub load_falls : (s : System) (i a b : ℕ) → a ≤ b → load s i b ≤ load s i a
unfolding load sum_n
load_falls s i a b p = go (cmp b s.tasks)
  where
    tail : b ≤ suc s.tasks → sum_to (added s i) b s.tasks ≤ sum_to (added s i) a s.tasks
    tail q =
        let e : suc s.tasks - a ≡ b - a + (suc s.tasks - b) = omega arith in
        let e2 : a + (b - a) ≡ b = omega arith in
        let cut = sum_n-split (added s i) a (b - a) (suc s.tasks - b) in
        rw e (omega (arith, rw e2 at cut))

    go : Cmp b s.tasks → sum_to (added s i) b s.tasks ≤ sum_to (added s i) a s.tasks
    go (less q) = tail (omega arith)
    go (same q) = tail (omega arith)
    go (more q) = let e : suc s.tasks - b ≡ 0 = omega arith in rw (e, sum_n) (omega arith)

-- 10,000,000 doubled n times
unfoldable pub doubled : ℕ → ℕ
doubled zero = 10000000
doubled (suc n) = doubled n + doubled n

pub doubled_up : (n d : ℕ) → doubled n ≤ doubled (d + n)
unfolding doubled
doubled_up n zero = let e : 0 + n ≡ n = omega arith in rw e (omega arith)
doubled_up n (suc d) =
    let e : suc d + n ≡ suc (d + n) = omega arith in
    rw e (omega (arith, doubled_up n d))

-- doubled 32, below 2^56
pub doubled_most : (n : ℕ) → n ≤ 32 → doubled n ≤ 42949672960000000
unfolding doubled
doubled_most n p = let e : 32 - n + n ≡ 32 = omega arith in rw e at (doubled_up n (32 - n))

-- terms that double towards the front
sum-doubled : (g : ℕ → ℕ) (a n : ℕ) → Each (λ k. g k ≤ doubled (a + n - suc k)) a n → sum_n g a n + 10000000 ≤ doubled n
unfolding doubled sum_n
sum-doubled g a zero h = omega arith
sum-doubled g a (suc n) h =
    let e : a + suc n - suc a ≡ n = omega arith in
    omega (
      arith,
      sum_n-first g a n,
      rw e at (h a (omega arith) (omega arith)),
      sum-doubled g (suc a) n (λ k p q. let e2 : suc a + n ≡ a + suc n = omega arith in rw e2 (h k (omega arith) (omega arith))),
    )

sum_to-doubled : (g : ℕ → ℕ) (a b : ℕ) → All (λ k. g k ≤ doubled (b - k)) a b → sum_to g a b + 10000000 ≤ doubled (suc b - a)
sum_to-doubled g a b h =
    sum-doubled
    g
    a
    (suc b - a)
    (λ k p q. let e : a + (suc b - a) - suc k ≡ b - k = omega arith in rw e (h k p (omega arith)))

module _ (s : System) (L : Loaded s) (runs : (k : ℕ) → 1 ≤ k → s.run k ≤ 10000000) where
  work_doubled_by : (r j : ℕ) → s.tasks - j < r → 1 ≤ j → work s j ≤ doubled (s.tasks - j)
  work_doubled_by zero j p q = absurd (omega arith)
  work_doubled_by (suc r) j p q =
      let e : suc s.tasks - suc j ≡ s.tasks - j = omega arith in
      omega (
        arith,
        ap doubled e,
        L.whole j,
        runs j q,
        sum_to-doubled
            (added s j)
            (suc j)
            s.tasks
            (λ k t u. omega (arith, added_le s L j k, work_doubled_by r k (omega arith) (omega arith))),
      )

  -- W(j) is at most 10,000,000 doubled once for each task above j
  pub work_doubled : (j : ℕ) → 1 ≤ j → work s j ≤ doubled (s.tasks - j)
  work_doubled j q = work_doubled_by (suc (s.tasks - j)) j (omega arith) q

  pub load_doubled : (i j : ℕ) → 1 ≤ j → load s i j ≤ doubled (suc s.tasks - j)
  unfolding load
  load_doubled i j q =
      omega (
        arith,
        sum_to-doubled
            (added s i)
            j
            s.tasks
            (λ k t u. omega (arith, added_le s L i k, work_doubled k (omega arith))),
      )

  -- for at most 32 tasks every load stays below 2^56, so that no sum of loads leaves 64 bits
  pub work_most : s.tasks ≤ 32 → (j : ℕ) → 1 ≤ j → work s j ≤ 42949672960000000
  work_most few j q = omega (arith, work_doubled j q, doubled_most (s.tasks - j) (omega arith))

  pub added_most : s.tasks ≤ 32 → (i j : ℕ) → 1 ≤ j → added s i j ≤ 42949672960000000
  added_most few i j q = omega (arith, added_le s L i j, work_most few j q)

  pub load_most : s.tasks ≤ 32 → (i j : ℕ) → 1 ≤ j → load s i j ≤ 42949672960000000
  load_most few i j q = omega (arith, load_doubled i j q, doubled_most (suc s.tasks - j) (omega arith))

-- a system that is not too heavy has no load above 1,000,000,000, at any node and task
pub load_light : (s : System) → Shaped s → s.sources ≤ 16 → Loaded s → too_heavy s ≡ false → (i j : ℕ) → 1 ≤ j → load s i j ≤ 1000000000
unfolding too_heavy
load_light s S few L light i j q = go (cmp i 0) (cmp i 49)
  where
    none : (IsTask s i → ⊥) → (IsSource s i → ⊥) → load s i j ≤ 1000000000
    none t u = omega (arith, absent_load s S i j t u)

    node : 1 ≤ i → i ≤ 48 → load s i j ≤ 1000000000
    node p r =
        omega (
          arith,
          load_falls s i 1 j q,
          ltb-false 1000000000 (load s i 1) (none_any _ 1 48 light i p (omega arith)),
        )

    go : Cmp i 0 → Cmp i 49 → load s i j ≤ 1000000000
    go (less p) r = absurd (omega arith)
    go (same p) r = none (λ t. omega (arith, t.0)) (λ u. omega (arith, u.0))
    go (more p) (less r) = node (omega arith) (omega arith)
    go (more p) (same r) = none (λ t. omega (arith, t.1, S.few)) (λ u. omega (arith, u.1))
    go (more p) (more r) = none (λ t. omega (arith, t.1, S.few)) (λ u. omega (arith, u.1))

-- A lower bound of the fixed points of a level: any set of its sources is taken as a steady flow, the others by their firings in a
-- stretch that no fixed point is below. Rounds may jump to it. Assumes nothing.
use Prim.Native.Nat.{ℕ, suc, ◌+◌, ◌-◌, ◌*◌, ◌/◌, ◌≤◌, ◌<◌}
use mathlib.Core.Path.{◌≡◌, ap}
use mathlib.Core.Bool.{Bool, true, false, cond}
use native.Mathlib.Omega.{arith}
use native.Mathlib.Nat.{mul-le-mul_left, mul-le-mul_right, div-lt_iff_lt-mul}
use Rattle.model.specs.Basics.{sum_n}
use Rattle.model.specs.Delays.{spacings}
use Rattle.lemmas.proofs.Tests.{Cmp, less, same, more, cmp}
use Rattle.lemmas.proofs.Range.{Each, sum_n-le, sum_n-add, sum_n-mul}
use Rattle.theory.proofs.Rounds.{spacings_some, spacings_mono}
use Rattle.theory.proofs.Levels.{spacings_cover}

-- the share of a source that is taken as flow
abbrev pub flowing : (ℕ → Bool) → (ℕ → ℕ) → ℕ → ℕ
flowing A share u = cond (A u) (share u) 0

-- what a source that is not brings in a stretch of D
abbrev pub counting : (ℕ → Bool) → (ℕ → ℕ) → (ℕ → ℕ) → ℕ → ℕ → ℕ
counting A w gap D u = cond (A u) 0 (w u * spacings D (gap u))

-- a level of n sources from a on, with the load w(u), the spacing gap(u) and at most the share w(u) / gap(u) in parts of K
module _ (w gap share : ℕ → ℕ) (a n K : ℕ) (g : Each (λ u. 1 ≤ gap u) a n) (s : Each (λ u. share u * gap u ≤ w u * K) a n) where
  -- a count never falls, and covers its stretch
  flow_part : (A : ℕ → Bool) (D L : ℕ) → D ≤ L → (u : ℕ) → a ≤ u → u < a + n → K * counting A w gap D u + L * flowing A share u ≤ K * (w u * spacings L (gap u))
  flow_part A D L h u p q = go (A u)
    where
      go : (b : Bool) → K * cond b 0 (w u * spacings D (gap u)) + L * cond b (share u) 0 ≤ K * (w u * spacings L (gap u))
      go true =
          let c : ℕ = spacings L (gap u) in
          let x : L * share u ≤ c * gap u * share u = mul-le-mul_right (share u) (spacings_cover L (gap u) (g u p q)) in
          let y : c * (share u * gap u) ≤ c * (w u * K) = mul-le-mul_left c (s u p q) in
          omega arith
      go false =
          omega
          (arith, mul-le-mul_left K (mul-le-mul_left (w u) (spacings_mono D L (gap u) (g u p q) h)))

  -- so with B what the sources outside A bring in D, and q the shares of A: K × B + q × L ≤ K × L
  pub flow_below : (A : ℕ → Bool) (S D L : ℕ) → D ≤ L → S + sum_n (λ u. w u * spacings L (gap u)) a n ≡ L → K * (S + sum_n (counting A w gap D) a n) + sum_n (flowing A share) a n * L ≤ K * L
  flow_below A S D L h e =
      let f : ℕ → ℕ = λ u. w u * spacings L (gap u) in
      let x : ℕ → ℕ = counting A w gap D in
      let y : ℕ → ℕ = flowing A share in
      omega (
        arith,
        sum_n-le (λ u. K * x u + L * y u) (λ u. K * f u) a n (flow_part A D L h),
        sum_n-add (λ u. K * x u) (λ u. L * y u) a n,
        sum_n-mul K x a n,
        sum_n-mul L y a n,
        sum_n-mul K f a n,
        ap (λ z. K * z) e,
      )

  -- a level whose shares sum to more than K, loaded by more than one tick for each tick, has no fixed point
  pub overloaded_none : K < sum_n share a n → (S L : ℕ) → S + sum_n (λ u. w u * spacings L (gap u)) a n ≡ L → ⊥
  overloaded_none h S L e = go (cmp L 0)
    where
      f : ℕ → ℕ
      f u = w u * spacings L (gap u)

      one_of : (u : ℕ) → a ≤ u → u < a + n → share u ≤ K * f u
      one_of u p q =
          omega
          (arith, mul-le-mul_left (share u) (g u p q), s u p q, mul-le-mul_left (w u * K) (spacings_some L (gap u)))

      go : Cmp L 0 → ⊥
      go (less r) = omega arith
      go (same r) =
          let z : sum_n f a n ≡ 0 = omega arith in
          omega (arith, sum_n-le share (λ u. K * f u) a n one_of, sum_n-mul K f a n, ap (λ x. K * x) z)
      go (more r) =
          let x : K * (S + sum_n (counting (λ u. true) w gap L) a n) + sum_n share a n * L ≤ K * L = flow_below (λ u. true) S L L (omega arith) e in
          omega (arith, mul-le-mul_right L h)

-- with q below K, L is at least K × B / (K - q), rounded up
pub flow_bound : (K B q L : ℕ) → q < K → K * B + q * L ≤ K * L → (K * B + (K - q - 1)) / (K - q) ≤ L
flow_bound K B q L h e =
    let r : ℕ = K - q in
    let z : K ≡ q + r = omega arith in
    let k : K * L ≡ (q + r) * L = ap (λ x. x * L) z in
    omega (arith, (div-lt_iff_lt-mul {k = r} {x = K * B + (r - 1)} {y = suc L} (omega arith)).1 (omega arith))

-- with q at least K, and above it or B not 0, there is no L above 0
pub flow_none : (K B q L : ℕ) → K ≤ q → K < q + B → 1 ≤ K → 1 ≤ L → K * B + q * L ≤ K * L → ⊥
flow_none K B q L h m k l e =
    let r : ℕ = q - K in
    let z : q ≡ K + r = omega arith in
    let x : q * L ≡ (K + r) * L = ap (λ y. y * L) z in
    let b : B ≤ K * B = omega (arith, mul-le-mul_right B k) in
    let c : r ≤ r * L = omega (arith, mul-le-mul_left r l) in
    omega arith

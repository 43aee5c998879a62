-- Laws of the sums, largest values, tests and repeated steps over a range. Assumes nothing.
use Prim.Native.Nat.{ℕ, zero, suc, ◌+◌, ◌-◌, ◌*◌, ◌≤◌, ◌<◌, max}
use mathlib.Core.Path.{◌≡◌, refl, sym, ap, ◌∙◌}
use mathlib.Core.Bool.{Bool, true, false, ◌||◌, ◌&&◌}
use native.Mathlib.Omega.{arith}
use native.Mathlib.Nat.{zero-add, add-zero, add-suc, add_assoc}
use native.Mathlib.Numerals.{add-one}
use Rattle.model.specs.Basics.{sum_n, top_n, sum_to, top_to, any_n, all_n, given, up_to}
use Rattle.lemmas.proofs.Tests.{Cmp, less, same, more, cmp, not_both, false_of, or_left, or_right, and_left, and_right, both}

-- a fact at each of the n numbers from a on; at each number from a to b
abbrev pub Each : (ℕ → Type 0) → ℕ → ℕ → Type 0
Each P a n = (k : ℕ) → a ≤ k → k < a + n → P k

abbrev pub All : (ℕ → Type 0) → ℕ → ℕ → Type 0
All P a b = (k : ℕ) → a ≤ k → k ≤ b → P k

-- a number of a range is its last or an earlier one
pub last_or : (P : ℕ → Type 0) (a n k : ℕ) → k < a + suc n → P (a + n) → (k < a + n → P k) → P k
last_or P a n k p x y = go (cmp k (a + n))
  where
    go : Cmp k (a + n) → P k
    go (less r) = y r
    go (same r) = rw r x
    go (more r) = absurd (omega arith)

-- sums
pub sum_n-le : (f g : ℕ → ℕ) (a n : ℕ) → Each (λ k. f k ≤ g k) a n → sum_n f a n ≤ sum_n g a n
unfolding sum_n
sum_n-le f g a zero h = omega arith
sum_n-le f g a (suc n) h =
    omega (arith, h (a + n) (omega arith) (omega arith), sum_n-le f g a n (λ k p q. h k p (omega arith)))

-- a sum is below another one if one of its terms is and none is above
pub sum_n-lt : (f g : ℕ → ℕ) (a n k : ℕ) → Each (λ u. f u ≤ g u) a n → a ≤ k → k < a + n → f k < g k → sum_n f a n < sum_n g a n
unfolding sum_n
sum_n-lt f g a zero k h p q l = absurd (omega arith)
sum_n-lt f g a (suc n) k h p q l = go (cmp k (a + n)) (sum_n-lt f g a n k below p)
  where
    below : Each (λ u. f u ≤ g u) a n
    below u x y = h u x (omega arith)

    go : Cmp k (a + n) → (k < a + n → f k < g k → sum_n f a n < sum_n g a n) → sum_n f a (suc n) < sum_n g a (suc n)
    go (less c) ih = omega (arith, ih c l, h (a + n) (omega arith) (omega arith))
    go (same c) ih = omega (arith, rw c at l, sum_n-le f g a n below)
    go (more c) ih = absurd (omega arith)

pub sum_n-cong : (f g : ℕ → ℕ) (a n : ℕ) → Each (λ k. f k ≡ g k) a n → sum_n f a n ≡ sum_n g a n
sum_n-cong f g a n h =
    omega (arith, sum_n-le f g a n (λ k p q. omega (arith, h k p q)), sum_n-le g f a n (λ k p q. omega (arith, h k p q)))

pub sum_n-add : (f g : ℕ → ℕ) (a n : ℕ) → sum_n (λ k. f k + g k) a n ≡ sum_n f a n + sum_n g a n
unfolding sum_n
sum_n-add f g a zero = refl
sum_n-add f g a (suc n) = omega (arith, sum_n-add f g a n)

pub sum_n-mul : (c : ℕ) (f : ℕ → ℕ) (a n : ℕ) → sum_n (λ k. c * f k) a n ≡ c * sum_n f a n
unfolding sum_n
sum_n-mul c f a zero = omega arith
sum_n-mul c f a (suc n) = omega (arith, sum_n-mul c f a n)

pub sum_n-zero : (f : ℕ → ℕ) (a n : ℕ) → Each (λ k. f k ≡ 0) a n → sum_n f a n ≡ 0
unfolding sum_n
sum_n-zero f a zero h = refl
sum_n-zero f a (suc n) h =
    omega (arith, h (a + n) (omega arith) (omega arith), sum_n-zero f a n (λ k p q. h k p (omega arith)))

pub le_sum_n : (f : ℕ → ℕ) (a n k : ℕ) → a ≤ k → k < a + n → f k ≤ sum_n f a n
unfolding sum_n
le_sum_n f a zero k p q = absurd (omega arith)
le_sum_n f a (suc n) k p q =
    last_or (λ i. f i ≤ sum_n f a n + f (a + n)) a n k q (omega arith) (λ r. omega (arith, le_sum_n f a n k p r))

pub sum_n-split : (f : ℕ → ℕ) (a n m : ℕ) → sum_n f a (n + m) ≡ sum_n f a n + sum_n f (a + n) m
unfolding sum_n
sum_n-split f a n zero = rw add-zero (omega arith)
sum_n-split f a n (suc m) = rw (add-suc n m, sum_n, sum_n-split f a n m, add_assoc a n m) (omega arith)

-- two sums of the same terms are equal if what only one of them has is 0
pub sum_n-spare : (f : ℕ → ℕ) (a n m : ℕ) → ((k : ℕ) → a + n ≤ k → f k ≡ 0) → ((k : ℕ) → a + m ≤ k → f k ≡ 0) → sum_n f a n ≡ sum_n f a m
sum_n-spare f a n m p q = go (cmp n m)
  where
    longer : (x y : ℕ) → x ≤ y → ((k : ℕ) → a + x ≤ k → f k ≡ 0) → sum_n f a y ≡ sum_n f a x
    longer x y h z =
        let e : y ≡ x + (y - x) = omega arith in
        ap (sum_n f a) e ∙ omega (arith, sum_n-split f a x (y - x), sum_n-zero f (a + x) (y - x) (λ k u v. z k u))

    go : Cmp n m → sum_n f a n ≡ sum_n f a m
    go (less r) = sym (longer n m (omega arith) p)
    go (same r) = ap (sum_n f a) r
    go (more r) = longer m n (omega arith) q

sum_n-one : (f : ℕ → ℕ) (a : ℕ) → sum_n f a 1 ≡ f a
unfolding sum_n
sum_n-one f a = rw add-zero (omega arith)

-- the first term apart
pub sum_n-first : (f : ℕ → ℕ) (a n : ℕ) → sum_n f a (suc n) ≡ f a + sum_n f (suc a) n
sum_n-first f a n =
    let e : suc n ≡ 1 + n = omega arith in
    let e1 : a + 1 ≡ suc a = omega arith in
    rw (e, sum_n-split f a 1 n, sum_n-one f a, e1)

pub sum_to-le : (f g : ℕ → ℕ) (a b : ℕ) → All (λ k. f k ≤ g k) a b → sum_to f a b ≤ sum_to g a b
sum_to-le f g a b h = sum_n-le f g a (suc b - a) (λ k p q. h k p (omega arith))

pub sum_to-cong : (f g : ℕ → ℕ) (a b : ℕ) → All (λ k. f k ≡ g k) a b → sum_to f a b ≡ sum_to g a b
sum_to-cong f g a b h = sum_n-cong f g a (suc b - a) (λ k p q. h k p (omega arith))

pub sum_to-add : (f g : ℕ → ℕ) (a b : ℕ) → sum_to (λ k. f k + g k) a b ≡ sum_to f a b + sum_to g a b
sum_to-add f g a b = sum_n-add f g a (suc b - a)

pub sum_to-zero : (f : ℕ → ℕ) (a b : ℕ) → All (λ k. f k ≡ 0) a b → sum_to f a b ≡ 0
sum_to-zero f a b h = sum_n-zero f a (suc b - a) (λ k p q. h k p (omega arith))

pub le_sum_to : (f : ℕ → ℕ) (a b k : ℕ) → a ≤ k → k ≤ b → f k ≤ sum_to f a b
le_sum_to f a b k p q = le_sum_n f a (suc b - a) k p (omega arith)

-- cut at h: below it, h, above it
pub sum_to-cut : (f : ℕ → ℕ) (a h b : ℕ) → a ≤ h → h ≤ b → sum_to f a b ≡ sum_n f a (h - a) + f h + sum_to f (suc h) b
sum_to-cut f a h b p q =
    let e1 : suc b - a ≡ h - a + suc (b - h) = omega arith in
    let e2 : suc b - suc h ≡ b - h = omega arith in
    let e3 : a + (h - a) ≡ h = omega arith in
    rw (e1, e2, sum_n-split f a (h - a) (suc (b - h)), e3, sum_n-first f h (b - h)) (omega arith)

-- two sums compared by their parts below h, at h and above it
pub sum_to-parts : (f g : ℕ → ℕ) (a h b x y z : ℕ) → a ≤ h → h ≤ b → ((k : ℕ) → a ≤ k → k < h → f k ≤ g k) → f h + x ≤ g h + y → sum_to f (suc h) b ≤ sum_to g (suc h) b + z → sum_to f a b + x ≤ sum_to g a b + (y + z)
sum_to-parts f g a h b x y z p q lo mid hi =
    omega
    (arith, sum_to-cut f a h b p q, sum_to-cut g a h b p q, sum_n-le f g a (h - a) (λ k s t. lo k s (omega arith)))

-- largest values
pub le_top_n : (f : ℕ → ℕ) (a n k : ℕ) → a ≤ k → k < a + n → f k ≤ top_n f a n
unfolding top_n
le_top_n f a zero k p q = absurd (omega arith)
le_top_n f a (suc n) k p q =
    last_or (λ i. f i ≤ max (top_n f a n) (f (a + n))) a n k q (omega arith) (λ r. omega (arith, le_top_n f a n k p r))

pub top_n-le : (f : ℕ → ℕ) (a n b : ℕ) → Each (λ k. f k ≤ b) a n → top_n f a n ≤ b
unfolding top_n
top_n-le f a zero b h = omega arith
top_n-le f a (suc n) b h =
    omega (arith, h (a + n) (omega arith) (omega arith), top_n-le f a n b (λ k p q. h k p (omega arith)))

pub le_top_to : (f : ℕ → ℕ) (a b k : ℕ) → a ≤ k → k ≤ b → f k ≤ top_to f a b
le_top_to f a b k p q = le_top_n f a (suc b - a) k p (omega arith)

pub top_to-le : (f : ℕ → ℕ) (a b c : ℕ) → All (λ k. f k ≤ c) a b → top_to f a b ≤ c
top_to-le f a b c h = top_n-le f a (suc b - a) c (λ k p q. h k p (omega arith))

pub top_to-mono : (f g : ℕ → ℕ) (a b : ℕ) → All (λ k. f k ≤ g k) a b → top_to f a b ≤ top_to g a b
top_to-mono f g a b h = top_to-le f a b (top_to g a b) (λ k p q. omega (arith, h k p q, le_top_to g a b k p q))

pub top_to-cong : (f g : ℕ → ℕ) (a b : ℕ) → All (λ k. f k ≡ g k) a b → top_to f a b ≡ top_to g a b
top_to-cong f g a b h =
    omega (arith, top_to-mono f g a b (λ k p q. omega (arith, h k p q)), top_to-mono g f a b (λ k p q. omega (arith, h k p q)))

-- a value that a test lets through
pub given_le : (b : Bool) (x y : ℕ) → (b ≡ true → x ≤ y) → given b x ≤ y
given_le true x y h = h refl
given_le false x y h = omega arith

pub le_given : (b : Bool) (x : ℕ) → b ≡ true → x ≤ given b x
le_given true x e = omega arith
le_given false x e = absurd (not_both e refl)

pub given_cong : (b : Bool) (x y : ℕ) → (b ≡ true → x ≡ y) → given b x ≡ given b y
given_cong true x y h = h refl
given_cong false x y h = refl

pub given_off : (b : Bool) (x : ℕ) → b ≡ false → given b x ≡ 0
given_off b x e = rw e

-- a test that passes at no two numbers is counted once at most
pub at_most_one : (p : ℕ → Bool) (a n : ℕ) → ((k k' : ℕ) → a ≤ k → k < a + n → a ≤ k' → k' < a + n → p k ≡ true → p k' ≡ true → k ≡ k') → sum_n (λ k. given (p k) 1) a n ≤ 1
unfolding sum_n
at_most_one p a zero h = omega arith
at_most_one p a (suc n) h =
    go (p (a + n)) refl (at_most_one p a n (λ k k' b c b' c' e e'. h k k' b (omega arith) b' (omega arith) e e'))
  where
    go : (b : Bool) → p (a + n) ≡ b → sum_n (λ k. given (p k) 1) a n ≤ 1 → sum_n (λ k. given (p k) 1) a (suc n) ≤ 1
    go false e fewer = rw (e, sum_n) (omega arith)
    go true e fewer =
        let none : sum_n (λ k. given (p k) 1) a n ≡ 0 = sum_n-zero (λ k. given (p k) 1) a n (λ k b c. given_off (p k) 1 (false_of (p k) (λ f. omega (arith, h k (a + n) b (omega arith) (omega arith) (omega arith) f e)))) in
        rw (e, sum_n) (omega arith)

-- and a test that is counted once at most passes at no two
pub one_only : (p : ℕ → Bool) (a n : ℕ) → sum_n (λ k. given (p k) 1) a n ≤ 1 → (k k' : ℕ) → a ≤ k → k < a + n → a ≤ k' → k' < a + n → p k ≡ true → p k' ≡ true → k ≡ k'
unfolding sum_n
one_only p a zero h k k' b c b' c' e e' = absurd (omega arith)
one_only p a (suc n) h k k' b c b' c' e e' = go (cmp k (a + n)) (cmp k' (a + n)) (λ x y. one_only p a n (omega (arith, h)) k k' b x b' y e e')
  where
    one : (i : ℕ) → p i ≡ true → given (p i) 1 ≡ 1
    one i q = rw q refl

    -- one before the last, and the last
    two : (i : ℕ) → a ≤ i → i < a + n → p i ≡ true → p (a + n) ≡ true → ⊥
    two i x y q r = omega (arith, h, le_sum_n (λ j. given (p j) 1) a n i x y, one i q, one (a + n) r)

    go : Cmp k (a + n) → Cmp k' (a + n) → (k < a + n → k' < a + n → k ≡ k') → k ≡ k'
    go (less x) (less y) ih = ih x y
    go (less x) (same y) ih = absurd (two k b x e (rw y at e'))
    go (same x) (less y) ih = absurd (two k' b' y e' (rw x at e))
    go (same x) (same y) ih = omega arith
    go (more x) y ih = absurd (omega arith)
    go (less x) (more y) ih = absurd (omega arith)
    go (same x) (more y) ih = absurd (omega arith)

-- tests over a range
pub any_at : (p : ℕ → Bool) (a n k : ℕ) → a ≤ k → k < a + n → p k ≡ true → any_n p a n ≡ true
unfolding any_n
any_at p a zero k q r e = absurd (omega arith)
any_at p a (suc n) k q r e =
    last_or
    (λ i. p i ≡ true → (any_n p a n || p (a + n)) ≡ true)
    a
    n
    k
    r
    (λ x. or_right (any_n p a n) _ x)
    (λ s x. or_left (any_n p a n) _ (any_at p a n k q s x))
    e

-- where the test passes
pub record Found (p : ℕ → Bool) (a n : ℕ) : Type 0 where
  pub at : ℕ
  pub from : a ≤ at
  pub within : at < a + n
  pub passes : p at ≡ true

pub any_found : (p : ℕ → Bool) (a n : ℕ) → any_n p a n ≡ true → Found p a n
unfolding any_n
any_found p a zero e = absurd (not_both e refl)
any_found p a (suc n) e = go (any_n p a n) refl (any_found p a n)
  where
    go : (b : Bool) → any_n p a n ≡ b → (any_n p a n ≡ true → Found p a n) → Found p a (suc n)
    go true q ih =
        let f : Found p a n = ih q in
        record { at = f.at; from = f.from; within = omega (arith, f.within); passes = f.passes }
    go false q ih =
        record {
          at = a + n;
          from = omega arith;
          within = omega arith;
          passes = rw q at e;
        }

pub any_none : (p : ℕ → Bool) (a n : ℕ) → Each (λ k. p k ≡ false) a n → any_n p a n ≡ false
any_none p a n h =
    false_of (any_n p a n) (λ e. let f : Found p a n = any_found p a n e in not_both f.passes (h f.at f.from f.within))

pub none_any : (p : ℕ → Bool) (a n : ℕ) → any_n p a n ≡ false → Each (λ k. p k ≡ false) a n
none_any p a n e k q r = false_of (p k) (λ x. not_both (any_at p a n k q r x) e)

pub any_cong : (p q : ℕ → Bool) (a n : ℕ) → Each (λ k. p k ≡ q k) a n → any_n p a n ≡ any_n q a n
unfolding any_n
any_cong p q a zero h = refl
any_cong p q a (suc n) h =
    rw (any_cong p q a n (λ k s t. h k s (omega arith)), h (a + n) (omega arith) (omega arith))

pub all_at : (p : ℕ → Bool) (a n : ℕ) → all_n p a n ≡ true → Each (λ k. p k ≡ true) a n
unfolding all_n
all_at p a zero e k q r = absurd (omega arith)
all_at p a (suc n) e k q r =
    last_or
    (λ i. p i ≡ true)
    a
    n
    k
    r
    (and_right (all_n p a n) _ e)
    (λ s. all_at p a n (and_left (all_n p a n) _ e) k q s)

pub all_of : (p : ℕ → Bool) (a n : ℕ) → Each (λ k. p k ≡ true) a n → all_n p a n ≡ true
unfolding all_n
all_of p a zero h = refl
all_of p a (suc n) h =
    both (all_n p a n) _ (all_of p a n (λ k q r. h k q (omega arith))) (h (a + n) (omega arith) (omega arith))

-- one more step, as a loop that counts up makes it
pub sum_n-more : (f : ℕ → ℕ) (a k : ℕ) → a ≤ k → sum_n f a (k + 1 - a) ≡ sum_n f a (k - a) + f k
unfolding sum_n
sum_n-more f a k h =
    let e : k + 1 - a ≡ suc (k - a) = omega arith in
    let e2 : a + (k - a) ≡ k = omega arith in
    rw e (ap (λ x. sum_n f a (k - a) + f x) e2)

pub top_n-more : (f : ℕ → ℕ) (a k : ℕ) → a ≤ k → top_n f a (k + 1 - a) ≡ max (top_n f a (k - a)) (f k)
unfolding top_n
top_n-more f a k h =
    let e : k + 1 - a ≡ suc (k - a) = omega arith in
    let e2 : a + (k - a) ≡ k = omega arith in
    rw e (ap (λ x. max (top_n f a (k - a)) (f x)) e2)

pub any_more : (p : ℕ → Bool) (n : ℕ) → any_n p 0 (n + 1) ≡ (any_n p 0 n || p n)
unfolding any_n
any_more p n = rw (add-one, any_n, zero-add)

pub all_more : (p : ℕ → Bool) (n : ℕ) → all_n p 0 (n + 1) ≡ (all_n p 0 n && p n)
unfolding all_n
all_more p n = rw (add-one, all_n, zero-add)

pub up_to-more : {A : Type 0} (n : ℕ) (step : ℕ → A → A) (a : A) → up_to (n + 1) step a ≡ step n (up_to n step a)
unfolding up_to
up_to-more n step a = rw add-one refl

pub top_more : (f : ℕ → ℕ) (n : ℕ) → top_n f 0 (n + 1) ≡ max (top_n f 0 n) (f n)
unfolding top_n
top_more f n = rw (add-one, top_n, zero-add)

-- steps that do the same in every state come to the same
pub up_to-alike : {A : Type 0} (n : ℕ) (f g : ℕ → A → A) (a : A) → ((k : ℕ) → k < n → (x : A) → f k x ≡ g k x) → up_to n f a ≡ up_to n g a
unfolding up_to
up_to-alike zero f g a h = refl
up_to-alike (suc n) f g a h = ap (f n) (up_to-alike n f g a (λ k p. h k (omega arith))) ∙ h n (omega arith) (up_to n g a)

pub all_cong : (p q : ℕ → Bool) (a n : ℕ) → Each (λ k. p k ≡ q k) a n → all_n p a n ≡ all_n q a n
unfolding all_n
all_cong p q a zero h = refl
all_cong p q a (suc n) h =
    rw (all_cong p q a n (λ k s t. h k s (omega arith)), h (a + n) (omega arith) (omega arith))

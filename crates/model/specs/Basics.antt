-- Ranges: sums, largest values, tests, repeated steps and tables over a range of numbers. Nothing here is about firmware.
use Rattle.std.specs.Prelude.{ℕ, zero, suc, ◌+◌, ◌-◌, max, Bool, true, false, ◌&&◌, ◌||◌, not, List, [], ◌∷◌, ◌++◌}

-- f a + f (a + 1) + .. , n terms
unfoldable pub sum_n : (ℕ → ℕ) → ℕ → ℕ → ℕ
sum_n f a zero = 0
sum_n f a (suc n) = sum_n f a n + f (a + n)

-- the largest of f a, f (a + 1), .. , n terms; 0 for none
unfoldable pub top_n : (ℕ → ℕ) → ℕ → ℕ → ℕ
top_n f a zero = 0
top_n f a (suc n) = max (top_n f a n) (f (a + n))

-- the same over the numbers k with a ≤ k and k ≤ b
abbrev pub sum_to : (ℕ → ℕ) → ℕ → ℕ → ℕ
sum_to f a b = sum_n f a (suc b - a)

abbrev pub top_to : (ℕ → ℕ) → ℕ → ℕ → ℕ
top_to f a b = top_n f a (suc b - a)

-- whether the test passes at one of a, a + 1, .. , n numbers
unfoldable pub any_n : (ℕ → Bool) → ℕ → ℕ → Bool
any_n p a zero = false
any_n p a (suc n) = any_n p a n || p (a + n)

-- whether it passes at all of them
unfoldable pub all_n : (ℕ → Bool) → ℕ → ℕ → Bool
all_n p a zero = true
all_n p a (suc n) = all_n p a n && p (a + n)

-- whether no mark of a list is set
unfoldable pub unset : List Bool → Bool
unset [] = true
unset (b ∷ bs) = not b && unset bs

-- a value where a test passes, 0 where it fails
abbrev pub given : Bool → ℕ → ℕ
given true x = x
given false x = 0

-- the steps 0, 1, .. , n - 1 in rising number
unfoldable pub up_to : {A : Type 0} → ℕ → (ℕ → A → A) → A → A
up_to zero step a = a
up_to (suc n) step a = step n (up_to n step a)

-- the list f 0, f 1, .. , f (n - 1)
unfoldable pub tab : {A : Type 0} → ℕ → (ℕ → A) → List A
tab zero f = []
tab (suc n) f = tab n f ++ (f n ∷ [])

-- the lists f 0, f 1, .. , f (n - 1) joined
unfoldable pub joined : {A : Type 0} → ℕ → (ℕ → List A) → List A
joined zero f = []
joined (suc n) f = joined n f ++ f n

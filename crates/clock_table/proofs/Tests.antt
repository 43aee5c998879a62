-- Two tests of a whole list, and what each says of every entry. Assumes nothing.
use mathlib.Core.Path.{◌≡◌, ap, ◌∙◌}
use mathlib.Core.Bool.{Bool, true, ◌&&◌}
use mathlib.Core.List.{List, ◌∷◌, []}
use Prim.Native.Nat.{ℕ, zero, suc, ◌+◌, ◌-◌, ◌≤◌, ◌<◌}
use native.Mathlib.Omega.{arith}
use lib.Dec.{eqb, leb}
use lib.ListN.{get_or, length}
use borrow.Author.Tests.{eqb-true, leb-true}
use Rattle.lemmas.proofs.Tests.{and_left, and_right}

-- each entry is the rule's, the first at n
unfoldable pub agrees : (ℕ → ℕ) → ℕ → List ℕ → Bool
agrees f n [] = true
agrees f n (x ∷ xs) = eqb x (f n) && agrees f (suc n) xs

agrees_on : (f : ℕ → ℕ) (n : ℕ) (xs : List ℕ) (i : ℕ) → agrees f n xs ≡ true → i < length xs → get_or xs i 0 ≡ f (n + i)
unfolding agrees
agrees_on f n [] i e l = absurd (omega (arith, l))
agrees_on f n (x ∷ xs) zero e l = eqb-true x (f n) (and_left _ (agrees f (suc n) xs) e) ∙ ap f (omega arith)
agrees_on f n (x ∷ xs) (suc i) e l = agrees_on f (suc n) xs i (and_right (eqb x (f n)) (agrees f (suc n) xs) e) (omega (arith, l)) ∙ ap f (omega arith)

pub agrees_at : (f : ℕ → ℕ) (n : ℕ) (xs : List ℕ) (t : ℕ) → agrees f n xs ≡ true → n ≤ t → t < n + length xs → get_or xs (t - n) 0 ≡ f t
agrees_at f n xs t e l k = agrees_on f n xs (t - n) e (omega (arith, l, k)) ∙ ap f (omega (arith, l))

-- no entry is above the one before, the first not above a
unfoldable pub falls : ℕ → List ℕ → Bool
falls a [] = true
falls a (x ∷ xs) = leb x a && falls x xs

pub falls_at : (a : ℕ) (xs : List ℕ) (i : ℕ) → falls a xs ≡ true → suc i < length xs → get_or xs (suc i) 0 ≤ get_or xs i 0
unfolding falls
falls_at a [] i e l = absurd (omega (arith, l))
falls_at a (x ∷ []) i e l = absurd (omega (arith, l))
falls_at a (x ∷ y ∷ xs) zero e l = leb-true y x (and_left (leb y x) (falls y xs) (and_right (leb x a) (falls x (y ∷ xs)) e))
falls_at a (x ∷ y ∷ xs) (suc i) e l = falls_at x (y ∷ xs) i (and_right (leb x a) (falls x (y ∷ xs)) e) (omega (arith, l))

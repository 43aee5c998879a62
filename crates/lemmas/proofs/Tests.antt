-- Tests and comparisons: joining and splitting them, and going by cases. Assumes nothing.
use Prim.Native.Nat.{ℕ, ◌≤◌, ◌<◌}
use mathlib.Core.Path.{◌≡◌, refl, sym}
use mathlib.Core.Bool.{Bool, true, false, cond, ◌||◌, ◌&&◌}
use mathlib.Core.Logic.{◌⊎◌, ⊎_elim}
use native.Mathlib.Omega.{arith}
use native.Mathlib.Decide.{dec_lt}
use lib.Dec.{leb, eqb}
use borrow.Author.Tests.{eq-eqb, eqb-true, leb-true}

-- three ways that two numbers can stand
pub data Cmp (a b : ℕ) : Type 0 where
  less : a < b → Cmp a b
  same : a ≡ b → Cmp a b
  more : b < a → Cmp a b

pub cmp : (a b : ℕ) → Cmp a b
cmp a b = go (dec_lt a b) (dec_lt b a)
  where
    go : Dec (a < b) → Dec (b < a) → Cmp a b
    go (yes p) q = less p
    go (no p) (yes q) = more q
    go (no p) (no q) = same (omega arith)

-- at h, or at another number
pub at_or_not : (P : ℕ → Type 0) (h k : ℕ) → P h → ((k ≡ h → ⊥) → P k) → P k
at_or_not P h k x y = go (cmp k h)
  where
    go : Cmp k h → P k
    go (less r) = y (λ e. omega arith)
    go (same r) = rw r x
    go (more r) = y (λ e. omega arith)

-- a test does not come out both ways
pub not_both : {b : Bool} → b ≡ true → b ≡ false → ⊥
not_both p q = let z : ◌≡◌ {A = ℕ} 0 1 = cc in omega arith

pub false_of : (b : Bool) → (b ≡ true → ⊥) → b ≡ false
false_of true h = absurd (h refl)
false_of false h = refl

pub true_of : (b : Bool) → (b ≡ false → ⊥) → b ≡ true
true_of true h = refl
true_of false h = absurd (h refl)

-- two tests that pass together are one
pub same_test : (a b : Bool) → (a ≡ true → b ≡ true) → (b ≡ true → a ≡ true) → a ≡ b
same_test true true f g = refl
same_test true false f g = sym (f refl)
same_test false true f g = g refl
same_test false false f g = refl

pub or_left : (a b : Bool) → a ≡ true → (a || b) ≡ true
or_left true b e = refl
or_left false b e = absurd (not_both e refl)

pub or_right : (a b : Bool) → b ≡ true → (a || b) ≡ true
or_right true b e = refl
or_right false b e = e

pub or_new : (a b : Bool) → a ≡ false → (a || b) ≡ true → b ≡ true
or_new true b e f = absurd (not_both refl e)
or_new false b e f = f

pub or_else : (a b : Bool) → b ≡ false → (a || b) ≡ true → a ≡ true
or_else true b e f = refl
or_else false b e f = absurd (not_both f e)

pub or_false : (a b : Bool) → a ≡ false → b ≡ false → (a || b) ≡ false
or_false true b e f = e
or_false false b e f = f

pub or_false_left : (a b : Bool) → (a || b) ≡ false → a ≡ false
or_false_left true b e = e
or_false_left false b e = refl

pub or_false_right : (a b : Bool) → (a || b) ≡ false → b ≡ false
or_false_right true b e = absurd (not_both refl e)
or_false_right false b e = e

-- one of two that pass together
pub or_cases : {C : Type 0} (a b : Bool) → (a || b) ≡ true → (a ≡ true → C) → (b ≡ true → C) → C
or_cases true b e f g = f refl
or_cases false b e f g = g e

pub and_left : (a b : Bool) → (a && b) ≡ true → a ≡ true
and_left true b e = refl
and_left false b e = e

pub and_right : (a b : Bool) → (a && b) ≡ true → b ≡ true
and_right true b e = e
and_right false b e = absurd (not_both e refl)

-- a number from one limit to another
pub within : (a x b : ℕ) → (leb a x && leb x b) ≡ true → (a ≤ x) × (x ≤ b)
within a x b e = (leb-true a x (and_left (leb a x) (leb x b) e), leb-true x b (and_right (leb a x) (leb x b) e))

-- two choices by the same test, each by what it chooses
pub cond_same : {A : Type 0} (b c : Bool) (x y z w : A) → b ≡ c → (b ≡ true → x ≡ y) → (b ≡ false → z ≡ w) → cond b x z ≡ cond c y w
cond_same true c x y z w e f g = rw (← e) (f refl)
cond_same false c x y z w e f g = rw (← e) (g refl)

pub both : (a b : Bool) → a ≡ true → b ≡ true → (a && b) ≡ true
both true b e f = f
both false b e f = e

pub and_false_left : (a b : Bool) → a ≡ false → (a && b) ≡ false
and_false_left true b e = absurd (not_both refl e)
and_false_left false b e = refl

pub and_false_right : (a b : Bool) → b ≡ false → (a && b) ≡ false
and_false_right true b e = e
and_false_right false b e = refl

-- by cases, the sum first
pub cases : {A B C : Type 0} → A ⊎ B → (A → C) → (B → C) → C
cases s f g = ⊎_elim f g s

pub eqb_sym : (a b : ℕ) → eqb a b ≡ eqb b a
eqb_sym a b =
    same_test (eqb a b) (eqb b a) (λ e. eq-eqb b a (sym (eqb-true a b e))) (λ e. eq-eqb a b (sym (eqb-true b a e)))

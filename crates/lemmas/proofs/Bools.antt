-- Laws of tests as equations: what drops out, what a store under a test leaves, and a test over one number more. Assumes nothing.
use Prim.Native.Nat.{ℕ, suc, ◌+◌}
use mathlib.Core.Path.{◌≡◌, refl, sym, ap, ◌∙◌}
use mathlib.Core.Bool.{Bool, true, false, ◌||◌, ◌&&◌, not, cond}
use native.Mathlib.Nat.{zero-add}
use Rattle.model.specs.Basics.{any_n}
use Rattle.lemmas.proofs.Tests.{and_false_left, and_false_right, Cmp, less, same, more, cmp}
use lib.Dec.{ltb, eqb}
use borrow.Author.Tests.{eq-eqb, ne_eqb, lt-ltb, le-ltb}
use native.Mathlib.Omega.{arith}

pub or_off : (a : Bool) → (a || false) ≡ a
or_off true = refl
or_off false = refl

pub or_on : (a : Bool) → (a || true) ≡ true
or_on true = refl
or_on false = refl

pub or_none : (a b : Bool) → b ≡ false → (a || b) ≡ a
or_none a b e = rw e (or_off a)

-- one more that does not pass, its first or its second part being off
pub or_idle : (a b c : Bool) → b ≡ false → a ≡ (a || (b && c))
or_idle a b c e = sym (or_none a (b && c) (and_false_left b c e))

pub or_idle_right : (a b c : Bool) → c ≡ false → a ≡ (a || (b && c))
or_idle_right a b c e = sym (or_none a (b && c) (and_false_right b c e))

pub or_assoc : (a b c : Bool) → (a || b || c) ≡ (a || (b || c))
or_assoc true b c = refl
or_assoc false b c = refl

pub and_on : (a b : Bool) → b ≡ true → (a && b) ≡ a
and_on true b e = e
and_on false b e = refl

pub and_off : (b : Bool) → (b && false) ≡ false
and_off b = and_false_right b false refl

pub and_swap : (a b : Bool) → (a && b) ≡ (b && a)
and_swap true b = sym (and_on b true refl)
and_swap false b = sym (and_off b)

pub and_not_or : (a b c : Bool) → (a && not b && not c) ≡ (a && not (b || c))
and_not_or true true c = refl
and_not_or true false c = refl
and_not_or false b c = refl

-- set, and cleared, under a test
pub set-true : (b c : Bool) → cond b true c ≡ (c || b)
set-true true c = sym (or_on c)
set-true false c = sym (or_off c)

pub set-false : (b c : Bool) → cond b false c ≡ (c && not b)
set-false true c = sym (and_false_right c false refl)
set-false false c = sym (and_on c true refl)

pub any_suc : (p : ℕ → Bool) (a n : ℕ) → any_n p a (suc n) ≡ (any_n p a n || p (a + n))
unfolding any_n
any_suc p a n = refl

pub any_next : (p : ℕ → Bool) (n : ℕ) → any_n p 0 (suc n) ≡ (any_n p 0 n || p n)
any_next p n = any_suc p 0 n ∙ ap (λ (k : ℕ). any_n p 0 n || p k) (zero-add n)

-- one more number that a test is tried at
pub less_more : (f : ℕ → Bool) (k n : ℕ) → (ltb k (suc n) && f k) ≡ ((ltb k n && f k) || (eqb k n && f n))
less_more f k n = go (cmp k n)
  where
    go : Cmp k n → (ltb k (suc n) && f k) ≡ ((ltb k n && f k) || (eqb k n && f n))
    go (less r) = rw (lt-ltb k n r, lt-ltb k (suc n) (omega arith), ne_eqb k n (λ e. omega arith)) (sym (or_off (f k)))
    go (same r) = rw (le-ltb k n (omega arith), lt-ltb k (suc n) (omega arith), eq-eqb k n r) (ap f r)
    go (more r) = rw (le-ltb k n (omega arith), le-ltb k (suc n) (omega arith), ne_eqb k n (λ e. omega arith)) refl

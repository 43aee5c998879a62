-- What `array::from_fn` makes by a closure that changes nothing it has captured. Assumes nothing.
use Prim.Native.Nat.{ℕ, zero, suc, ◌+◌, ◌≤◌, ◌<◌}
use mathlib.Core.Path.{◌≡◌, refl, sym, subst}
use mathlib.Core.List.{List}
use native.Mathlib.Omega.{arith}
use lib.ListN.{get_or}
use denote.Param.Members.{Mut, Called}
use Rattle.std.specs.Array.{IsFromFnResultFrom, IsFromFnResult, MapsFrom, IsMapOf}
use Rattle.lemmas.proofs.Tests.{Cmp, less, same, more, cmp}

module _ {F B : Type 0} (g : Mut F (ℕ × Unit {0}) B) (N : ℕ) (Q : ℕ → B → Type 0) (f : F) (h : (i : ℕ) (y : B) (q : F) → i < N → Called g f (i, tt) y q → Q i y × (q ≡ f)) where
  made : (ys : List B) (n i : ℕ) (p : F) → p ≡ f → i + n ≡ N → IsFromFnResultFrom g p ys i n → (k : ℕ) → i ≤ k → k < N → (d : B) → Q k (get_or ys k d)
  made ys zero i p e s r k a b d = absurd (omega arith)
  made ys (suc n) i p e s r k a b d = go (cmp i k) (λ q v. made ys n (i + 1) r.0 q (omega arith) r.4 k v b d)
    where
      one : Q i r.1 × (r.0 ≡ f)
      one = h i r.1 r.0 (omega arith) (subst (λ x. Called g x (i, tt) r.1 r.0) e r.3)

      go : Cmp i k → (r.0 ≡ f → i + 1 ≤ k → Q k (get_or ys k d)) → Q k (get_or ys k d)
      go (less l) later = later one.1 (omega arith)
      go (same l) later = subst (λ j. Q j (get_or ys j d)) l (subst (Q i) (sym (r.2.1 d)) one.0)
      go (more l) later = absurd (omega arith)

  pub made_all : (ys : List B) → IsFromFnResult g f ys N → (k : ℕ) (d : B) → k < N → Q k (get_or ys k d)
  made_all ys r k d b = made ys N 0 f refl (omega arith) r.each k (omega arith) b d

-- and what an array's `map` makes by one
module _ {F A B : Type 0} (g : Mut F (A × Unit {0}) B) (N : ℕ) (R : A → B → Type 0) (f : F) (h : (x : A) (y : B) (q : F) → Called g f (x, tt) y q → R x y × (q ≡ f)) where
  mapped : (xs : List A) (ys : List B) (n i : ℕ) (p : F) → p ≡ f → i + n ≡ N → MapsFrom g p xs ys i n → (k : ℕ) → i ≤ k → k < N → (d : A) (e : B) → R (get_or xs k d) (get_or ys k e)
  mapped xs ys zero i p e s r k a b c d = absurd (omega arith)
  mapped xs ys (suc n) i p e s r k a b c d = go (cmp i k) (λ q v. mapped xs ys n (i + 1) r.0 q (omega arith) r.6 k v b c d)
    where
      one : R r.1 r.2 × (r.0 ≡ f)
      one = h r.1 r.2 r.0 (subst (λ x. Called g x (r.1, tt) r.2 r.0) e r.5)

      go : Cmp i k → (r.0 ≡ f → i + 1 ≤ k → R (get_or xs k c) (get_or ys k d)) → R (get_or xs k c) (get_or ys k d)
      go (less l) later = later one.1 (omega arith)
      go (same l) later = subst (λ j. R (get_or xs j c) (get_or ys j d)) l (subst (λ x. R x (get_or ys i d)) (sym (r.3.1 c)) (subst (R r.1) (sym (r.4.1 d)) one.0))
      go (more l) later = absurd (omega arith)

  pub mapped_all : (xs : List A) (ys : List B) → IsMapOf g f xs ys N → (k : ℕ) (d : A) (e : B) → k < N → R (get_or xs k d) (get_or ys k e)
  mapped_all xs ys r k d e b = mapped xs ys N 0 f refl (omega arith) r.each k (omega arith) b d e

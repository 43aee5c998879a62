-- The pigeonhole: n + 1 values below n have two that are equal. Assumes nothing.
use Prim.Native.Nat.{ℕ, zero, suc, ◌≤◌, ◌<◌}
use mathlib.Core.Path.{◌≡◌, refl, sym, ◌∙◌}
use mathlib.Core.Bool.{Bool, true, false, cond}
use mathlib.Core.Logic.{◌⊎◌, inl, inr}
use native.Mathlib.Omega.{arith}
use lib.Dec.{eqb}
use borrow.Author.Tests.{eqb-true, eqb-false}
use Rattle.lemmas.proofs.Tests.{Cmp, less, same, more, cmp}

-- one of the first l values equals v, or none does
abbrev Some : (ℕ → ℕ) → ℕ → ℕ → Type 0
Some p v l = (s : ℕ) × (s < l) × (p s ≡ v)

abbrev None : (ℕ → ℕ) → ℕ → ℕ → Type 0
None p v l = (s : ℕ) → s < l → p s ≡ v → ⊥

search_value : (p : ℕ → ℕ) (v l : ℕ) → Some p v l ⊎ None p v l
search_value p v zero = inr (λ s q e. omega arith)
search_value p v (suc l) = go (cmp (p l) v) (search_value p v l)
  where
    here : (p l ≡ v → ⊥) → Some p v l ⊎ None p v l → Some p v (suc l) ⊎ None p v (suc l)
    here ne (inl f) = inl (f.0, omega (arith, f.1), f.2)
    here ne (inr g) = inr (λ s q e. by s e (cmp s l) q)
      where
        by : (s : ℕ) → p s ≡ v → Cmp s l → s < suc l → ⊥
        by s e (less r) q = g s r e
        by s e (same r) q = ne (rw r at e)
        by s e (more r) q = omega arith

    go : Cmp (p l) v → Some p v l ⊎ None p v l → Some p v (suc l) ⊎ None p v (suc l)
    go (less r) f = here (λ e. omega arith) f
    go (same r) f = inl (l, omega arith, r)
    go (more r) f = here (λ e. omega arith) f

-- two places up to l with the same value
pub record Twice (p : ℕ → ℕ) (l : ℕ) : Type 0 where
  pub earlier : ℕ
  pub later : ℕ
  pub order : earlier < later
  pub last : later ≤ l
  pub equal : p earlier ≡ p later

pub pigeonhole : (n : ℕ) (p : ℕ → ℕ) → ((t : ℕ) → t ≤ n → p t < n) → Twice p n
pigeonhole zero p h = absurd (omega (arith, h 0 (omega arith)))
pigeonhole (suc m) p h = go (search_value p (p (suc m)) (suc m)) (λ f. pigeonhole m swapped (low f))
  where
    -- the last value stands in for m
    swapped : ℕ → ℕ
    swapped t = cond (eqb (p t) m) (p (suc m)) (p t)

    low : None p (p (suc m)) (suc m) → (t : ℕ) → t ≤ m → swapped t < m
    low f t q = by (eqb (p t) m) refl
      where
        by : (b : Bool) → eqb (p t) m ≡ b → swapped t < m
        by true e = rw e (omega (arith, eqb-true (p t) m e, h (suc m) (omega arith), f t (omega arith)))
        by false e = rw e (omega (arith, eqb-false (p t) m e, h t (omega arith)))

    back : None p (p (suc m)) (suc m) → Twice swapped m → Twice p (suc m)
    back f w =
        record {
          earlier = w.earlier;
          later = w.later;
          order = w.order;
          last = omega (arith, w.last);
          equal = by (eqb (p w.earlier) m) refl (eqb (p w.later) m) refl w.equal;
        }
      where
        by : (b : Bool) → eqb (p w.earlier) m ≡ b → (c : Bool) → eqb (p w.later) m ≡ c → swapped w.earlier ≡ swapped w.later → p w.earlier ≡ p w.later
        by true x true y e = eqb-true _ _ x ∙ sym (eqb-true _ _ y)
        by true x false y e = absurd (f w.later (omega (arith, w.last)) (sym (rw (x, y) at e)))
        by false x true y e = absurd (f w.earlier (omega (arith, w.order, w.last)) (rw (x, y) at e))
        by false x false y e = rw (x, y) at e

    go : Some p (p (suc m)) (suc m) ⊎ None p (p (suc m)) (suc m) → (None p (p (suc m)) (suc m) → Twice swapped m) → Twice p (suc m)
    go (inl f) ih =
        record {
          earlier = f.0;
          later = suc m;
          order = f.1;
          last = omega arith;
          equal = f.2;
        }
    go (inr f) ih = back f (ih f)

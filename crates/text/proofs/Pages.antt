-- Texts on a page, one after the other. Assumes nothing.
use Prim.Native.Nat.{ℕ}
use mathlib.Core.Path.{◌≡◌, refl, sym, ap, ◌∙◌}
use mathlib.Core.List.{List, [], ◌++◌, append_assoc, append-nil}
use native.Mathlib.Omega.{arith}
use lib.ListN.{take, length-append}
use Rattle.text.specs.Page.{Put}

-- no text
pub put_none : (a : List ℕ) (at : ℕ) → Put a at [] a at
put_none a at = record { put_end = omega arith; put_size = refl; put_front = sym (append-nil (take at a)) }

-- a text, and another behind it
pub put_then : {a b c : List ℕ} {at mid end : ℕ} (t u : List ℕ) → Put a at t b mid → Put b mid u c end → Put a at (t ++ u) c end
put_then {a} {b} {c} {at} {mid} {end} t u p q = record {
  put_end = rw (length-append t u) (omega (arith, p.put_end, q.put_end));
  put_size = q.put_size ∙ p.put_size;
  put_front = q.put_front ∙ ap (λ (l : List ℕ). l ++ u) p.put_front ∙ append_assoc (take at a) t u;
}

-- the text by another name
pub put_same : {a b : List ℕ} {at end : ℕ} (t u : List ℕ) → t ≡ u → Put a at t b end → Put a at u b end
put_same t u e p = rw (← e) p

-- and the lent bytes once the page is done with
pub put_lent : {a b b' : List ℕ} {at end : ℕ} {t : List ℕ} → b' ≡ b → Put a at t b end → Put a at t b' end
put_lent e p = rw e p

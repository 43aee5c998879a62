-- Decimal digits: a number's text from that of its tenth, and how many digits there are. Assumes nothing.
use Prim.Native.Nat.{ℕ, zero, suc, ◌+◌, ◌/◌, ◌%◌, ◌^◌, ◌<◌, ◌≤◌}
use mathlib.Core.Path.{◌≡◌, refl, ap, sym, ◌∙◌}
use mathlib.Core.Bool.{Bool, true, false}
use mathlib.Core.List.{List, [], ◌∷◌, ◌++◌}
use native.Mathlib.Nat.{pow-succ'}
use native.Mathlib.Omega.{arith}
use borrow.Author.Tests.{ltb-true, ltb-false}
use lib.ListN.{length, length-append}
use lib.Dec.{ltb}
use Rattle.model.specs.Report.{digits, decimal}
use Rattle.lemmas.proofs.Decimal.{digits_one, digits_more}

tenth : (n x : ℕ) → x < 10 ^ suc n → x / 10 < 10 ^ n
tenth n x h = omega (arith, rw (pow-succ' 10 n) at h)

-- room for one digit more changes nothing
digits_room : (n x : ℕ) → x < 10 ^ suc n → digits (suc n) x ≡ digits (suc (suc n)) x
digits_room zero x h = digits_one 0 x (omega arith) ∙ sym (digits_one 1 x (omega arith))
digits_room (suc n) x h = go (ltb x 10) refl (digits_room n (x / 10) (tenth (suc n) x h))
  where
    go : (b : Bool) → ltb x 10 ≡ b → digits (suc n) (x / 10) ≡ digits (suc (suc n)) (x / 10) → digits (suc (suc n)) x ≡ digits (suc (suc (suc n))) x
    go true e ih = let l = ltb-true x 10 e in digits_one (suc n) x l ∙ sym (digits_one (suc (suc n)) x l)
    go false e ih =
        let l = ltb-false x 10 e in
        digits_more (suc n) x l ∙ ap (λ (t : List ℕ). t ++ ((48 + x % 10) ∷ [])) ih ∙ sym (digits_more (suc (suc n)) x l)

pub decimal_one : (x : ℕ) → x < 10 → decimal x ≡ (48 + x) ∷ []
unfolding decimal
decimal_one x h = digits_one 19 x h

-- a number's text from that of its tenth
pub decimal_more : (x : ℕ) → x < 10 ^ 20 → 10 ≤ x → decimal x ≡ decimal (x / 10) ++ ((48 + x % 10) ∷ [])
unfolding decimal
decimal_more x h l = digits_more 19 x l ∙ ap (λ (t : List ℕ). t ++ ((48 + x % 10) ∷ [])) (digits_room 18 (x / 10) (tenth 19 x h))

-- a number below a power of ten has no more digits than the power, and none has more than the bound
digits_most : (n k x : ℕ) → x < 10 ^ suc k → length (digits n x) ≤ suc k
unfolding digits
digits_most zero k x h = omega arith
digits_most (suc n) k x h = go (ltb x 10) refl k h (λ j p. digits_most n j (x / 10) p)
  where
    go : (b : Bool) → ltb x 10 ≡ b → (k : ℕ) → x < 10 ^ suc k → ((j : ℕ) → x / 10 < 10 ^ suc j → length (digits n (x / 10)) ≤ suc j) → length (digits (suc n) x) ≤ suc k
    go true e k h ih = rw (digits_one n x (ltb-true x 10 e)) (omega arith)
    go false e zero h ih = absurd (let l = ltb-false x 10 e in omega arith)
    go false e (suc k) h ih =
        rw (digits_more n x (ltb-false x 10 e), length-append (digits n (x / 10)) ((48 + x % 10) ∷ [])) (omega (arith, ih k (tenth (suc k) x h)))

digits_bound : (n x : ℕ) → length (digits n x) ≤ n
unfolding digits
digits_bound zero x = omega arith
digits_bound (suc n) x = go (ltb x 10) refl (digits_bound n (x / 10))
  where
    go : (b : Bool) → ltb x 10 ≡ b → length (digits n (x / 10)) ≤ n → length (digits (suc n) x) ≤ suc n
    go true e ih = rw (digits_one n x (ltb-true x 10 e)) (omega arith)
    go false e ih = rw (digits_more n x (ltb-false x 10 e), length-append (digits n (x / 10)) ((48 + x % 10) ∷ [])) (omega arith)

pub decimal_most : (k x : ℕ) → x < 10 ^ suc k → length (decimal x) ≤ suc k
unfolding decimal
decimal_most k x h = digits_most 20 k x h

pub decimal_bound : (x : ℕ) → length (decimal x) ≤ 20
unfolding decimal
decimal_bound x = digits_bound 20 x

-- Laws of sets as bits. Assumes nothing.
use Prim.Native.Nat.{ℕ, zero, suc, ◌+◌, ◌-◌, ◌*◌, ◌/◌, ◌%◌, ◌^◌, ◌≤◌, ◌<◌, max, min}
use mathlib.Core.Path.{◌≡◌, refl, sym, ap, ◌∙◌}
use mathlib.Core.Bool.{Bool, true, false, ◌||◌, ◌&&◌, not}
use native.Mathlib.Omega.{arith}
use native.Mathlib.Nat.{div-eq_of_lt, div-eq_of_lt-le, div-one, pow-suc}
use native.Mathlib.Decide.{dec_lt}
use lib.Dec.{eqb, ltb}
use lib.Bits.{bit_or, bit_and, and_step, and_self}
use lib.Pow.{pow_pos, pow_mono, shl_exact, shr-shr}
use lib.Count.{count_leading_zeros, leading_top}
use borrow.Author.Tests.{eq-eqb, eqb-true, eqb-false, lt-ltb, le-ltb, ltb-true}
use Rattle.lemmas.proofs.Tests.{not_both, same_test, and_false_right}
use Rattle.std.specs.Int.{bit_at}
use Rattle.std.specs.Int.Width.{w64}
use Rattle.std.proofs.lemmas.Nat.{and_le_l}
use Rattle.std.proofs.lemmas.Nat.Bits.{bit_at_and, bit_at_or, bit_at_not, bit_at_ones, bit_at-pow_same, bit_at-pow_other, bit_at-lt}
use Rattle.sets.specs.Sets.{member}
use Rattle.lemmas.proofs.Bools.{and_on}

-- nothing is in the set of no bits
pub member_none : (k : ℕ) → member 0 k ≡ false
unfolding member
member_none k = ap (λ z. eqb (z % 2) 1) (div-eq_of_lt (pow_pos k))

-- the set of a shifted word, and past a word's end
pub member_shift : (s r k : ℕ) → member (s / 2 ^ r) k ≡ member s (r + k)
unfolding member
member_shift s r k = ap (λ z. eqb (z % 2) 1) (shr-shr s r k)

pub member_past : (s n k : ℕ) → s < 2 ^ n → n ≤ k → member s k ≡ false
unfolding member
member_past s n k p q = let small : s < 2 ^ k = omega (arith, pow_mono q) in ap (λ z. eqb (z % 2) 1) (div-eq_of_lt small)

-- what holds of two bits holds of whether they are 1
or_bits : (p q : ℕ) → p < 2 → q < 2 → eqb (max p q) 1 ≡ (eqb p 1 || eqb q 1)
or_bits zero zero h k = refl
or_bits zero (suc zero) h k = refl
or_bits (suc zero) zero h k = refl
or_bits (suc zero) (suc zero) h k = refl
or_bits (suc (suc p)) q h k = absurd (omega arith)
or_bits zero (suc (suc q)) h k = absurd (omega arith)
or_bits (suc zero) (suc (suc q)) h k = absurd (omega arith)

pub member_or : (a b k : ℕ) → member (bit_or a b) k ≡ (member a k || member b k)
unfolding member
member_or a b k = ap (λ z. eqb z 1) (bit_at_or a b k) ∙ or_bits (bit_at a k) (bit_at b k) (bit_at-lt a k) (bit_at-lt b k)

and_bits : (p q : ℕ) → p < 2 → q < 2 → eqb (min p q) 1 ≡ (eqb p 1 && eqb q 1)
and_bits zero zero h k = refl
and_bits zero (suc zero) h k = refl
and_bits (suc zero) zero h k = refl
and_bits (suc zero) (suc zero) h k = refl
and_bits (suc (suc p)) q h k = absurd (omega arith)
and_bits zero (suc (suc q)) h k = absurd (omega arith)
and_bits (suc zero) (suc (suc q)) h k = absurd (omega arith)

pub member_and : (a b k : ℕ) → member (bit_and a b) k ≡ (member a k && member b k)
unfolding member
member_and a b k = ap (λ z. eqb z 1) (bit_at_and a b k) ∙ and_bits (bit_at a k) (bit_at b k) (bit_at-lt a k) (bit_at-lt b k)

-- the set of k alone
pub member_one : (k j : ℕ) → member (1 * 2 ^ k) j ≡ eqb j k
unfolding member
member_one k j = let e : 1 * 2 ^ k ≡ 2 ^ k = omega arith in ap (λ s. eqb (bit_at s j) 1) e ∙ go (eqb j k) refl
  where
    go : (b : Bool) → eqb j k ≡ b → eqb (bit_at (2 ^ k) j) 1 ≡ eqb j k
    go true q = ap (λ i. eqb (bit_at (2 ^ k) i) 1) (eqb-true j k q) ∙ ap (λ z. eqb z 1) (bit_at-pow_same k) ∙ sym q
    go false q = ap (λ z. eqb z 1) (bit_at-pow_other k j (eqb-false j k q)) ∙ sym q

-- the set with k besides
pub member_with : (set k j : ℕ) → k < 64 → member (bit_or set (1 * 2 ^ k % 18446744073709551616)) j ≡ (member set j || eqb j k)
member_with set k j p =
    ap (λ z. member (bit_or set z) j) (shl_exact 1 k 64 (omega arith) (omega arith))
    ∙ member_or set (1 * 2 ^ k) j
    ∙ ap (λ b. member set j || b) (member_one k j)

-- bits below k stay, the others go
member_ones : (k j : ℕ) → member (2 ^ k - 1) j ≡ ltb j k
unfolding member
member_ones k j = go (dec_lt j k)
  where
    go : Dec (j < k) → member (2 ^ k - 1) j ≡ ltb j k
    go (yes p) = ap (λ z. eqb z 1) (bit_at_ones k j p) ∙ sym (lt-ltb j k p)
    go (no p) = member_past (2 ^ k - 1) k j (omega (arith, pow_pos k)) (omega arith) ∙ sym (le-ltb j k (omega arith))

pub member_below : (set k j : ℕ) → k < 64 → member (bit_and set (1 * 2 ^ k % 18446744073709551616 - 1)) j ≡ (member set j && ltb j k)
member_below set k j p =
    let e : 1 * 2 ^ k ≡ 2 ^ k = omega arith in
    ap (λ z. member (bit_and set (z - 1)) j) (shl_exact 1 k 64 (omega arith) (omega arith) ∙ e)
    ∙ member_and set (2 ^ k - 1) j
    ∙ ap (λ b. member set j && b) (member_ones k j)

-- a word that a shift makes is above 0
pub one_pos : (k : ℕ) → k < 64 → 1 ≤ 1 * 2 ^ k % 18446744073709551616
one_pos k p =
    let e : 1 * 2 ^ k % 18446744073709551616 ≡ 1 * 2 ^ k = shl_exact 1 k 64 (omega arith) (omega arith) in
    omega (arith, pow_pos k)

-- the number 0, and the numbers above it
member_zero : (s : ℕ) → member s 0 ≡ eqb (s % 2) 1
unfolding member
member_zero s = ap (λ z. eqb (z % 2) 1) (div-one s)

member_half : (s k : ℕ) → member s (suc k) ≡ member (s / 2) k
member_half s k = let e : suc k ≡ 1 + k = omega arith in ap (λ i. member s i) e ∙ sym (member_shift s 1 k)

-- the members of a that b does not have
less_lem : (p q : ℕ) → p < 2 → q < 2 → eqb (min p (1 - q)) 1 ≡ (eqb p 1 && not (eqb q 1))
less_lem zero zero h k = refl
less_lem zero (suc zero) h k = refl
less_lem (suc zero) zero h k = refl
less_lem (suc zero) (suc zero) h k = refl
less_lem (suc (suc p)) q h k = absurd (omega arith)
less_lem zero (suc (suc q)) h k = absurd (omega arith)
less_lem (suc zero) (suc (suc q)) h k = absurd (omega arith)

pub member_less : (a b k : ℕ) → a < 2 ^ 64 → b < 2 ^ 64 → member (bit_and a (2 ^ 64 - 1 - b)) k ≡ (member a k && not (member b k))
unfolding member
member_less a b k p q = go (dec_lt k 64)
  where
    small : bit_and a (2 ^ 64 - 1 - b) < 2 ^ 64
    small = omega (arith, and_le_l a (2 ^ 64 - 1 - b))

    go : Dec (k < 64) → member (bit_and a (2 ^ 64 - 1 - b)) k ≡ (member a k && not (member b k))
    go (yes h) =
        ap (λ z. eqb z 1) (bit_at_and a (2 ^ 64 - 1 - b) k ∙ ap (min (bit_at a k)) (bit_at_not w64 b k q h))
        ∙ less_lem (bit_at a k) (bit_at b k) (bit_at-lt a k) (bit_at-lt b k)
    go (no h) =
        member_past (bit_and a (2 ^ 64 - 1 - b)) 64 k small (omega arith)
        ∙ ap (λ x. x && not (member b k)) (sym (member_past a 64 k p (omega arith)))

-- the set of k alone, as a shift makes it
pub member_alone : (k j : ℕ) → k < 64 → member (1 * 2 ^ k % 18446744073709551616) j ≡ eqb j k
member_alone k j p = ap (λ z. member z j) (shl_exact 1 k 64 (omega arith) (omega arith)) ∙ member_one k j

-- the set without its least member k
double : (x i : ℕ) → member (x * 2) (suc i) ≡ member x i
double x i = let e : x * 2 / 2 ≡ x = omega arith in member_half (x * 2) i ∙ ap (λ z. member z i) e

double_zero : (x : ℕ) → member (x * 2) 0 ≡ false
double_zero x = let e : x * 2 % 2 ≡ 0 = omega arith in member_zero (x * 2) ∙ ap (λ z. eqb z 1) e

odd_zero : (s : ℕ) → member s 0 ≡ true → s % 2 ≡ 1
odd_zero s e = eqb-true (s % 2) 1 (sym (member_zero s) ∙ e)

even_zero : (s : ℕ) → member s 0 ≡ false → s % 2 ≡ 0
even_zero s e = let h : s % 2 ≡ 1 → ⊥ = λ z. not_both (member_zero s ∙ eq-eqb (s % 2) 1 z) e in omega arith

-- an odd set, and an even one
rest_odd : (s : ℕ) → s % 2 ≡ 1 → bit_and s (s - 1) ≡ s / 2 * 2
rest_odd s e =
    let half : (s - 1) / 2 ≡ s / 2 = omega arith in
    let low : (s - 1) % 2 ≡ 0 = omega arith in
    and_step s (s - 1) ∙ rw (half, low, e, and_self (s / 2)) (omega arith)

rest_even : (s : ℕ) → s % 2 ≡ 0 → 0 < s → bit_and s (s - 1) ≡ bit_and (s / 2) (s / 2 - 1) * 2
rest_even s e p =
    let half : (s - 1) / 2 ≡ s / 2 - 1 = omega arith in
    let low : (s - 1) % 2 ≡ 1 = omega arith in
    and_step s (s - 1) ∙ rw (half, low, e) (omega arith)

pub member_rest : (k s j : ℕ) → member s k ≡ true → ((i : ℕ) → i < k → member s i ≡ false) → member (bit_and s (s - 1)) j ≡ (member s j && ltb k j)
member_rest zero s j e none =
    let o : s % 2 ≡ 1 = odd_zero s e in
    ap (λ z. member z j) (rest_odd s o) ∙ go j
  where
    go : (j : ℕ) → member (s / 2 * 2) j ≡ (member s j && ltb 0 j)
    go zero = double_zero (s / 2) ∙ sym (and_false_right (member s 0) (ltb 0 0) (le-ltb 0 0 (omega arith)))
    go (suc i) = double (s / 2) i ∙ sym (member_half s i) ∙ sym (and_on (member s (suc i)) (ltb 0 (suc i)) (lt-ltb 0 (suc i) (omega arith)))
member_rest (suc k) s j e none = go j (member_rest k (s / 2))
  where
    o : s % 2 ≡ 0
    o = even_zero s (none 0 (omega arith))

    some : 0 < s
    some = pos s e
      where
        pos : (s : ℕ) → member s (suc k) ≡ true → 0 < s
        pos zero h = absurd (not_both h (member_none (suc k)))
        pos (suc s) h = omega arith

    next : (i : ℕ) → ltb k i ≡ ltb (suc k) (suc i)
    next i = same_test (ltb k i) (ltb (suc k) (suc i)) (λ h. lt-ltb (suc k) (suc i) (omega (arith, ltb-true k i h))) (λ h. lt-ltb k i (omega (arith, ltb-true (suc k) (suc i) h)))

    go : (j : ℕ) → ((j : ℕ) → member (s / 2) k ≡ true → ((i : ℕ) → i < k → member (s / 2) i ≡ false) → member (bit_and (s / 2) (s / 2 - 1)) j ≡ (member (s / 2) j && ltb k j)) → member (bit_and s (s - 1)) j ≡ (member s j && ltb (suc k) j)
    go zero ih = ap (λ z. member z 0) (rest_even s o some) ∙ double_zero (bit_and (s / 2) (s / 2 - 1)) ∙ sym (and_false_right (member s 0) (ltb (suc k) 0) (le-ltb (suc k) 0 (omega arith)))
    go (suc i) ih =
        ap (λ z. member z (suc i)) (rest_even s o some) ∙ double (bit_and (s / 2) (s / 2 - 1)) i
        ∙ ih i (sym (member_half s k) ∙ e) (λ n p. sym (member_half s n) ∙ none (suc n) (omega arith))
        ∙ ap (λ b. b && ltb k i) (sym (member_half s i)) ∙ ap (λ b. member s (suc i) && b) (next i)

-- the greatest member: as many zeros stand above the highest bit
top_here : (s j : ℕ) → 2 ^ j ≤ s → s < 2 ^ suc j → member s j ≡ true
unfolding member
top_here s j a b =
    let z : s / 2 ^ j ≡ 1 = div-eq_of_lt-le {k = 1} (2 ^ j) (omega arith) (omega (arith, pow-suc 2 j)) in
    ap (λ x. eqb (x % 2) 1) z

pub last_some : (s : ℕ) → 0 < s → s < 2 ^ 64 → (count_leading_zeros 64 s ≤ 63) × (member s (63 - count_leading_zeros 64 s) ≡ true) × ((k : ℕ) → 63 - count_leading_zeros 64 s < k → member s k ≡ false)
last_some s p q =
    let t = leading_top 64 s p q in
    let j = t.0 in
    let e : 63 - count_leading_zeros 64 s ≡ j = omega (arith, t.1) in
    (omega (arith, t.1), rw e (top_here s j t.2 t.3), λ k h. member_past s (suc j) k t.3 (omega arith))

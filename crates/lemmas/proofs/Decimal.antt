-- Texts and decimal numbers: a text up to its first byte of another kind is determined, and decimal text determines its number. Assumes nothing.
use Prim.Native.Nat.{ℕ, zero, suc, ◌+◌, ◌/◌, ◌%◌, ◌^◌, ◌<◌, ◌≤◌}
use mathlib.Core.Path.{◌≡◌, refl, ap, sym, ◌∙◌}
use mathlib.Core.Bool.{Bool, true, false, ◌&&◌}
use mathlib.Core.List.{List, [], ◌∷◌, ◌++◌, head-eq_of_cons-eq, tail-eq_of_cons-eq}
use native.Mathlib.Nat.{pow-succ'}
use native.Mathlib.Omega.{arith}
use borrow.Author.Tests.{lt-ltb, le-ltb, le-leb, ltb-true, ltb-false}
use lib.ListN.{length, get_or, take, drop, length-append}
use lib.Seq.{take_at, drop_at}
use lib.Dec.{leb, ltb}
use Rattle.model.specs.Report.{digits, decimal}
use Rattle.lemmas.proofs.Tests.{not_both, and_left, and_right, both}

-- whether every byte of a text passes a test
abbrev pub every : (ℕ → Bool) → List ℕ → Bool
every p [] = true
every p (c ∷ s) = p c && every p s

pub every_append : (p : ℕ → Bool) (s t : List ℕ) → every p s ≡ true → every p t ≡ true → every p (s ++ t) ≡ true
every_append p [] t e f = f
every_append p (c ∷ s) t e f = both (p c) (every p (s ++ t)) (and_left (p c) _ e) (every_append p s t (and_right (p c) _ e) f)

pub every_weaker : (p q : ℕ → Bool) → ((c : ℕ) → p c ≡ true → q c ≡ true) → (s : List ℕ) → every p s ≡ true → every q s ≡ true
every_weaker p q h [] e = refl
every_weaker p q h (c ∷ s) e =
    both (q c) (every q s) (h c (and_left (p c) _ e)) (every_weaker p q h s (and_right (p c) _ e))

pub every_at : (p : ℕ → Bool) (s : List ℕ) (z : ℕ) → every p s ≡ true → p z ≡ true → (i : ℕ) → p (get_or s i z) ≡ true
every_at p [] z e f i = f
every_at p (c ∷ s) z e f zero = and_left (p c) (every p s) e
every_at p (c ∷ s) z e f (suc i) = every_at p s z (and_right (p c) (every p s) e) f i

-- a text is determined up to its first byte that fails a test
pub cut_same : (p : ℕ → Bool) (s t : List ℕ) (c d : ℕ) (r u : List ℕ) → every p s ≡ true → every p t ≡ true → p c ≡ false → p d ≡ false → s ++ (c ∷ r) ≡ t ++ (d ∷ u) → (s ≡ t) × (c ≡ d) × (r ≡ u)
cut_same p [] [] c d r u f g x y e = (refl, head-eq_of_cons-eq e, tail-eq_of_cons-eq e)
cut_same p [] (b ∷ t) c d r u f g x y e =
    let q : c ≡ b = head-eq_of_cons-eq e in
    absurd (not_both (and_left (p b) _ g) (rw q at x))
cut_same p (a ∷ s) [] c d r u f g x y e =
    let q : a ≡ d = head-eq_of_cons-eq e in
    absurd (not_both (and_left (p a) _ f) (rw (sym q) at y))
cut_same p (a ∷ s) (b ∷ t) c d r u f g x y e =
    let q : a ≡ b = head-eq_of_cons-eq e in
    let ih = cut_same p s t c d r u (and_right (p a) _ f) (and_right (p b) _ g) x y (tail-eq_of_cons-eq e) in
    (rw (q, ih.0), ih.1, ih.2)

-- the last byte apart
last_same : (s t : List ℕ) (a b : ℕ) → s ++ (a ∷ []) ≡ t ++ (b ∷ []) → (s ≡ t) × (a ≡ b)
last_same s t a b e =
    let n : length t ≡ length s = omega (arith, simp length-append at (ap length e)) in (
      sym (take_at s (a ∷ []) (length s) refl) ∙ ap (take (length s)) e ∙ take_at t (b ∷ []) (length s) n,
      head-eq_of_cons-eq (sym (drop_at s (a ∷ []) (length s) refl) ∙ ap (drop (length s)) e ∙ drop_at t (b ∷ []) (length s) n),
    )

-- a digit of its own, and a last digit
pub digits_one : (n x : ℕ) → x < 10 → digits (suc n) x ≡ (48 + x) ∷ []
unfolding digits
digits_one n x h = rw (digits, lt-ltb x 10 h) refl

pub digits_more : (n x : ℕ) → 10 ≤ x → digits (suc n) x ≡ digits n (x / 10) ++ ((48 + x % 10) ∷ [])
unfolding digits
digits_more n x h = rw (digits, le-ltb x 10 h) refl

-- the text of a number has digits alone, and at least one
abbrev pub is_digit : ℕ → Bool
is_digit c = leb 48 c && leb c 57

digit_is : (x : ℕ) → x < 10 → is_digit (48 + x) ≡ true
digit_is x h = both (leb 48 (48 + x)) _ (le-leb 48 (48 + x) (omega arith)) (le-leb (48 + x) 57 (omega arith))

digits_every : (n x : ℕ) → every is_digit (digits n x) ≡ true
unfolding digits
digits_every zero x = refl
digits_every (suc n) x = go (ltb x 10) refl (digits_every n (x / 10))
  where
    one : (c : ℕ) → c < 10 → every is_digit ((48 + c) ∷ []) ≡ true
    one c h = both (is_digit (48 + c)) true (digit_is c h) refl

    go : (b : Bool) → ltb x 10 ≡ b → every is_digit (digits n (x / 10)) ≡ true → every is_digit (digits (suc n) x) ≡ true
    go true e ih = rw (digits_one n x (ltb-true x 10 e)) (one x (ltb-true x 10 e))
    go false e ih = rw (digits_more n x (ltb-false x 10 e)) (every_append is_digit (digits n (x / 10)) _ ih (one (x % 10) (omega arith)))

digits_some : (n x : ℕ) → 1 ≤ length (digits (suc n) x)
digits_some n x = go (ltb x 10) refl
  where
    go : (b : Bool) → ltb x 10 ≡ b → 1 ≤ length (digits (suc n) x)
    go true e = rw (digits_one n x (ltb-true x 10 e)) (omega arith)
    go false e = rw (digits_more n x (ltb-false x 10 e), length-append) (omega arith)

-- one digit and two are not the same text
one_more : (n a x c : ℕ) → a ∷ [] ≡ digits (suc n) x ++ (c ∷ []) → ⊥
one_more n a x c e = omega (arith, digits_some n x, simp length-append at (ap length e))

-- two numbers of the same text, where their tenths are the same if their tenths' texts are
digits_step : (n x y : ℕ) → (10 ≤ x → digits (suc n) (x / 10) ≡ digits (suc n) (y / 10) → x / 10 ≡ y / 10) → digits (suc (suc n)) x ≡ digits (suc (suc n)) y → x ≡ y
digits_step n x y h e = go (ltb x 10) refl (ltb y 10) refl
  where
    go : (b : Bool) → ltb x 10 ≡ b → (c : Bool) → ltb y 10 ≡ c → x ≡ y
    go true p true q =
        let f = sym (digits_one (suc n) x (ltb-true x 10 p)) ∙ e ∙ digits_one (suc n) y (ltb-true y 10 q) in
        omega (arith, head-eq_of_cons-eq f)
    go true p false q =
        absurd (one_more n (48 + x) (y / 10) _ (sym (digits_one (suc n) x (ltb-true x 10 p)) ∙ e ∙ digits_more (suc n) y (ltb-false y 10 q)))
    go false p true q =
        absurd (one_more n (48 + y) (x / 10) _ (sym (digits_one (suc n) y (ltb-true y 10 q)) ∙ sym e ∙ digits_more (suc n) x (ltb-false x 10 p)))
    go false p false q =
        let f = last_same (digits (suc n) (x / 10)) (digits (suc n) (y / 10)) _ _ (sym (digits_more (suc n) x (ltb-false x 10 p)) ∙ e ∙ digits_more (suc n) y (ltb-false y 10 q)) in
        let t : x / 10 ≡ y / 10 = h (ltb-false x 10 p) f.0 in
        omega (arith, f.1)

-- a number that leaves room for one digit more is determined by its text
digits_same : (n x y : ℕ) → x < 10 ^ suc n → digits (suc (suc n)) x ≡ digits (suc (suc n)) y → x ≡ y
digits_same zero x y h e = digits_step 0 x y (λ p f. absurd (omega arith)) e
digits_same (suc n) x y h e =
    digits_step (suc n) x y (λ p f. digits_same n (x / 10) (y / 10) (omega (arith, rw (pow-succ' 10 (suc n)) at h)) f) e

pub decimal_every : (x : ℕ) → every is_digit (decimal x) ≡ true
unfolding decimal
decimal_every x = digits_every 20 x

-- decimal text determines its number
pub decimal_same : (x y : ℕ) → x < 10 ^ 19 → decimal x ≡ decimal y → x ≡ y
unfolding decimal
decimal_same x y h e = digits_same 18 x y h e

-- a number and what follows it: determined by a text in which no digit follows it
pub decimal_cut : (x y c d : ℕ) (r u : List ℕ) → x < 10 ^ 19 → is_digit c ≡ false → is_digit d ≡ false → decimal x ++ (c ∷ r) ≡ decimal y ++ (d ∷ u) → (x ≡ y) × (c ≡ d) × (r ≡ u)
decimal_cut x y c d r u h a b e =
    let f = cut_same is_digit (decimal x) (decimal y) c d r u (decimal_every x) (decimal_every y) a b e in
    (decimal_same x y h f.0, f.1, f.2)

-- Chains over a range of numbers and over a list: what `any`, `all` and `sum` answer there. Assumes nothing.
use Prim.Native.Nat.{ℕ, zero, suc, ◌+◌, ◌≤◌, ◌<◌}
use mathlib.Core.Path.{◌≡◌, refl, sym, ap, ◌∙◌}
use mathlib.Core.Bool.{Bool, true, false, ◌||◌, ◌&&◌}
use mathlib.Core.List.{List}
use native.Mathlib.Omega.{arith}
use native.Mathlib.Nat.{add-zero}
use lib.ListN.{length, get_or, take, drop}
use Rattle.std.proofs.Math.Seq.{drop-cons}
use Rattle.std.proofs.lemmas.List.{drop_all}
use Rattle.std.proofs.lemmas.List.Sums.{sum_by_more}
use Rattle.std.specs.List.{range_with_len, list_any, list_all, sum}
use Rattle.model.specs.Basics.{any_n, all_n, sum_n}

any_first : (p : ℕ → Bool) (a n : ℕ) → any_n p a (suc n) ≡ (p a || any_n p (a + 1) n)
unfolding any_n
any_first p a zero = rw add-zero (from_none (p a))
  where
    from_none : (x : Bool) → (false || x) ≡ (x || false)
    from_none true = refl
    from_none false = refl
any_first p a (suc n) =
    let e : a + 1 + n ≡ a + suc n = omega arith in
    ap (λ x. x || p (a + suc n)) (any_first p a n) ∙ (turn (p a) (any_n p (a + 1) n) (p (a + suc n)) ∙ ap (λ k. p a || (any_n p (a + 1) n || p k)) (sym e))
  where
    turn : (x y z : Bool) → ((x || y) || z) ≡ (x || (y || z))
    turn true y z = refl
    turn false y z = refl

pub any_range : (p : ℕ → Bool) (a n : ℕ) → list_any p (range_with_len a n) ≡ any_n p a n
any_range p a zero = unfold any_n in refl
any_range p a (suc n) = ap (λ x. p a || x) (any_range p (a + 1) n) ∙ sym (any_first p a n)

all_first : (p : ℕ → Bool) (a n : ℕ) → all_n p a (suc n) ≡ (p a && all_n p (a + 1) n)
unfolding all_n
all_first p a zero = rw add-zero (from_none (p a))
  where
    from_none : (x : Bool) → (true && x) ≡ (x && true)
    from_none true = refl
    from_none false = refl
all_first p a (suc n) =
    let e : a + 1 + n ≡ a + suc n = omega arith in
    ap (λ x. x && p (a + suc n)) (all_first p a n) ∙ (turn (p a) (all_n p (a + 1) n) (p (a + suc n)) ∙ ap (λ k. p a && (all_n p (a + 1) n && p k)) (sym e))
  where
    turn : (x y z : Bool) → ((x && y) && z) ≡ (x && (y && z))
    turn true y z = refl
    turn false y z = refl

pub all_range : (p : ℕ → Bool) (a n : ℕ) → list_all p (range_with_len a n) ≡ all_n p a n
all_range p a zero = unfold all_n in refl
all_range p a (suc n) = ap (λ x. p a && x) (all_range p (a + 1) n) ∙ sym (all_first p a n)

-- the same over a list, by place
any_list_from : {A : Type 0} (p : A → Bool) (xs : List A) (d : A) (a n : ℕ) → a + n ≡ length xs → list_any p (drop a xs) ≡ any_n (λ k. p (get_or xs k d)) a n
unfolding any_n
any_list_from p xs d a zero e =
    let q : length xs ≤ a = omega arith in
    ap (list_any p) (drop_all a xs q)
any_list_from p xs d a (suc n) e =
    let q : a < length xs = omega arith in
    let s : suc a ≡ a + 1 = omega arith in
    ap (list_any p) (drop-cons xs a d q)
    ∙ (ap (λ x. p (get_or xs a d) || x) (ap (λ k. list_any p (drop k xs)) s ∙ any_list_from p xs d (a + 1) n (omega arith)) ∙ sym (any_first (λ k. p (get_or xs k d)) a n))

pub any_list : {A : Type 0} (p : A → Bool) (xs : List A) (d : A) → list_any p xs ≡ any_n (λ k. p (get_or xs k d)) 0 (length xs)
any_list p xs d = any_list_from p xs d 0 (length xs) (omega arith)

-- the sum of the first n places
pub sum_front : (xs : List ℕ) (n : ℕ) → n ≤ length xs → sum (take n xs) ≡ sum_n (λ k. get_or xs k 0) 0 n
unfolding sum_n
sum_front xs zero h = refl
sum_front xs (suc n) h =
    let s : suc n ≡ n + 1 = omega arith in
    let z : n ≡ 0 + n = omega arith in
    ap (λ k. sum (take k xs)) s
    ∙ (sum_by_more (λ x. x) xs n 0 (omega arith) ∙ (ap (λ x. x + get_or xs n 0) (sum_front xs n (omega arith)) ∙ ap (λ k. sum_n (λ k. get_or xs k 0) 0 n + get_or xs k 0) z))

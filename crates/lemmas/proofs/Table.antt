-- Tables and joined lists: their lengths and entries, and when a list is a table. Assumes nothing.
use Prim.Native.Nat.{ℕ, zero, suc, ◌+◌, ◌-◌, ◌≤◌, ◌<◌}
use mathlib.Core.Path.{◌≡◌, refl, sym, ap, ◌∙◌}
use mathlib.Core.List.{List, [], ◌∷◌, ◌++◌}
use native.Mathlib.Nat.{not-suc-le-zero, le_of_suc-le-suc, zero-add}
use native.Mathlib.Omega.{arith}
use native.Mathlib.Numerals.{add-one}
use lib.ListN.{length, get_or, set, take, drop, replicate, length-append, length-replicate, get_or-replicate, get_or-append, get_or-eq_default}
use lib.Seq.{ext_get_or, get_or_at, get_or-set_same, get_or-set_other}
use Rattle.model.specs.Basics.{sum_n, unset, tab, joined}
use Rattle.lemmas.proofs.Tests.{Cmp, less, same, more, cmp, and_left, and_right, both}
use mathlib.Core.Bool.{Bool, true, false, not, cond}
use lib.Dec.{eqb}
use borrow.Author.Tests.{eqb-true, eqb-false, not-true}

pub length-tab : {A : Type 0} (n : ℕ) (f : ℕ → A) → length (tab n f) ≡ n
unfolding tab
length-tab zero f = refl
length-tab (suc n) f = rw (length-append, length-tab n f) (omega arith)

pub get_d_tab : {A : Type 0} (n : ℕ) (f : ℕ → A) (d : A) (k : ℕ) → k < n → get_or (tab n f) k d ≡ f k
unfolding tab
get_d_tab zero f d k h = absurd (omega arith)
get_d_tab (suc n) f d k h = go (cmp k n) (get_d_tab n f d k)
  where
    go : Cmp k n → (k < n → get_or (tab n f) k d ≡ f k) → get_or (tab n f ++ (f n ∷ [])) k d ≡ f k
    go (less r) ih = rw (get_or-append (tab n f) (f n ∷ []) d k (rw (length-tab n f) r)) (ih r)
    go (same r) ih = rw r (get_or_at (tab n f) (f n) [] d n (length-tab n f))
    go (more r) ih = absurd (omega arith)

-- a list is a table where each place says so
pub is_tab : {A : Type 0} (d : A) (n : ℕ) (f : ℕ → A) (l : List A) → length l ≡ n → ((k : ℕ) → k < n → get_or l k d ≡ f k) → l ≡ tab n f
is_tab d n f l e h =
    ext_get_or
    d
    l
    (tab n f)
    (e ∙ sym (length-tab n f))
    (λ k b. let b' : k < n = omega (arith, e) in h k b' ∙ sym (get_d_tab n f d k b'))

pub joined_more : {A : Type 0} (n : ℕ) (f : ℕ → List A) → joined (n + 1) f ≡ joined n f ++ f n
unfolding joined
joined_more n f = rw add-one refl

pub joined_cong : {A : Type 0} (n : ℕ) (f g : ℕ → List A) → ((k : ℕ) → k < n → f k ≡ g k) → joined n f ≡ joined n g
unfolding joined
joined_cong zero f g h = refl
joined_cong (suc n) f g h = rw (joined_cong n f g (λ k p. h k (omega arith)), h n (omega arith))

pub joined_length : {A : Type 0} (n : ℕ) (f : ℕ → List A) → length (joined n f) ≡ sum_n (λ k. length (f k)) 0 n
unfolding joined sum_n
joined_length zero f = refl
joined_length (suc n) f = rw (length-append, joined_length n f, zero-add)

-- there is room for the next of them
pub joined_room : {A : Type 0} (n : ℕ) (f : ℕ → List A) (k : ℕ) → k < n → length (joined k f) + length (f k) ≤ length (joined n f)
unfolding joined
joined_room zero f k h = absurd (omega arith)
joined_room (suc n) f k h = go (cmp k n) (joined_room n f k)
  where
    go : Cmp k n → (k < n → length (joined k f) + length (f k) ≤ length (joined n f)) → length (joined k f) + length (f k) ≤ length (joined n f ++ f n)
    go (less r) ih = omega (arith, ih r, length-append (joined n f) (f n))
    go (same r) ih = rw r (omega (arith, length-append (joined n f) (f n)))
    go (more r) ih = absurd (omega arith)

-- filling a list from the front: what holds of each place below i, and of the value stored at i, holds of each place below i + 1
pub stored : {A : Type 0} (P : ℕ → A → Type 0) (d : A) (l : List A) (i : ℕ) (v : A) → i < length l → ((k : ℕ) → k < i → P k (get_or l k d)) → P i v → (k : ℕ) → k < i + 1 → P k (get_or (set l i v) k d)
stored P d l i v b h x k p = go (cmp k i)
  where
    go : Cmp k i → P k (get_or (set l i v) k d)
    go (less q) = rw (get_or-set_other l i k v d (λ e. omega arith)) (h k q)
    go (same q) = rw (q, get_or-set_same l i v d b) x
    go (more q) = absurd (omega arith)

pub tab_cong : {A : Type 0} (n : ℕ) (f g : ℕ → A) → ((k : ℕ) → k < n → f k ≡ g k) → tab n f ≡ tab n g
unfolding tab
tab_cong zero f g h = refl
tab_cong (suc n) f g h = rw (tab_cong n f g (λ k p. h k (omega arith)), h n (omega arith))

-- an entry of a list of one value is that value, past its end too
pub get_d_same : {A : Type 0} (n i : ℕ) (a : A) → get_or (replicate n a) i a ≡ a
get_d_same n i a = go (cmp i n)
  where
    past : n ≤ i → get_or (replicate n a) i a ≡ a
    past p = get_or-eq_default (replicate n a) a {n = i} (omega (arith, length-replicate n a))

    go : Cmp i n → get_or (replicate n a) i a ≡ a
    go (less r) = get_or-replicate n i a a r
    go (same r) = past (omega arith)
    go (more r) = past (omega arith)

-- what holds below i, and at i, holds below i + 1
pub under : (P : ℕ → Type 0) (i : ℕ) → ((k : ℕ) → k < i → P k) → P i → (k : ℕ) → k < i + 1 → P k
under P i all here k q = go (cmp k i)
  where
    go : Cmp k i → P k
    go (less r) = all k r
    go (same r) = rw r here
    go (more r) = absurd (omega arith)

-- copying a text over the front of a list: one more entry
pub store_more : (out text : List ℕ) (i : ℕ) → i < length out → i < length text → set (take i text ++ drop i out) i (get_or text i 0) ≡ take (i + 1) text ++ drop (i + 1) out
store_more out text i a b = rw add-one (go out text i a b)
  where
    go : (out text : List ℕ) (i : ℕ) → i < length out → i < length text → set (take i text ++ drop i out) i (get_or text i 0) ≡ take (suc i) text ++ drop (suc i) out
    go [] text i a b = absurd (not-suc-le-zero a)
    go (y ∷ out) [] i a b = absurd (not-suc-le-zero b)
    go (y ∷ out) (x ∷ text) zero a b = refl
    go (y ∷ out) (x ∷ text) (suc i) a b =
        ap (λ (l : List ℕ). x ∷ l) (go out text i (le_of_suc-le-suc a) (le_of_suc-le-suc b))

-- an entry after a store
pub get_d_set : {A : Type 0} (l : List A) (i : ℕ) (v d : A) (k : ℕ) → i < length l → get_or (set l i v) k d ≡ cond (eqb k i) v (get_or l k d)
get_d_set l i v d k h = go (eqb k i) refl
  where
    go : (b : Bool) → eqb k i ≡ b → get_or (set l i v) k d ≡ cond (eqb k i) v (get_or l k d)
    go true e = let q : k ≡ i = eqb-true k i e in rw e (rw q (get_or-set_same l i v d h))
    go false e = rw e (get_or-set_other l i k v d (eqb-false k i e))

-- of two stores at one place the later counts
pub set_twice : {A : Type 0} (l : List A) (i : ℕ) (a b : A) → set (set l i a) i b ≡ set l i b
set_twice [] i a b = refl
set_twice (x ∷ l) zero a b = refl
set_twice {A} (x ∷ l) (suc i) a b = ap (λ (k : List A). x ∷ k) (set_twice l i a b)

-- marks that are unset from a place on, place by place
all_unset : (bs : List Bool) → ((k : ℕ) → get_or bs k false ≡ false) → unset bs ≡ true
unfolding unset
all_unset [] h = refl
all_unset (b ∷ bs) h = both (not b) (unset bs) (ap not (h 0)) (all_unset bs (λ k. h (suc k)))

pub unset_of : (n : ℕ) (bs : List Bool) → ((k : ℕ) → n ≤ k → get_or bs k false ≡ false) → unset (drop n bs) ≡ true
unfolding unset
unset_of zero bs h = all_unset bs (λ k. h k (omega arith))
unset_of (suc n) [] h = refl
unset_of (suc n) (b ∷ bs) h = unset_of n bs (λ k p. h (suc k) (omega arith))

none_set : (bs : List Bool) → unset bs ≡ true → (k : ℕ) → get_or bs k false ≡ false
unfolding unset
none_set [] e k = refl
none_set (b ∷ bs) e zero = not-true b (and_left (not b) (unset bs) e)
none_set (b ∷ bs) e (suc k) = none_set bs (and_right (not b) (unset bs) e) k

pub unset_at : (n : ℕ) (bs : List Bool) → unset (drop n bs) ≡ true → (k : ℕ) → n ≤ k → get_or bs k false ≡ false
unfolding unset
unset_at zero bs e k p = none_set bs e k
unset_at (suc n) [] e k p = refl
unset_at (suc n) (b ∷ bs) e zero p = absurd (omega arith)
unset_at (suc n) (b ∷ bs) e (suc k) p = unset_at n bs e k (omega arith)

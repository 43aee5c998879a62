-- Sets of 256 bits, word by word. Assumes nothing.
use Prim.Native.Nat.{ℕ, zero, suc, ◌/◌, ◌%◌, ◌≤◌, ◌<◌}
use mathlib.Core.Path.{◌≡◌, refl, sym, ap, ◌∙◌}
use mathlib.Core.Bool.{Bool, true, false, ◌||◌}
use mathlib.Core.List.{[], ◌∷◌}
use mathlib.Core.Logic.{◌≢◌}
use native.Mathlib.Omega.{arith}
use native.Mathlib.Decide.{dec_lt}
use lib.ListN.{get_or, length, set, replicate}
use lib.Seq.{get_or-set_same, get_or-set_other}
use lib.Dec.{eqb}
use borrow.Author.Tests.{eq-eqb, ne_eqb, eqb-true, eqb-false}
use Rattle.lemmas.proofs.Tests.{same_test}
use Rattle.sets.specs.declared.wide.Wide.{Wide}
use Rattle.sets.specs.Sets.{member}
use Rattle.sets.specs.Wide.{word_in, inside}
use Rattle.sets.proofs.SetLaws.{member_none}

pub empty : (v k : ℕ) → member (word_in (record { words = replicate 4 0 }) v) k ≡ false
unfolding word_in
empty zero k = member_none k
empty (suc zero) k = member_none k
empty (suc (suc zero)) k = member_none k
empty (suc (suc (suc zero))) k = member_none k
empty (suc (suc (suc (suc v)))) k = member_none k

-- nothing is in a set of no words
pub no_words : (l : ℕ) → inside (record { words = [] }) l ≡ false
unfolding inside word_in
no_words l = go (l / 64)
  where
    go : (v : ℕ) → member (word_in (record { words = [] }) v) (l % 64) ≡ false
    go zero = member_none (l % 64)
    go (suc zero) = member_none (l % 64)
    go (suc (suc zero)) = member_none (l % 64)
    go (suc (suc (suc zero))) = member_none (l % 64)
    go (suc (suc (suc (suc v)))) = member_none (l % 64)

-- what holds of the words holds of the sets; it holds of the words past the last, which are 0
module _ (f : Bool → Bool → Bool) (off : f false false ≡ false) (x y : Wide) (a b c d : ℕ) where
  pub by_words : ((k : ℕ) → member a k ≡ f (member (get_or x.words 0 0) k) (member (get_or y.words 0 0) k)) → ((k : ℕ) → member b k ≡ f (member (get_or x.words 1 0) k) (member (get_or y.words 1 0) k)) → ((k : ℕ) → member c k ≡ f (member (get_or x.words 2 0) k) (member (get_or y.words 2 0) k)) → ((k : ℕ) → member d k ≡ f (member (get_or x.words 3 0) k) (member (get_or y.words 3 0) k)) → (l : ℕ) → inside (record { words = a ∷ b ∷ c ∷ d ∷ [] }) l ≡ f (inside x l) (inside y l)
  unfolding inside word_in
  by_words p q s t l = go (l / 64) (l % 64)
    where
      go : (v k : ℕ) → member (word_in (record { words = a ∷ b ∷ c ∷ d ∷ [] }) v) k ≡ f (member (word_in x v) k) (member (word_in y v) k)
      go zero k = p k
      go (suc zero) k = q k
      go (suc (suc zero)) k = s k
      go (suc (suc (suc zero))) k = t k
      go (suc (suc (suc (suc v)))) k = rw (member_none k, off) refl

-- the words of a set are read at their places
pub word_here : (s : Wide) (v : ℕ) → v < 4 → word_in s v ≡ get_or s.words v 0
unfolding word_in
word_here s zero h = refl
word_here s (suc zero) h = refl
word_here s (suc (suc zero)) h = refl
word_here s (suc (suc (suc zero))) h = refl
word_here s (suc (suc (suc (suc v)))) h = absurd (omega arith)

word_past : (s : Wide) (v : ℕ) → 4 ≤ v → word_in s v ≡ 0
unfolding word_in
word_past s zero h = absurd (omega arith)
word_past s (suc zero) h = absurd (omega arith)
word_past s (suc (suc zero)) h = absurd (omega arith)
word_past s (suc (suc (suc zero))) h = absurd (omega arith)
word_past s (suc (suc (suc (suc v)))) h = refl

pub inside_here : (s : Wide) (l : ℕ) → l < 256 → inside s l ≡ member (get_or s.words (l / 64) 0) (l % 64)
unfolding inside
inside_here s l h = ap (λ n. member n (l % 64)) (word_here s (l / 64) (omega arith))

pub inside_past : (s : Wide) (l : ℕ) → 256 ≤ l → inside s l ≡ false
unfolding inside
inside_past s l h = ap (λ k. member k (l % 64)) (word_past s (l / 64) (omega arith)) ∙ member_none (l % 64)

-- one number besides
pub inside_with : (s : Wide) (l v : ℕ) → length s.words ≡ 4 → l < 256 → ((k : ℕ) → member v k ≡ (member (get_or s.words (l / 64) 0) k || eqb k (l % 64))) → (j : ℕ) → inside (record { words = set s.words (l / 64) v }) j ≡ (inside s j || eqb j l)
inside_with s l v z h m j = go (dec_lt j 256)
  where
    r : Wide
    r = record { words = set s.words (l / 64) v }

    or_none : (b : Bool) → (b || false) ≡ b
    or_none true = refl
    or_none false = refl

    here : j < 256 → (b : Bool) → eqb (j / 64) (l / 64) ≡ b → inside r j ≡ (inside s j || eqb j l)
    here p true e =
        let same : j / 64 ≡ l / 64 = eqb-true (j / 64) (l / 64) e in
        inside_here r j p
        ∙ ap (λ n. member n (j % 64)) (ap (λ i. get_or r.words i 0) same ∙ get_or-set_same s.words (l / 64) v 0 (omega arith))
        ∙ m (j % 64)
        ∙ ap (λ b. b || eqb (j % 64) (l % 64)) (ap (λ i. member (get_or s.words i 0) (j % 64)) (sym same) ∙ sym (inside_here s j p))
        ∙ ap (λ b. inside s j || b) (same_test (eqb (j % 64) (l % 64)) (eqb j l) (λ e. eq-eqb j l (omega (arith, eqb-true (j % 64) (l % 64) e))) (λ e. eq-eqb (j % 64) (l % 64) (ap (λ i. i % 64) (eqb-true j l e))))
    here p false e =
        let apart : j / 64 ≢ l / 64 = eqb-false (j / 64) (l / 64) e in
        let off : eqb j l ≡ false = ne_eqb j l (λ q. apart (ap (λ i. i / 64) q)) in
        inside_here r j p ∙ ap (λ n. member n (j % 64)) (get_or-set_other s.words (l / 64) (j / 64) v 0 apart) ∙ sym (inside_here s j p) ∙ sym (ap (λ b. inside s j || b) off ∙ or_none (inside s j))

    go : Dec (j < 256) → inside r j ≡ (inside s j || eqb j l)
    go (yes p) = here p (eqb (j / 64) (l / 64)) refl
    go (no p) = inside_past r j (omega arith) ∙ sym (ap (λ b. b || eqb j l) (inside_past s j (omega arith)) ∙ ne_eqb j l (λ q. omega arith))

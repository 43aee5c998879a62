-- One link more in the rows, column by column. Assumes nothing.
use Prim.Native.Nat.{ℕ, ◌+◌, ◌≤◌, ◌<◌}
use mathlib.Core.Path.{◌≡◌, refl, sym, ap, ◌∙◌}
use mathlib.Core.Bool.{Bool, true, false, ◌||◌, ◌&&◌, cond}
use mathlib.Core.List.{List, []}
use mathlib.Core.Logic.{◌⊎◌, inl, inr}
use native.Mathlib.Omega.{arith}
use native.Mathlib.Numerals.{add-one}
use native.Mathlib.Decide.{dec_lt}
use Rattle.std.proofs.lemmas.List.{get_or-replicate, get_or_past}
use Rattle.sets.proofs.WideLaws.{no_words}
use lib.ListN.{length, set, length-set, replicate, length-replicate}
use lib.Dec.{eqb, ltb}
use borrow.Author.Tests.{eqb-true, le-ltb}
use Rattle.model.specs.declared.Description.{Description}
use Rattle.model.specs.Basics.{any_n}
use Rattle.model.specs.Graph.{link_at, system}
use Rattle.lemmas.proofs.Tests.{eqb_sym}
use Rattle.lemmas.proofs.Range.{any_more}
use Rattle.theory.proofs.WellFormed.{WellFormed, IsTask, IsSource}
use Rattle.sets.specs.declared.wide.Wide.{Wide}
use Rattle.sets.specs.Sets.{member}
use Rattle.sets.specs.Wide.{inside}
use Rattle.sets.proofs.SetLaws.{member_none}
use Rattle.wiring.specs.declared.Row.{Row}
use Rattle.wiring.specs.Rows.{row_at, RowsOf, Wired}
use Rattle.lemmas.proofs.Table.{get_d_set}
use Rattle.lemmas.proofs.Bools.{and_swap, less_more}
use Rattle.theory.proofs.Links.{to_most}

-- one link more
one_more : (f : ℕ → Bool) (l n : ℕ) (a : Bool) → a ≡ (ltb l n && f l) → (c : Bool) → c ≡ f n → (a || (c && eqb l n)) ≡ (ltb l (n + 1) && f l)
one_more f l n a p c r = rw (p, r) (ap (λ z. (ltb l n && f l) || z) (and_swap (f n) (eqb l n)) ∙ sym (less_more f l n) ∙ ap (λ k. ltb l k && f l) (sym (add-one n)))

-- a row v at place x
module _ (rows : List Row) (x : ℕ) (v : Row) (here : x < length rows) where
  placed : (z : ℕ) → row_at (set rows x v) z ≡ cond (eqb z x) v (row_at rows z)
  placed z = get_d_set rows x v _ z here

  -- a column that it has as before, and one in which it has k besides
  same : {A : Type 0} (f : Row → A) → f v ≡ f (row_at rows x) → (z : ℕ) → f (row_at (set rows x v) z) ≡ f (row_at rows z)
  same f e z = ap f (placed z) ∙ go (eqb z x) refl
    where
      go : (b : Bool) → eqb z x ≡ b → f (cond b v (row_at rows z)) ≡ f (row_at rows z)
      go true q = e ∙ ap (λ i. f (row_at rows i)) (sym (eqb-true z x q))
      go false q = refl

  more : (f : Row → ℕ → Bool) (k : ℕ) → ((j : ℕ) → f v j ≡ (f (row_at rows x) j || eqb j k)) → (z j : ℕ) → f (row_at (set rows x v) z) j ≡ (f (row_at rows z) j || (eqb z x && eqb j k))
  more f k e z j = ap (λ r. f r j) (placed z) ∙ go (eqb z x) refl
    where
      none : (b : Bool) → b ≡ (b || false)
      none true = refl
      none false = refl

      go : (b : Bool) → eqb z x ≡ b → f (cond b v (row_at rows z)) j ≡ (f (row_at rows z) j || (b && eqb j k))
      go true q = e j ∙ ap (λ i. f (row_at rows i) j || eqb j k) (sym (eqb-true z x q))
      go false q = none (f (row_at rows z) j)

module _ (n x y : ℕ) (rows : List Row) (long : length rows ≡ 64) (x_low : x < 64) (y_low : y < 64) (a b : Wide) (c : ℕ) where
  abbrev pub rows₁ : List Row
  rows₁ = set rows x (record { out = a; into = (row_at rows x).into; wakes = (row_at rows x).wakes })

  abbrev pub rows₂ : List Row
  rows₂ = set rows₁ y (record { out = (row_at rows₁ y).out; into = b; wakes = (row_at rows₁ y).wakes })

  abbrev pub rows₃ : List Row
  rows₃ = set rows₂ x (record { out = (row_at rows₂ x).out; into = (row_at rows₂ x).into; wakes = c })

  pub wired_more : ((j : ℕ) → inside a j ≡ (inside (row_at rows x).out j || eqb j n)) → ((j : ℕ) → inside b j ≡ (inside (row_at rows₁ y).into j || eqb j n)) → ((j : ℕ) → member c j ≡ (member (row_at rows₂ x).wakes j || eqb j y)) → Wired rows n x y rows₃
  wired_more out into wakes = record {
    long = long₃;
    wired = λ d p q g. record {
      long = long₃;
      out = λ z l.
          same rows₂ x _ at₃ (λ r. inside r.out l) refl z ∙ same rows₁ y _ at₂ (λ r. inside r.out l) refl z ∙ more rows x _ at₁ (λ r k. inside r.out k) n out z l
          ∙ one_more (λ k. eqb (link_at d k).from z) l n _ (g.out z l) (eqb z x) (eqb_sym z x ∙ ap (λ k. eqb k z) (sym p));
      into = λ z l.
          same rows₂ x _ at₃ (λ r. inside r.into l) refl z ∙ more rows₁ y _ at₂ (λ r k. inside r.into k) n into z l
          ∙ one_more (λ k. eqb (link_at d k).to z) l n _ (same rows x _ at₁ (λ r. inside r.into l) refl z ∙ g.into z l) (eqb z y) (eqb_sym z y ∙ ap (λ k. eqb k z) (sym q));
      wakes = λ z k.
          more rows₂ x _ at₃ (λ r i. member r.wakes i) y wakes z k
          ∙ ap (λ s. s || (eqb z x && eqb k y)) (same rows₁ y _ at₂ (λ r. member r.wakes k) refl z ∙ same rows x _ at₁ (λ r. member r.wakes k) refl z ∙ g.wakes z k)
          ∙ woken d p q z k ∙ sym (any_more (λ l. eqb (link_at d l).from z && eqb (link_at d l).to k) n);
    };
  }
    where
      at₁ : x < length rows
      at₁ = omega arith

      long₁ : length rows₁ ≡ 64
      long₁ = length-set rows x _ ∙ long

      at₂ : y < length rows₁
      at₂ = omega (arith, long₁)

      long₂ : length rows₂ ≡ 64
      long₂ = length-set rows₁ y _ ∙ long₁

      at₃ : x < length rows₂
      at₃ = omega (arith, long₂)

      long₃ : length rows₃ ≡ 64
      long₃ = length-set rows₂ x _ ∙ long₂

      woken : (d : Description) → (link_at d n).from ≡ x → (link_at d n).to ≡ y → (z k : ℕ) → (any_n (λ l. eqb (link_at d l).from z && eqb (link_at d l).to k) 0 n || (eqb z x && eqb k y)) ≡ (any_n (λ l. eqb (link_at d l).from z && eqb (link_at d l).to k) 0 n || (eqb (link_at d n).from z && eqb (link_at d n).to k))
      woken d p q z k = rw (p, q, eqb_sym x z, eqb_sym y k) refl

-- before the first link a row has nothing, nor has one past the last
nothing : {A : Type 0} (f : Row → A) {r : Row} (x : ℕ) → f r ≡ f (row_at [] x) → f (row_at (replicate 64 r) x) ≡ f r
nothing f {r = r} x e = go (dec_lt x 64)
  where
    go : Dec (x < 64) → f (row_at (replicate 64 r) x) ≡ f r
    go (yes h) = ap f (get_or-replicate 64 x r _ h)
    go (no h) = ap f (get_or_past (replicate 64 r) x _ (omega (arith, length-replicate 64 r))) ∙ sym e

pub none_wired : (d : Description) (a b : Wide) → ((l : ℕ) → inside a l ≡ false) → ((l : ℕ) → inside b l ≡ false) → RowsOf d 0 (replicate 64 (record { out = a; into = b; wakes = 0 }))
unfolding any_n
none_wired d a b e f = record {
  long = refl;
  out = λ x l. nothing (λ r. inside r.out l) x (e l ∙ sym (no_words l)) ∙ e l ∙ rw (le-ltb l 0 (omega arith)) refl;
  into = λ x l. nothing (λ r. inside r.into l) x (f l ∙ sym (no_words l)) ∙ f l ∙ rw (le-ltb l 0 (omega arith)) refl;
  wakes = λ x k. nothing (λ r. member r.wakes k) x refl ∙ member_none k;
}

-- the nodes of a link have rows
pub from_low : (d : Description) → WellFormed d → (l : ℕ) → l < d.link_count → (link_at d l).from < 64
unfolding system
from_low d g l h = go (g.fields.link_from l h)
  where
    go : IsTask (system d) (link_at d l).from ⊎ IsSource (system d) (link_at d l).from → (link_at d l).from < 64
    go (inl t) = let e : (link_at d l).from ≤ d.task_count = t.1 in omega (arith, g.fields.few_tasks)
    go (inr s) = let e : (link_at d l).from < 33 + d.source_count = s.1 in omega (arith, g.fields.few_sources)

pub to_low : (d : Description) → WellFormed d → (l : ℕ) → l < d.link_count → (link_at d l).to < 64
to_low d g l h = omega (arith, (to_most d g.fields l h).1)

-- For each task the largest spacing of a source with a critical link to it, link by link. Assumes nothing.
use Prim.Native.Nat.{ℕ, ◌+◌, ◌-◌, ◌≤◌, ◌<◌, max}
use mathlib.Core.Path.{◌≡◌, refl, sym, ◌∙◌}
use mathlib.Core.Bool.{Bool, true, false, cond, ◌&&◌}
use mathlib.Core.List.{List}
use native.Mathlib.Omega.{arith}
use lib.ListN.{length, get_or, set, length-set}
use lib.Seq.{get_or-set_same, get_or-set_other}
use lib.Dec.{eqb, leb}
use borrow.Author.Tests.{eq-eqb, ne_eqb, le-leb, lt-leb}
use Rattle.model.specs.declared.Link.{Link}
use Rattle.model.specs.declared.Description.{Description}
use Rattle.model.specs.Graph.{link_at}
use Rattle.lemmas.proofs.Tests.{Cmp, less, same, more, cmp, at_or_not}
use Rattle.theory.proofs.WellFormed.{WellFormed}
use Rattle.theory.proofs.Links.{ends_inside}
use Rattle.verdicts.proofs.SlotLaws.{gap_task, gap_source}
use Rattle.verdicts.specs.Slots.{gap_by, limit_by, LimitsOf}

-- a critical source link's own spacing, and no more than the scale has
module _ (gaps : List ℕ) (k : Link) where
  pub limit_own : k.critical ≡ 1 → 33 ≤ k.from → limit_by gaps k ≡ get_or gaps (k.from - 33) 0
  unfolding limit_by
  limit_own e h = rw (eq-eqb k.critical 1 e, le-leb 33 k.from h)

  pub limit_free : (k.critical ≡ 1 → ⊥) → limit_by gaps k ≡ 0
  unfolding limit_by
  limit_free n = rw (ne_eqb k.critical 1 n)

  pub limit_task : k.from < 33 → limit_by gaps k ≡ 0
  unfolding limit_by
  limit_task h = rw (lt-leb 33 k.from h) (go (eqb k.critical 1))
    where
      go : (b : Bool) → cond (b && false) (get_or gaps (k.from - 33) 0) 0 ≡ 0
      go true = refl
      go false = refl

  pub limit_gap : k.critical ≡ 1 → gap_by gaps k ≡ limit_by gaps k
  limit_gap e = go (cmp k.from 33)
    where
      go : Cmp k.from 33 → gap_by gaps k ≡ limit_by gaps k
      go (less h) = sym (gap_task gaps k h) ∙ sym (limit_task h)
      go (same h) = sym (gap_source gaps k (omega arith)) ∙ sym (limit_own e (omega arith))
      go (more h) = sym (gap_source gaps k (omega arith)) ∙ sym (limit_own e (omega arith))

  pub limit_most : ((u : ℕ) → get_or gaps u 0 ≤ 1000000000) → limit_by gaps k ≤ 1000000000
  unfolding limit_by
  limit_most h = go (eqb k.critical 1 && leb 33 k.from)
    where
      go : (b : Bool) → cond b (get_or gaps (k.from - 33) 0) 0 ≤ 1000000000
      go true = h (k.from - 33)
      go false = omega arith

-- limits by the first n links
pub record LimitsTo (d : Description) (gaps limits : List ℕ) (n : ℕ) : Type 0 where
  pub sized : length limits ≡ 32
  pub covers : (l : ℕ) → l < n → 33 ≤ (link_at d l).from → (link_at d l).critical ≡ 1 → get_or gaps ((link_at d l).from - 33) 0 ≤ get_or limits ((link_at d l).to - 1) 0
  pub most : (j : ℕ) → get_or limits j 0 ≤ 1000000000

pub limits_more : (d : Description) (gaps limits : List ℕ) (n : ℕ) → WellFormed d → ((u : ℕ) → get_or gaps u 0 ≤ 1000000000) → n < d.link_count → LimitsTo d gaps limits n
    → LimitsTo d gaps (set limits ((link_at d n).to - 1) (max (get_or limits ((link_at d n).to - 1) 0) (limit_by gaps (link_at d n)))) (n + 1)
limits_more d gaps limits n g h p r =
    record {
      sized = length-set limits at v ∙ r.sized;
      covers = λ l q a e. cover l q a e (cmp l n);
      most = λ j. at_or_not (λ i. get_or (set limits at v) i 0 ≤ 1000000000) at j (rw there (omega (arith, r.most at, limit_most gaps (link_at d n) h))) (λ ne. rw (get_or-set_other limits at j v 0 ne) (r.most j));
    }
  where
    at : ℕ
    at = (link_at d n).to - 1

    v : ℕ
    v = max (get_or limits at 0) (limit_by gaps (link_at d n))

    there : get_or (set limits at v) at 0 ≡ v
    there = get_or-set_same limits at v 0 (omega (arith, r.sized, (ends_inside d g.fields n p).2, (ends_inside d g.fields n p).3))

    grows : (j : ℕ) → get_or limits j 0 ≤ get_or (set limits at v) j 0
    grows j = at_or_not (λ i. get_or limits i 0 ≤ get_or (set limits at v) i 0) at j (rw there (omega arith)) (λ ne. rw (get_or-set_other limits at j v 0 ne) (omega arith))

    cover : (l : ℕ) → l < n + 1 → 33 ≤ (link_at d l).from → (link_at d l).critical ≡ 1 → Cmp l n → get_or gaps ((link_at d l).from - 33) 0 ≤ get_or (set limits at v) ((link_at d l).to - 1) 0
    cover l q a e (less x) = omega (arith, r.covers l x a e, grows ((link_at d l).to - 1))
    cover l q a e (same x) = rw x (rw there (omega (arith, limit_own gaps (link_at d n) (rw x at e) (rw x at a))))
    cover l q a e (more x) = absurd (omega arith)

pub limits_done : (d : Description) (gaps limits : List ℕ) → LimitsTo d gaps limits d.link_count → LimitsOf d gaps limits
limits_done d gaps limits r = record { covers = r.covers; most = r.most }

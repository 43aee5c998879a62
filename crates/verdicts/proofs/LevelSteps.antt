-- Steps of the functions that tell whether a level is held. Assumes nothing.
use Prim.Native.Nat.{ℕ, suc, ◌+◌, ◌-◌, ◌≤◌, ◌<◌, min}
use mathlib.Core.Path.{◌≡◌, refl, sym, ap, ◌∙◌}
use mathlib.Core.Bool.{Bool, true, false, cond, ◌&&◌, ◌||◌}
use mathlib.Core.List.{List}
use native.Mathlib.Omega.{arith}
use lib.ListN.{length, get_or, set, replicate, length-set, get_or-replicate}
use lib.Seq.{get_or-set_same, get_or-set_other}
use lib.Dec.{ltb, eqb}
use borrow.Author.Tests.{eq-eqb, ne_eqb, ltb-true, ltb-false}
use Rattle.model.specs.declared.Link.{Link}
use Rattle.model.specs.declared.Description.{Description}
use Rattle.model.specs.Basics.{any_n}
use Rattle.model.specs.Graph.{link_at}
use Rattle.lemmas.proofs.Tests.{Cmp, less, same, more, cmp, not_both}
use Rattle.lemmas.proofs.Range.{any_more}
use Rattle.sets.specs.Sets.{member}
use Rattle.sets.proofs.SetLaws.{member_none}
use Rattle.verdicts.specs.Held.{critical_link, critical_to}
use Rattle.verdicts.specs.Tables.{narrower_of, NarrowestIn}
use Rattle.lemmas.proofs.Bools.{or_off}

-- whether a link is critical and comes from source 33 + u
abbrev pub comes : Link → ℕ → Bool
comes k u = eqb k.critical 1 && eqb k.from (33 + u)

module _ (set : ℕ) (k : Link) where
  pub comes_free : (k.critical ≡ 1 → ⊥) → (u : ℕ) → member set u ≡ (member set u || comes k u)
  comes_free n u = rw (ne_eqb k.critical 1 n) (sym (or_off (member set u)))

  pub comes_task : k.from < 33 → (u : ℕ) → member set u ≡ (member set u || comes k u)
  comes_task h u = rw (ne_eqb k.from (33 + u) (λ e. omega arith)) (go (eqb k.critical 1))
    where
      go : (b : Bool) → member set u ≡ (member set u || (b && false))
      go true = sym (or_off (member set u))
      go false = sym (or_off (member set u))

  pub comes_source : (r : ℕ) → k.critical ≡ 1 → 33 ≤ k.from → ((u : ℕ) → member r u ≡ (member set u || eqb u (k.from - 33))) → (u : ℕ) → member r u ≡ (member set u || comes k u)
  comes_source r e h m u = m u ∙ rw (eq-eqb k.critical 1 e) (ap (λ b. member set u || b) (go (cmp u (k.from - 33))))
    where
      go : Cmp u (k.from - 33) → eqb u (k.from - 33) ≡ eqb k.from (33 + u)
      go (less x) = ne_eqb u (k.from - 33) (λ z. omega arith) ∙ sym (ne_eqb k.from (33 + u) (λ z. omega arith))
      go (same x) = eq-eqb u (k.from - 33) x ∙ sym (eq-eqb k.from (33 + u) (omega arith))
      go (more x) = ne_eqb u (k.from - 33) (λ z. omega arith) ∙ sym (ne_eqb k.from (33 + u) (λ z. omega arith))

-- the sets by the first n links
pub record CriticalTo (d : Description) (sets : List ℕ) (n : ℕ) : Type 0 where
  pub sized : length sets ≡ 32
  pub at : (j u : ℕ) → j < 32 → member (get_or sets j 0) u ≡ critical_to d n (33 + u) (suc j)

pub critical_none : (d : Description) → CriticalTo d (replicate 32 0) 0
unfolding critical_to any_n
critical_none d =
    record { sized = refl; at = λ j u p. ap (λ s. member s u) (get_or-replicate {A = ℕ} 32 j 0 0 p) ∙ member_none u }

pub critical_more : (d : Description) (sets : List ℕ) (n v : ℕ) → 1 ≤ (link_at d n).to → (link_at d n).to ≤ 32 → ((u : ℕ) → member v u ≡ (member (get_or sets ((link_at d n).to - 1) 0) u || comes (link_at d n) u)) → CriticalTo d sets n → CriticalTo d (set sets ((link_at d n).to - 1) v) (n + 1)
unfolding critical_to
critical_more d sets n v low high m r =
    record { sized = length-set sets at v ∙ r.sized; at = λ j u p. go j u p (cmp j at) }
  where
    k : Link
    k = link_at d n

    at : ℕ
    at = (link_at d n).to - 1

    one : (j u : ℕ) → any_n (λ l. critical_link (33 + u) (suc j) (link_at d l)) 0 (n + 1) ≡ (any_n (λ l. critical_link (33 + u) (suc j) (link_at d l)) 0 n || critical_link (33 + u) (suc j) k)
    one j u = any_more (λ l. critical_link (33 + u) (suc j) (link_at d l)) n

    whole : (a b c : Bool) → c ≡ true → (a && b) ≡ (a && (b && c))
    whole true true c e = sym e
    whole true false c e = refl
    whole false b c e = refl

    nothing : (x a b c : Bool) → c ≡ false → x ≡ (x || (a && (b && c)))
    nothing true a b c e = refl
    nothing false true true c e = sym e
    nothing false true false c e = refl
    nothing false false b c e = refl

    other : (j u : ℕ) → j < 32 → (j ≡ at → ⊥) → member (get_or (set sets at v) j 0) u ≡ any_n (λ l. critical_link (33 + u) (suc j) (link_at d l)) 0 (n + 1)
    other j u p ne =
        ap (λ s. member s u) (get_or-set_other sets at j v 0 ne)
        ∙ r.at j u p
        ∙ nothing (any_n (λ l. critical_link (33 + u) (suc j) (link_at d l)) 0 n) (eqb k.critical 1) (eqb k.from (33 + u)) (eqb k.to (suc j)) (ne_eqb k.to (suc j) (λ e. ne (omega arith)))
        ∙ sym (one j u)

    go : (j u : ℕ) → j < 32 → Cmp j at → member (get_or (set sets at v) j 0) u ≡ any_n (λ l. critical_link (33 + u) (suc j) (link_at d l)) 0 (n + 1)
    go j u p (less x) = other j u p (λ e. omega arith)
    go j u p (same x) =
        let e : (link_at d n).to ≡ suc j = omega arith in
        ap (λ i. member (get_or (set sets at v) i 0) u) x
        ∙ ap (λ s. member s u) (get_or-set_same sets at v 0 (omega (arith, r.sized)))
        ∙ m u
        ∙ ap (λ i. member (get_or sets i 0) u || comes k u) (sym x)
        ∙ ap (λ b. b || comes k u) (r.at j u p)
        ∙ ap (λ b. any_n (λ l. critical_link (33 + u) (suc j) (link_at d l)) 0 n || b) (whole (eqb k.critical 1) (eqb k.from (33 + u)) (eqb k.to (suc j)) (eq-eqb k.to (suc j) e))
        ∙ sym (one j u)
    go j u p (more x) = other j u p (λ e. omega arith)

-- the narrower of two spacings, by its tests
module _ (best gap : ℕ) where
  pub narrower_min : (counts : Bool) → counts ≡ true → min best gap ≡ narrower_of best counts gap
  unfolding narrower_of
  narrower_min counts e = rw e (go (ltb gap best) refl)
    where
      go : (b : Bool) → ltb gap best ≡ b → min best gap ≡ cond b gap best
      go true f = omega (arith, ltb-true gap best f)
      go false f = omega (arith, ltb-false gap best f)

  pub narrower_free : (counts : Bool) → counts ≡ false → best ≡ narrower_of best counts gap
  unfolding narrower_of
  narrower_free counts e = rw e

-- the loop over the spacings
module _ (set : ℕ) (gaps : List ℕ) where
  pub narrowest_none : NarrowestIn set gaps 0 2000000000
  narrowest_none = record { least = λ u p. absurd (omega arith); attained = λ h. absurd (omega arith) }

  pub narrowest_more : (n best v : ℕ) (counts : Bool) → counts ≡ member set n → v ≡ narrower_of best counts (get_or gaps n 0) → NarrowestIn set gaps n best → NarrowestIn set gaps (n + 1) v
  unfolding narrower_of
  narrowest_more n best v counts a b r = rw b (go counts (sym a) (ltb (get_or gaps n 0) best) refl)
    where
      earlier : best < 2000000000 → (u : ℕ) × (u < n + 1) × (member set u ≡ true) × (get_or gaps u 0 ≡ best)
      earlier h = let k = r.attained h in (k.0, omega (arith, k.1), k.2, k.3)

      go : (c : Bool) → member set n ≡ c → (s : Bool) → ltb (get_or gaps n 0) best ≡ s → NarrowestIn set gaps (n + 1) (cond (c && s) (get_or gaps n 0) best)
      go true e true f =
          record { least = λ u p q. small u p q (cmp u n); attained = λ h. (n, omega arith, e, refl) }
        where
          small : (u : ℕ) → u < n + 1 → member set u ≡ true → Cmp u n → get_or gaps n 0 ≤ get_or gaps u 0
          small u p q (less x) = omega (arith, r.least u x q, ltb-true (get_or gaps n 0) best f)
          small u p q (same x) = rw x (omega arith)
          small u p q (more x) = absurd (omega arith)
      go true e false f =
          record { least = λ u p q. small u p q (cmp u n); attained = earlier }
        where
          small : (u : ℕ) → u < n + 1 → member set u ≡ true → Cmp u n → best ≤ get_or gaps u 0
          small u p q (less x) = r.least u x q
          small u p q (same x) = rw x (ltb-false (get_or gaps n 0) best f)
          small u p q (more x) = absurd (omega arith)
      go false e s f =
          record { least = λ u p q. small u p q (cmp u n); attained = earlier }
        where
          small : (u : ℕ) → u < n + 1 → member set u ≡ true → Cmp u n → best ≤ get_or gaps u 0
          small u p q (less x) = r.least u x q
          small u p q (same x) = absurd (not_both q (rw x e))
          small u p q (more x) = absurd (omega arith)

-- Laws of the sets of nodes with a link to a task. Assumes nothing.
use Prim.Native.Nat.{ℕ, suc, ◌+◌, ◌-◌, ◌/◌, ◌%◌, ◌^◌, ◌≤◌, ◌<◌}
use mathlib.Core.Path.{◌≡◌, refl, sym, ap, ◌∙◌}
use mathlib.Core.Bool.{Bool, true, ◌||◌, ◌&&◌}
use mathlib.Core.List.{List}
use native.Mathlib.Omega.{arith}
use lib.ListN.{get_or, set, length}
use lib.Seq.{get_or-set_same, get_or-set_other}
use lib.Dec.{eqb}
use lib.Pow.{field, mod-mod-pow}
use borrow.Author.Tests.{eq-eqb, ne_eqb, eqb-true}
use Rattle.model.specs.declared.Description.{Description}
use Rattle.model.specs.Graph.{link_at}
use Rattle.lemmas.proofs.Tests.{Cmp, less, same, more, cmp, at_or_not, not_both, and_left, and_false_right, both, same_test}
use Rattle.lemmas.proofs.Range.{any_more}
use Rattle.sets.specs.Sets.{member}
use Rattle.sets.proofs.SetLaws.{member_shift, member_past}
use Rattle.theory.proofs.Links.{Linkable, linked_to}
use Rattle.neighbourhoods.specs.Into.{link_into}
use Rattle.lemmas.proofs.Bools.{or_none}

-- bits of the low half of 48
low_bit : (s i k : ℕ) → s % 2 ^ (i + 1 + k) / 2 ^ k % 2 ≡ s / 2 ^ k % 2
low_bit s i k = ap (λ z. z % 2) (field s (i + 1) k) ∙ mod-mod-pow (s / 2 ^ k) i 1

pub member_low : (s k : ℕ) → k < 48 → member (s % 281474976710656) k ≡ member s k
unfolding member
member_low s k p =
    let e : 48 ≡ 47 - k + 1 + k = omega arith in
    ap (λ z. eqb z 1) (ap (λ n. s % 2 ^ n / 2 ^ k % 2) e ∙ low_bit s (47 - k) k)

-- a link to task x from the node of a shifted set's number k
pub rest_node : (s r k : ℕ) → member (s % 281474976710656 / 2 ^ r) k ≡ true → r + k < 48
rest_node s r k e = go (cmp (r + k) 48)
  where
    far : 48 ≤ r + k → ⊥
    far p = not_both (sym (member_shift (s % 281474976710656) r k) ∙ e) (member_past (s % 281474976710656) 48 (r + k) (omega arith) p)

    go : Cmp (r + k) 48 → r + k < 48
    go (less p) = p
    go (same p) = absurd (far (omega arith))
    go (more p) = absurd (far (omega arith))

pub rest_link : (into : List ℕ) (x r k : ℕ) → r + k < 48 → link_into into (suc (r + k)) x ≡ member (get_or into (x - 1) 0 % 281474976710656 / 2 ^ r) k
rest_link into x r k p =
    let s = get_or into (x - 1) 0 in
    let e : suc (r + k) - 1 ≡ r + k = omega arith in
    ap (λ i. member s i) e ∙ sym (member_low s (r + k) p) ∙ sym (member_shift (s % 281474976710656) r k)

-- one more link of the description is put into the sets
pub into_more : (d : Description) (into : List ℕ) (l w : ℕ) → length into ≡ 32 → Linkable (link_at d l).from (link_at d l).to
    → ((k : ℕ) → member w k ≡ (member (get_or into ((link_at d l).to - 1) 0) k || eqb k ((link_at d l).from - 1)))
    → ((i j : ℕ) → Linkable i j → link_into into i j ≡ linked_to d l i j)
    → (i j : ℕ) → Linkable i j → link_into (set into ((link_at d l).to - 1) w) i j ≡ linked_to d (l + 1) i j
unfolding linked_to
into_more d into l w len p h all i j q = at_or_not (λ j. Linkable i j → link_into (set into (to - 1) w) i j ≡ linked_to d (l + 1) i j) to j there (λ ne q. elsewhere j q ne) q
  where
    from : ℕ
    from = (link_at d l).from

    to : ℕ
    to = (link_at d l).to

    here : ℕ → ℕ → Bool
    here j k = eqb (link_at d k).from i && eqb (link_at d k).to j

    alike : Linkable i to → eqb (i - 1) (from - 1) ≡ (eqb from i && eqb to to)
    alike q =
        same_test (eqb (i - 1) (from - 1)) (eqb from i && eqb to to)
        (λ e. both (eqb from i) (eqb to to) (eq-eqb from i (omega (arith, eqb-true (i - 1) (from - 1) e, p.0, q.0))) (eq-eqb to to refl))
        (λ e. eq-eqb (i - 1) (from - 1) (omega (arith, eqb-true from i (and_left (eqb from i) (eqb to to) e))))

    there : Linkable i to → link_into (set into (to - 1) w) i to ≡ linked_to d (l + 1) i to
    there q =
        ap (λ s. member s (i - 1)) (get_or-set_same into (to - 1) w 0 (omega (arith, len, p.2, p.3)))
        ∙ h (i - 1)
        ∙ ap (λ b. b || eqb (i - 1) (from - 1)) (all i to q)
        ∙ ap (λ b. linked_to d l i to || b) (alike q)
        ∙ sym (any_more (here to) l)

    elsewhere : (j : ℕ) → Linkable i j → (j ≡ to → ⊥) → link_into (set into (to - 1) w) i j ≡ linked_to d (l + 1) i j
    elsewhere j q ne =
        ap (λ s. member s (i - 1)) (get_or-set_other into (to - 1) (j - 1) w 0 (λ e. ne (omega (arith, e, p.2, q.2))))
        ∙ all i j q
        ∙ sym (any_more (here j) l ∙ or_none (linked_to d l i j) (here j l) (and_false_right (eqb from i) (eqb to j) (ne_eqb to j (λ e. ne (sym e)))))

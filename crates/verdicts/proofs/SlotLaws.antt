-- The verdict on a link from the tables is the defined one. Assumes nothing.
use Prim.Native.Nat.{ℕ, ◌+◌, ◌-◌, ◌≤◌, ◌<◌}
use mathlib.Core.Path.{◌≡◌, ap, ◌∙◌}
use mathlib.Core.Bool.{Bool, true, false, cond}
use mathlib.Core.List.{List}
use native.Mathlib.Omega.{arith}
use lib.ListN.{length, get_or, set, length-set}
use lib.Seq.{get_or-set_other}
use lib.Dec.{ltb}
use borrow.Author.Tests.{eq-eqb, ne_eqb, lt-ltb, le-ltb}
use Rattle.model.specs.declared.Link.{Link}
use Rattle.model.specs.declared.Description.{Description}
use Rattle.model.specs.declared.Verdict.{Verdict}
use Rattle.model.specs.declared.Verdict.TheVariants.{Free, HeldOrder, DoubtOrder, Held, Doubt}
use Rattle.model.specs.declared.VerdictSlot.{VerdictSlot}
use Rattle.model.specs.Basics.{tab}
use Rattle.model.specs.Graph.{link_at}
use Rattle.model.specs.Verdicts.{free_slot}
use Rattle.lemmas.proofs.Tests.{Cmp, less, same, more, cmp}
use Rattle.lemmas.proofs.Table.{stored, is_tab}
use Rattle.verdicts.specs.Slots.{verdict_by, gap_by, by_tables, slot_by}

module _ (l : Link) (order : Bool) (gap reach : ℕ) where
  pub by_free : l.critical ≡ 0 → Free ≡ verdict_by l order gap reach
  unfolding verdict_by
  by_free e = rw (eq-eqb l.critical 0 e)

  pub by_order : (l.critical ≡ 0 → ⊥) → l.from < 33 → order ≡ true → HeldOrder ≡ verdict_by l order gap reach
  unfolding verdict_by
  by_order n h o = rw (ne_eqb l.critical 0 n, lt-ltb l.from 33 h, o)

  pub by_disorder : (l.critical ≡ 0 → ⊥) → l.from < 33 → order ≡ false → DoubtOrder ≡ verdict_by l order gap reach
  unfolding verdict_by
  by_disorder n h o = rw (ne_eqb l.critical 0 n, lt-ltb l.from 33 h, o)

  pub by_rounds : (l.critical ≡ 0 → ⊥) → 33 ≤ l.from → cond (ltb reach gap) (Held reach gap) (Doubt gap) ≡ verdict_by l order gap reach
  unfolding verdict_by
  by_rounds n h = rw (ne_eqb l.critical 0 n, le-ltb l.from 33 h)

module _ (gaps : List ℕ) (l : Link) where
  pub gap_task : l.from < 33 → 0 ≡ gap_by gaps l
  unfolding gap_by
  gap_task h = rw (lt-ltb l.from 33 h)

  pub gap_source : 33 ≤ l.from → get_or gaps (l.from - 33) 0 ≡ gap_by gaps l
  unfolding gap_by
  gap_source h = rw (le-ltb l.from 33 h)

  pub gap_most : ((u : ℕ) → get_or gaps u 0 ≤ 1000000000) → gap_by gaps l ≤ 1000000000
  unfolding gap_by
  gap_most h = go (ltb l.from 33)
    where
      go : (b : Bool) → cond b 0 (get_or gaps (l.from - 33) 0) ≤ 1000000000
      go true = omega arith
      go false = h (l.from - 33)

-- the loop that fills the slots
module _ (d : Description) (orders : List Bool) (gaps reaches : List ℕ) where
  pub slot_in : (l : ℕ) (v : Verdict) → l < d.link_count → v ≡ by_tables (get_or orders l false) gaps reaches (link_at d l) → ◌≡◌ {A = VerdictSlot} (record { verdict = v }) (slot_by d orders gaps reaches l)
  unfolding slot_by
  slot_in l v h e = rw (lt-ltb l d.link_count h) (ap (λ (x : Verdict). let s : VerdictSlot = record { verdict = x } in s) e)

  pub slot_past : (l : ℕ) → d.link_count ≤ l → free_slot ≡ slot_by d orders gaps reaches l
  unfolding slot_by
  slot_past l h = rw (le-ltb l d.link_count h)

  -- filled below l, free from l on
  pub record SlotsTo (slots : List VerdictSlot) (l : ℕ) : Type 0 where
    pub sized : length slots ≡ 256
    pub filled : (k : ℕ) → k < l → get_or slots k free_slot ≡ slot_by d orders gaps reaches k
    pub rest : (k : ℕ) → l ≤ k → get_or slots k free_slot ≡ free_slot

  pub slots_more : (slots : List VerdictSlot) (l : ℕ) (s : VerdictSlot) → l < 256 → s ≡ slot_by d orders gaps reaches l → SlotsTo slots l → SlotsTo (set slots l s) (l + 1)
  slots_more slots l s h e r =
      record {
        sized = length-set slots l s ∙ r.sized;
        filled = stored (λ k x. x ≡ slot_by d orders gaps reaches k) free_slot slots l s (omega (arith, r.sized)) r.filled e;
        rest = λ k p. get_or-set_other slots l k s free_slot (λ q. omega arith) ∙ r.rest k (omega arith);
      }

  pub slots_done : (slots : List VerdictSlot) (l : ℕ) → d.link_count ≤ l → SlotsTo slots l → slots ≡ tab 256 (slot_by d orders gaps reaches)
  slots_done slots l h r = is_tab free_slot 256 (slot_by d orders gaps reaches) slots r.sized (λ k p. go k (cmp k l))
    where
      go : (k : ℕ) → Cmp k l → get_or slots k free_slot ≡ slot_by d orders gaps reaches k
      go k (less q) = r.filled k q
      go k (same q) = r.rest k (omega arith) ∙ slot_past k (omega arith)
      go k (more q) = r.rest k (omega arith) ∙ slot_past k (omega arith)

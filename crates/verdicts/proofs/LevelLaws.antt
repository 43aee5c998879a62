-- All critical links are held exactly if the orders are and every level is; a level that is held stays held when spacings grow. Assumes nothing.
use Prim.Native.Nat.{ℕ, ◌≤◌, ◌<◌}
use mathlib.Core.Path.{◌≡◌, refl, sym, ◌∙◌}
use mathlib.Core.Bool.{Bool, true, false, cond, not, ◌&&◌}
use mathlib.Core.Logic.{◌⊎◌, inl, inr}
use native.Mathlib.Omega.{arith}
use lib.Dec.{leb, eqb}
use borrow.Author.Tests.{eq-eqb, ne_eqb, eqb-true, lt-ltb, le-ltb, le-leb, leb-true, not-true}
use Rattle.model.specs.declared.Link.{Link}
use Rattle.model.specs.declared.Description.{Description}
use Rattle.model.specs.declared.Policy.{Policy}
use Rattle.model.specs.declared.Verdict.TheVariants.{HeldOrder, DoubtOrder}
use Rattle.model.specs.Graph.{system, link_at}
use Rattle.model.specs.Delays.{spacing_of}
use Rattle.model.specs.Order.{in_order}
use Rattle.model.specs.Verdicts.{source_verdict, order_verdict, verdict_of, verdict_at, doubtful, all_held}
use Rattle.lemmas.proofs.Tests.{Cmp, less, same, more, cmp, both, and_left, and_right, not_both, false_of}
use Rattle.lemmas.proofs.Range.{all_at, all_of}
use Rattle.theory.proofs.WellFormed.{WellFormed, IsTask, IsSource}
use Rattle.theory.proofs.Rounds.{Spaced, Wider}
use Rattle.theory.proofs.Quotes.{verdict_wider}
use Rattle.neighbourhoods.specs.Orders.{between_tasks, order_held, orders_held}
use Rattle.neighbourhoods.proofs.OrderLaws.{between_is, is_between}
use Rattle.verdicts.specs.Held.{from_source, held_at, level_held}

-- a value that is asked for only where a test passes
asked : (b x : Bool) → (b ≡ true → x ≡ true) → cond b x true ≡ true
asked true x h = h refl
asked false x h = refl

answer : (b x : Bool) → b ≡ true → cond b x true ≡ true → x ≡ true
answer true x e f = f
answer false x e f = absurd (not_both e refl)

-- a critical link from a source by its test
pub from_is : (j : ℕ) (k : Link) → k.critical ≡ 1 → 33 ≤ k.from → k.to ≡ j → from_source j k ≡ true
from_is j k e h q =
    both (eqb k.critical 1) (leb 33 k.from && eqb k.to j) (eq-eqb k.critical 1 e)
    (both (leb 33 k.from) (eqb k.to j) (le-leb 33 k.from h) (eq-eqb k.to j q))

pub is_from : (j : ℕ) (k : Link) → from_source j k ≡ true → (k.critical ≡ 1) × (33 ≤ k.from) × (k.to ≡ j)
is_from j k e =
    let r : (leb 33 k.from && eqb k.to j) ≡ true = and_right (eqb k.critical 1) (leb 33 k.from && eqb k.to j) e in
    (eqb-true k.critical 1 (and_left (eqb k.critical 1) (leb 33 k.from && eqb k.to j) e), leb-true 33 k.from (and_left (leb 33 k.from) (eqb k.to j) r), eqb-true k.to j (and_right (leb 33 k.from) (eqb k.to j) r))

module _ (pol : Policy) (d : Description) (gap : ℕ → ℕ) (l : ℕ) where
  -- whether a link of each kind is held
  free_held : (link_at d l).critical ≡ 0 → held_at pol d gap l ≡ true
  unfolding verdict_of
  free_held e = rw (eq-eqb (link_at d l).critical 0 e)

  order_held_lem : (link_at d l).critical ≡ 1 → (link_at d l).from < 33 → held_at pol d gap l ≡ in_order (system d) (link_at d l).from (link_at d l).to
  unfolding verdict_of order_verdict
  order_held_lem e h = rw (ne_eqb (link_at d l).critical 0 (λ z. omega arith), lt-ltb (link_at d l).from 33 h) (go (in_order (system d) (link_at d l).from (link_at d l).to))
    where
      go : (b : Bool) → not (doubtful (cond b HeldOrder DoubtOrder)) ≡ b
      go true = refl
      go false = refl

  pub source_is : (link_at d l).critical ≡ 1 → 33 ≤ (link_at d l).from → verdict_of pol (system d) gap (link_at d l) ≡ source_verdict pol (system d) gap (link_at d l).from (link_at d l).to
  unfolding verdict_of
  source_is e h = rw (ne_eqb (link_at d l).critical 0 (λ z. omega arith), le-ltb (link_at d l).from 33 h)

module _ (pol : Policy) (d : Description) (gap : ℕ → ℕ) where
  -- a level is held where each of its links is
  pub level_of_lem : (j : ℕ) → ((l : ℕ) → l < d.link_count → from_source j (link_at d l) ≡ true → held_at pol d gap l ≡ true) → level_held pol d gap j ≡ true
  unfolding level_held
  level_of_lem j h = all_of _ 0 d.link_count (λ l p q. asked (from_source j (link_at d l)) _ (h l (omega arith)))

  pub level_at : (j l : ℕ) → level_held pol d gap j ≡ true → l < d.link_count → from_source j (link_at d l) ≡ true → held_at pol d gap l ≡ true
  unfolding level_held
  level_at j l e p f = answer (from_source j (link_at d l)) _ f (all_at _ 0 d.link_count e l (omega arith) (omega arith))

-- what all held at a tempo says of the orders and of each level
module _ (pol : Policy) (d : Description) (t : ℕ) where
  held_at_lem : (l : ℕ) → all_held pol d t ≡ true → l < d.link_count → held_at pol d (spacing_of d t) l ≡ true
  unfolding all_held verdict_at
  held_at_lem l e p = all_at _ 0 d.link_count e l (omega arith) (omega arith)

  all_orders : all_held pol d t ≡ true → orders_held d ≡ true
  unfolding orders_held order_held
  all_orders e = all_of _ 0 d.link_count (λ l p q. asked (between_tasks (link_at d l)) _ (λ b. let k = is_between (link_at d l) b in sym (order_held_lem pol d (spacing_of d t) l k.0 k.1) ∙ held_at_lem l e (omega arith)))

  all_level : (j : ℕ) → all_held pol d t ≡ true → level_held pol d (spacing_of d t) j ≡ true
  all_level j e = level_of_lem pol d (spacing_of d t) j (λ l p f. held_at_lem l e p)

  -- and back: the links enter tasks
  pub levels_all : WellFormed d → orders_held d ≡ true → ((j : ℕ) → 1 ≤ j → j ≤ d.task_count → level_held pol d (spacing_of d t) j ≡ true) → all_held pol d t ≡ true
  unfolding all_held verdict_at orders_held order_held system
  levels_all g o h = all_of _ 0 d.link_count (λ l p q. go l (omega arith) (cmp (link_at d l).critical 1) (cmp (link_at d l).from 33))
    where
      source : (l : ℕ) → l < d.link_count → (link_at d l).critical ≡ 1 → 33 ≤ (link_at d l).from → held_at pol d (spacing_of d t) l ≡ true
      source l p c f = level_at pol d (spacing_of d t) (link_at d l).to l (h (link_at d l).to (g.fields.link_to l p).0 (g.fields.link_to l p).1) p (from_is (link_at d l).to (link_at d l) c f refl)

      go : (l : ℕ) → l < d.link_count → Cmp (link_at d l).critical 1 → Cmp (link_at d l).from 33 → held_at pol d (spacing_of d t) l ≡ true
      go l p (less c) f = free_held pol d (spacing_of d t) l (omega arith)
      go l p (same c) (less f) = order_held_lem pol d (spacing_of d t) l c f ∙ answer (between_tasks (link_at d l)) _ (between_is (link_at d l) c f) (all_at _ 0 d.link_count o l (omega arith) (omega arith))
      go l p (same c) (same f) = source l p c (omega arith)
      go l p (same c) (more f) = source l p c (omega arith)
      go l p (more c) f = absurd (omega (arith, g.fields.link_critical l p))

-- held at some spacings, a level is held at wider ones
pub level_wider : (pol : Policy) (d : Description) → WellFormed d → (gap gap' : ℕ → ℕ) (j : ℕ) → Spaced (system d) gap → Wider (system d) gap gap' → level_held pol d gap j ≡ true → level_held pol d gap' j ≡ true
unfolding system
level_wider pol d g gap gap' j s w e =
    level_of_lem pol d gap' j (λ l p f. rw (verdict_wider pol (system d) gap gap' s w (link_at d l) (λ q. from l q (g.fields.link_from l p)) (not-true _ (level_at pol d gap j l e p f))))
  where
    from : (l : ℕ) → 33 ≤ (link_at d l).from → IsTask (system d) (link_at d l).from ⊎ IsSource (system d) (link_at d l).from → gap (link_at d l).from ≤ gap' (link_at d l).from
    from l q (inl x) = absurd (omega (arith, x.1, g.fields.few_tasks))
    from l q (inr x) = w (link_at d l).from x.0 x.1

-- where a level or the orders are not held, not all is
pub not_level : (pol : Policy) (d : Description) (t j : ℕ) → level_held pol d (spacing_of d t) j ≡ false → all_held pol d t ≡ false
not_level pol d t j e = false_of (all_held pol d t) (λ f. not_both (all_level pol d t j f) e)

pub not_orders : (pol : Policy) (d : Description) (t : ℕ) → orders_held d ≡ false → all_held pol d t ≡ false
not_orders pol d t e = false_of (all_held pol d t) (λ f. not_both (all_orders pol d t f) e)

-- The highest awake task, and what the clearing of marks and the rise of ages do to the record. Assumes nothing.
use Prim.Native.Nat.{ℕ, zero, suc, ◌+◌, ◌-◌, ◌≤◌, ◌<◌, min}
use mathlib.Core.Path.{◌≡◌, refl, sym, ◌∙◌}
use mathlib.Core.Bool.{Bool, true, false, ◌||◌, ◌&&◌, not, cond}
use mathlib.Core.List.{List}
use native.Mathlib.Omega.{arith}
use lib.ListN.{get_or, length-set}
use lib.Dec.{ltb, eqb}
use borrow.Author.Tests.{eqb-true, eq-eqb, ne_eqb, lt-ltb, le-ltb}
use Rattle.model.specs.declared.Description.{Description}
use Rattle.model.specs.declared.Machine.{Machine}
use Rattle.model.specs.Basics.{up_to}
use Rattle.model.specs.Graph.{link_at}
use Rattle.model.specs.Machine.{waiting_at, late_at, age_at, longest_gap, highest_in, set_waiting, set_late, clear_link, clear_into, age_one, age_all}
use Rattle.lemmas.proofs.Tests.{Cmp, less, same, more, cmp, and_false_right}
use Rattle.lemmas.proofs.Bools.{and_on, and_not_or, set-false, less_more}
use Rattle.theory.proofs.WellFormed.{WellFormed}
use Rattle.assurance.proofs.Firing.{Sized, less_apart}
use Rattle.lemmas.proofs.Table.{get_d_set}

-- the highest awake task
pub highest_le : (aw : List Bool) (n : ℕ) → highest_in aw n ≤ n
unfolding highest_in
highest_le aw zero = omega arith
highest_le aw (suc n) = go (get_or aw n false) refl (highest_le aw n)
  where
    go : (b : Bool) → get_or aw n false ≡ b → highest_in aw n ≤ n → highest_in aw (suc n) ≤ suc n
    go true e h = rw (e, highest_in) (omega arith)
    go false e h = rw (e, highest_in) (omega arith)

pub highest_above : (aw : List Bool) (n k : ℕ) → highest_in aw n < k → k ≤ n → get_or aw (k - 1) false ≡ false
unfolding highest_in
highest_above aw zero k p q = absurd (omega arith)
highest_above aw (suc n) k p q = go (get_or aw n false) refl (cmp k (suc n)) (highest_above aw n k)
  where
    go : (b : Bool) → get_or aw n false ≡ b → Cmp k (suc n) → (highest_in aw n < k → k ≤ n → get_or aw (k - 1) false ≡ false) → get_or aw (k - 1) false ≡ false
    go true e c h = absurd (omega (arith, rw (e, highest_in) at p))
    go false e (less r) h = h (omega (arith, rw (e, highest_in) at p)) (omega arith)
    go false e (same r) h = let y : k - 1 ≡ n = omega arith in rw y e
    go false e (more r) h = absurd (omega arith)

pub highest_awake : (aw : List Bool) (n : ℕ) → 0 < highest_in aw n → get_or aw (highest_in aw n - 1) false ≡ true
unfolding highest_in
highest_awake aw zero p = absurd (omega arith)
highest_awake aw (suc n) p = go (get_or aw n false) refl (highest_awake aw n)
  where
    go : (b : Bool) → get_or aw n false ≡ b → (0 < highest_in aw n → get_or aw (highest_in aw n - 1) false ≡ true) → get_or aw (highest_in aw (suc n) - 1) false ≡ true
    go true e h = rw (e, highest_in) (let y : suc n - 1 ≡ n = omega arith in rw y e)
    go false e h = rw (e, highest_in) (h (rw (e, highest_in) at p))

-- marks cleared on the links into h among the first n: those that are late stay waiting
pub record Cleared (d : Description) (h n : ℕ) (m m' : Machine) : Type 0 where
  pub sized : Sized m'
  pub awake : m'.awake ≡ m.awake
  pub used : m'.used ≡ m.used
  pub dropped : m'.dropped ≡ m.dropped
  pub ages : m'.ages ≡ m.ages
  pub fastest : m'.fastest ≡ m.fastest
  pub again : m'.again ≡ m.again
  pub waiting : (l : ℕ) → waiting_at m' l ≡ cond (ltb l n && eqb (link_at d l).to h) (late_at m l) (waiting_at m l)
  pub late : (l : ℕ) → late_at m' l ≡ (late_at m l && not (ltb l n && eqb (link_at d l).to h))

-- and on the one at place l
record LinkCleared (d : Description) (h l : ℕ) (m m' : Machine) : Type 0 where
  sized : Sized m'
  awake : m'.awake ≡ m.awake
  used : m'.used ≡ m.used
  dropped : m'.dropped ≡ m.dropped
  ages : m'.ages ≡ m.ages
  fastest : m'.fastest ≡ m.fastest
  again : m'.again ≡ m.again
  waiting : (k : ℕ) → waiting_at m' k ≡ cond (eqb k l && eqb (link_at d l).to h) (late_at m k) (waiting_at m k)
  late : (k : ℕ) → late_at m' k ≡ (late_at m k && not (eqb k l && eqb (link_at d l).to h))

and_idle : (a b c : Bool) → b ≡ false → a ≡ (a && not (c && b))
and_idle a b c e = sym (and_on a _ (rw (and_false_right c b e) refl))

-- two sets of links that are cleared, which are apart
clear_more : (w t a b : Bool) → (a ≡ true → b ≡ true → ⊥) → cond b (t && not a) (cond a t w) ≡ cond (a || b) t w
clear_more w t true true h = absurd (h refl refl)
clear_more w t true false h = refl
clear_more w t false true h = and_on t true refl
clear_more w t false false h = refl

-- ages of the first n sources risen
pub record Aged (d : Description) (n : ℕ) (m m' : Machine) : Type 0 where
  pub sized : Sized m'
  pub awake : m'.awake ≡ m.awake
  pub used : m'.used ≡ m.used
  pub waiting : m'.waiting ≡ m.waiting
  pub dropped : m'.dropped ≡ m.dropped
  pub fastest : m'.fastest ≡ m.fastest
  pub again : m'.again ≡ m.again
  pub late : m'.late ≡ m.late
  pub age : (v : ℕ) → age_at m' v ≡ cond (ltb v n) (min (longest_gap d v) (age_at m v + 1)) (age_at m v)

module _ (d : Description) (wf : WellFormed d) where
  -- what clearing one link leaves
  clear_on : (h l : ℕ) → l < d.link_count → (m : Machine) → Sized m → eqb (link_at d l).to h ≡ true → LinkCleared d h l m (set_late l false (set_waiting l (late_at m l) m))
  clear_on h l p m z e = record {
    sized = record {
      awakes = z.awakes;
      useds = z.useds;
      waitings = length-set m.waiting l (late_at m l) ∙ z.waitings;
      droppeds = z.droppeds;
      ages = z.ages;
      fastests = z.fastests;
      agains = z.agains;
      lates = length-set m.late l false ∙ z.lates;
    };
    awake = refl;
    used = refl;
    dropped = refl;
    ages = refl;
    fastest = refl;
    again = refl;
    waiting = λ k. rw (e, and_on (eqb k l) true refl) (get_d_set m.waiting l (late_at m l) false k (omega (arith, z.waitings, wf.fields.few_links)) ∙ here k (eqb k l) refl);
    late = λ k. rw (e, and_on (eqb k l) true refl) (get_d_set m.late l false false k (omega (arith, z.lates, wf.fields.few_links)) ∙ set-false (eqb k l) (late_at m k));
  }
    where
      here : (k : ℕ) (b : Bool) → eqb k l ≡ b → cond (eqb k l) (late_at m l) (waiting_at m k) ≡ cond (eqb k l) (late_at m k) (waiting_at m k)
      here k true f = rw (eqb-true k l f)
      here k false f = rw f refl

  clear_off : (h l : ℕ) (m : Machine) → Sized m → eqb (link_at d l).to h ≡ false → LinkCleared d h l m m
  clear_off h l m z e = record {
    sized = z;
    awake = refl;
    used = refl;
    dropped = refl;
    ages = refl;
    fastest = refl;
    again = refl;
    waiting = λ k. rw (e, and_false_right (eqb k l) false refl) refl;
    late = λ k. and_idle (late_at m k) _ (eqb k l) e;
  }

  clear_one : (h l : ℕ) → l < d.link_count → (m : Machine) → Sized m → LinkCleared d h l m (clear_link d h l m)
  unfolding clear_link
  clear_one h l p m z = go (eqb (link_at d l).to h) refl
    where
      go : (b : Bool) → eqb (link_at d l).to h ≡ b → LinkCleared d h l m (cond b (set_late l false (set_waiting l (late_at m l) m)) m)
      go true e = clear_on h l p m z e
      go false e = clear_off h l m z e

  cleared_to : (h n : ℕ) → n ≤ d.link_count → (m : Machine) → Sized m → Cleared d h n m (up_to n (clear_link d h) m)
  unfolding up_to
  cleared_to h zero p m z = record {
    sized = z;
    awake = refl;
    used = refl;
    dropped = refl;
    ages = refl;
    fastest = refl;
    again = refl;
    waiting = λ l. rw (le-ltb l 0 (omega arith)) refl;
    late = λ l. rw (le-ltb l 0 (omega arith)) (and_idle (late_at m l) false true refl);
  }
  cleared_to h (suc n) p m z =
      let m₁ : Machine = up_to n (clear_link d h) m in
      let f : Cleared d h n m m₁ = cleared_to h n (omega arith) m z in
      let g : LinkCleared d h n m₁ (clear_link d h n m₁) = clear_one h n (omega arith) m₁ f.sized in
      let into : ℕ → Bool = λ k. eqb (link_at d k).to h in
      record {
        sized = g.sized;
        awake = g.awake ∙ f.awake;
        used = g.used ∙ f.used;
        dropped = g.dropped ∙ f.dropped;
        ages = g.ages ∙ f.ages;
        fastest = g.fastest ∙ f.fastest;
        again = g.again ∙ f.again;
        waiting = λ l. rw (g.waiting l, f.waiting l, f.late l, less_more into l n) (clear_more (waiting_at m l) (late_at m l) (ltb l n && into l) (eqb l n && into n) (less_apart into l n));
        late = λ l. rw (g.late l, f.late l, less_more into l n) (and_not_or (late_at m l) (ltb l n && into l) (eqb l n && into n));
      }

  pub cleared : (h : ℕ) (m : Machine) → Sized m → Cleared d h d.link_count m (clear_into d h m)
  unfolding clear_into
  cleared h m z = cleared_to h d.link_count (omega arith) m z

  aged_to : (n : ℕ) → n ≤ d.source_count → (m : Machine) → Sized m → Aged d n m (up_to n (age_one d) m)
  unfolding up_to age_one
  aged_to zero p m z = record {
    sized = z;
    awake = refl;
    used = refl;
    waiting = refl;
    dropped = refl;
    fastest = refl;
    again = refl;
    late = refl;
    age = λ v. rw (le-ltb v 0 (omega arith)) refl;
  }
  aged_to (suc n) p m z =
      let m₁ : Machine = up_to n (age_one d) m in
      let f : Aged d n m m₁ = aged_to n (omega arith) m z in
      record {
        sized = record {
          awakes = f.sized.awakes;
          useds = f.sized.useds;
          waitings = f.sized.waitings;
          droppeds = f.sized.droppeds;
          ages = length-set m₁.ages n (min (longest_gap d n) (age_at m₁ n + 1)) ∙ f.sized.ages;
          fastests = f.sized.fastests;
          agains = f.sized.agains;
          lates = f.sized.lates;
        };
        awake = f.awake;
        used = f.used;
        waiting = f.waiting;
        dropped = f.dropped;
        fastest = f.fastest;
        again = f.again;
        late = f.late;
        age = λ v. get_d_set m₁.ages n (min (longest_gap d n) (age_at m₁ n + 1)) 0 v (omega (arith, f.sized.ages, wf.fields.few_sources)) ∙ at m₁ v (f.age v) (f.age n) (cmp v n);
      }
    where
      at : (m₁ : Machine) (v : ℕ) → age_at m₁ v ≡ cond (ltb v n) (min (longest_gap d v) (age_at m v + 1)) (age_at m v) → age_at m₁ n ≡ cond (ltb n n) (min (longest_gap d n) (age_at m n + 1)) (age_at m n) → Cmp v n → cond (eqb v n) (min (longest_gap d n) (age_at m₁ n + 1)) (age_at m₁ v) ≡ cond (ltb v (suc n)) (min (longest_gap d v) (age_at m v + 1)) (age_at m v)
      at m₁ v f g (less r) = rw (ne_eqb v n (λ e. omega arith), lt-ltb v (suc n) (omega arith), f, lt-ltb v n r) refl
      at m₁ v f g (same r) = rw (eq-eqb v n r, lt-ltb v (suc n) (omega arith), g, le-ltb n n (omega arith), r) refl
      at m₁ v f g (more r) = rw (ne_eqb v n (λ e. omega arith), le-ltb v (suc n) (omega arith), f, le-ltb v n (omega arith)) refl

  pub aged : (m : Machine) → Sized m → Aged d d.source_count m (age_all d m)
  unfolding age_all
  aged m z = aged_to d.source_count (omega arith) m z

-- Words of bits and the marks they hold: what the end of a run, its beginning and a change of another part do to them. Assumes nothing.
use Prim.Native.Nat.{ℕ, zero, suc, ◌-◌, ◌≤◌, ◌<◌}
use mathlib.Core.Path.{◌≡◌, refl, sym, ap, ◌∙◌}
use mathlib.Core.Bool.{Bool, true, false, ◌||◌, ◌&&◌, not, cond}
use mathlib.Core.List.{List}
use native.Mathlib.Omega.{arith}
use lib.ListN.{get_or, length-set}
use lib.Dec.{eqb, ltb}
use borrow.Author.Tests.{eqb-true, lt-ltb}
use Rattle.model.specs.declared.Description.{Description}
use Rattle.model.specs.declared.Machine.{Machine}
use Rattle.model.specs.Graph.{link_at}
use Rattle.model.specs.Machine.{awake_at, used_at, waiting_at, dropped_at, again_at, late_at, set_used, highest, complete, clear_into}
use Rattle.lemmas.proofs.Tests.{Cmp, less, same, more, cmp, not_both, false_of, and_left, and_right, and_false_right, both, or_left, or_right, or_cases}
use Rattle.lemmas.proofs.Bools.{and_on}
use Rattle.theory.proofs.WellFormed.{WellFormed}
use Rattle.assurance.proofs.Firing.{Sized, get_d_task}
use Rattle.assurance.proofs.Ending.{highest_above, highest_awake, Cleared, cleared, Aged}
use Rattle.sets.specs.declared.wide.Wide.{Wide}
use Rattle.sets.specs.Sets.{member, LastIn}
use Rattle.sets.specs.Wide.{inside}
use Rattle.wiring.specs.declared.Row.{Row}
use Rattle.wiring.specs.Rows.{row_at, RowsOf}
use Rattle.words.specs.declared.Words.{Words}
use Rattle.words.specs.Words.{awake_in, enters, Marks}
use Rattle.steps.specs.Steps.{ended}

-- the run of task h is over: each part of the record that it leaves
pub record Over (d : Description) (h : ℕ) (m m' : Machine) : Type 0 where
  pub sized : Sized m'
  pub used : (k : ℕ) → 1 ≤ k → used_at m' k ≡ cond (eqb k h) 0 (used_at m k)
  pub awake : (k : ℕ) → 1 ≤ k → awake_at m' k ≡ cond (eqb k h) (again_at m h) (awake_at m k)
  pub again : (k : ℕ) → 1 ≤ k → again_at m' k ≡ cond (eqb k h) false (again_at m k)
  pub waiting : (l : ℕ) → waiting_at m' l ≡ cond (ltb l d.link_count && eqb (link_at d l).to h) (late_at m l) (waiting_at m l)
  pub late : (l : ℕ) → late_at m' l ≡ (late_at m l && not (ltb l d.link_count && eqb (link_at d l).to h))
  pub dropped : (l : ℕ) → dropped_at m' l ≡ dropped_at m l

pub over : (d : Description) (h : ℕ) (m : Machine) → WellFormed d → Sized m → 1 ≤ h → h ≤ 32 → Over d h m (ended d h m)
over d h m g z p q =
    let m₁ : Machine = complete h m in
    let z₁ : Sized m₁ = record { awakes = length-set m.awake (h - 1) (again_at m h) ∙ z.awakes; useds = length-set m.used (h - 1) 0 ∙ z.useds; waitings = z.waitings; droppeds = z.droppeds; ages = z.ages; fastests = z.fastests; agains = length-set m.again (h - 1) false ∙ z.agains; lates = z.lates } in
    let c : Cleared d h d.link_count m₁ (clear_into d h m₁) = cleared d g h m₁ z₁ in
    record {
      sized = c.sized;
      used = λ k o. rw c.used (get_d_task m.used h 0 0 k o p (omega (arith, z.useds)));
      awake = λ k o. rw c.awake (get_d_task m.awake h (again_at m h) false k o p (omega (arith, z.awakes)));
      again = λ k o. rw c.again (get_d_task m.again h false false k o p (omega (arith, z.agains)));
      waiting = c.waiting;
      late = c.late;
      dropped = λ l. ap (λ (i : List Bool). get_or i l false) c.dropped;
    }

-- what words say of a task, x telling whether it is h, and of a link, x telling whether it enters h: once a run that began in this tick is over,
slept_awake : (w p x a : Bool) → (x ≡ true → p ≡ false) → (x ≡ true → a ≡ false) → ((w && not x) || p) ≡ cond x a (w || p)
slept_awake w true true a f g = absurd (not_both refl (f refl))
slept_awake true false true a f g = sym (g refl)
slept_awake false false true a f g = sym (g refl)
slept_awake true p false a f g = refl
slept_awake false p false a f g = refl

slept_again : (w p x : Bool) → ((w && not x) && p) ≡ cond x false (w && p)
slept_again true p true = refl
slept_again true p false = refl
slept_again false p true = refl
slept_again false p false = refl

slept_waiting : (f t x a : Bool) → (x ≡ true → t ≡ false) → (x ≡ true → a ≡ false) → ((f && not x) || t) ≡ cond x a (f || t)
slept_waiting = slept_awake

slept_late : (f x e : Bool) → ((f && not x) && e) ≡ (f && e && not x)
slept_late true true true = refl
slept_late true true false = refl
slept_late true false true = refl
slept_late true false false = refl
slept_late false x e = refl

slept_dropped : (d f t x : Bool) → (x ≡ true → t ≡ false) → (d || ((f && not x) && t)) ≡ (d || (f && t))
slept_dropped true f t x g = refl
slept_dropped false true true true g = absurd (not_both refl (g refl))
slept_dropped false true true false g = refl
slept_dropped false true false true g = refl
slept_dropped false true false false g = refl
slept_dropped false false t x g = refl

-- one that began before is over,
done_part : (k : Bool) (u : ℕ) (p : Bool) → p ≡ ltb 0 u → (p && not k) ≡ ltb 0 (cond k 0 u)
done_part true u true e = refl
done_part true u false e = refl
done_part false u true e = e
done_part false u false e = e

done_awake : (w p x a : Bool) → (x ≡ true → a ≡ w) → (w || (p && not x)) ≡ cond x a (w || p)
done_awake true p true a f = sym (f refl)
done_awake false true true a f = sym (f refl)
done_awake false false true a f = sym (f refl)
done_awake true p false a f = refl
done_awake false true false a f = refl
done_awake false false false a f = refl

done_again : (w p x : Bool) → (w && (p && not x)) ≡ cond x false (w && p)
done_again true true true = refl
done_again true true false = refl
done_again true false true = refl
done_again true false false = refl
done_again false p true = refl
done_again false p false = refl

done_enters : (l p q : Bool) → (l && (p && not q)) ≡ (l && p && not (l && q))
done_enters true p q = refl
done_enters false p q = refl

done_late : (f e x : Bool) → (f && (e && not x)) ≡ (f && e && not x)
done_late true e x = refl
done_late false e x = refl

done_dropped : (d f t x : Bool) → ((d || (f && (t && x))) || (f && (t && not x))) ≡ (d || (f && t))
done_dropped true f t x = refl
done_dropped false true true true = refl
done_dropped false true true false = refl
done_dropped false true false x = refl
done_dropped false false t x = refl

-- or one begins that is not over
begun_part : (k : Bool) (u n : ℕ) (p : Bool) → p ≡ ltb 0 u → 0 < n → (p || k) ≡ ltb 0 (cond k n u)
begun_part true u n true e o = sym (lt-ltb 0 n o)
begun_part true u n false e o = sym (lt-ltb 0 n o)
begun_part false u n true e o = e
begun_part false u n false e o = e

begun_awake : (w p x : Bool) → (x ≡ true → (w || p) ≡ true) → ((w && not x) || (p || x)) ≡ (w || p)
begun_awake true true true f = refl
begun_awake true false true f = refl
begun_awake false true true f = refl
begun_awake false false true f = absurd (not_both (f refl) refl)
begun_awake true p false f = refl
begun_awake false true false f = refl
begun_awake false false false f = refl

begun_again : (w p x : Bool) → (x ≡ true → p ≡ false) → ((w && not x) && (p || x)) ≡ (w && p)
begun_again true true true f = absurd (not_both refl (f refl))
begun_again true false true f = refl
begun_again true true false f = refl
begun_again true false false f = refl
begun_again false p x f = refl

begun_waiting : (f t x : Bool) → ((f && not x) || (t || (f && x))) ≡ (f || t)
begun_waiting true true true = refl
begun_waiting true true false = refl
begun_waiting true false true = refl
begun_waiting true false false = refl
begun_waiting false true x = refl
begun_waiting false false x = refl

begun_enters : (l p q : Bool) → (l && (p || q)) ≡ (l && p || (l && q))
begun_enters true p q = refl
begun_enters false p q = refl

begun_late : (f e x : Bool) → (x ≡ true → e ≡ false) → ((f && not x) && (e || x)) ≡ (f && e)
begun_late = begun_again

begun_dropped : (d f t x : Bool) → (x ≡ true → t ≡ false) → (d || ((f && not x) && (t || (f && x)))) ≡ (d || (f && t))
begun_dropped true f t x g = refl
begun_dropped false true true true g = absurd (not_both refl (g refl))
begun_dropped false true false true g = refl
begun_dropped false true true false g = refl
begun_dropped false true false false g = refl
begun_dropped false false t x g = refl

-- task h, the links into it, and the words before and after
module _ (d : Description) (rows : List Row) (h : ℕ) (w w' : Words) (alone : ℕ) (only : (k : ℕ) → member alone k ≡ eqb k h) (m : Machine) (g : WellFormed d) (r : RowsOf d d.link_count rows) (p : 1 ≤ h) (q : h ≤ 32) (H : Marks d w m) where
  abbrev into : Wide
  into = (row_at rows h).into

  -- the link at place l enters h
  abbrev own : ℕ → Bool
  own l = ltb l d.link_count && eqb (link_at d l).to h

  into_is : (l : ℕ) → inside into l ≡ own l
  into_is l = r.into h l

  -- by whether its task is part done
  own_enters : (b : Bool) → member w.part h ≡ b → (l : ℕ) → own l ≡ true → enters d w.part l ≡ b
  own_enters b e l x =
      let y : (link_at d l).to ≡ h = eqb-true (link_at d l).to h (and_right (ltb l d.link_count) _ x) in
      rw (and_left (ltb l d.link_count) _ x, y) e

  abbrev untaken : Type 0
  untaken = (l : ℕ) → own l ≡ true → inside w.taken l ≡ false

  own_untaken : member w.part h ≡ false → untaken
  own_untaken e l x = false_of (inside w.taken l) (λ t. not_both (H.held l t) (own_enters false e l x))

  -- its run began in this tick and is over
  module _ (unused : used_at m h ≡ 0) (a : (k : ℕ) → member w'.woken k ≡ (member w.woken k && not (member alone k))) (b : (l : ℕ) → inside w'.fresh l ≡ (inside w.fresh l && not (inside into l))) (same : (w'.part ≡ w.part) × (w'.taken ≡ w.taken) × (w'.dropped ≡ w.dropped)) where
    off : member w.part h ≡ false
    off = H.part h p ∙ ap (ltb 0) unused

    off_at : (k : ℕ) → eqb k h ≡ true → member w.part k ≡ false
    off_at k e = ap (member w.part) (eqb-true k h e) ∙ off

    asleep : again_at m h ≡ false
    asleep = sym (H.again h p) ∙ and_false_right (member w.woken h) _ off

    left : (k : ℕ) → awake_in w' k ≡ true → awake_in w k ≡ true
    left k y = or_cases (member w'.woken k) (member w'.part k) y (λ x. or_left (member w.woken k) _ (and_left (member w.woken k) _ (sym (a k) ∙ x))) (λ x. or_right (member w.woken k) _ (ap (λ s. member s k) (sym same.0) ∙ x))

    pub marks_slept : Marks d w' (ended d h m)
    marks_slept =
        let c : Over d h m (ended d h m) = over d h m g H.sized p q in
        record {
          sized = c.sized;
          no_zero = false_of (awake_in w' 0) (λ y. not_both (left 0 y) H.no_zero);
          present = λ k y. H.present k (left k y);
          part = λ k y. ap (λ s. member s k) same.0 ∙ none k y (eqb k h) refl ∙ sym (ap (ltb 0) (c.used k y));
          awake = λ k y. rw (a k, only k, same.0) (slept_awake (member w.woken k) (member w.part k) (eqb k h) (again_at m h) (off_at k) (λ x. asleep) ∙ ap (cond (eqb k h) (again_at m h)) (H.awake k y) ∙ sym (c.awake k y));
          again = λ k y. rw (a k, only k, same.0) (slept_again (member w.woken k) (member w.part k) (eqb k h) ∙ ap (cond (eqb k h) false) (H.again k y) ∙ sym (c.again k y));
          waiting = λ l. rw (b l, into_is l, same.1) (slept_waiting (inside w.fresh l) (inside w.taken l) (own l) (late_at m l) (own_untaken off l) (λ x. sym (H.late l) ∙ and_false_right (inside w.fresh l) _ (own_enters false off l x)) ∙ ap (cond (own l) (late_at m l)) (H.waiting l) ∙ sym (c.waiting l));
          late = λ l. rw (b l, into_is l, same.0) (slept_late (inside w.fresh l) (own l) (enters d w.part l) ∙ ap (λ i. i && not (own l)) (H.late l) ∙ sym (c.late l));
          dropped = λ l. rw (b l, into_is l, same.1, same.2) (slept_dropped (inside w.dropped l) (inside w.fresh l) (inside w.taken l) (own l) (own_untaken off l) ∙ H.dropped l ∙ sym (c.dropped l));
          held = λ l y. rw same.0 (H.held l (rw same.1 at y));
        }
      where
        none : (k : ℕ) → 1 ≤ k → (x : Bool) → eqb k h ≡ x → member w.part k ≡ ltb 0 (cond (eqb k h) 0 (used_at m k))
        none k y true e = rw e (off_at k e)
        none k y false e = rw e (H.part k y)

  -- its run began before and is over
  module _ (some : 0 < used_at m h) (a : (k : ℕ) → member w'.part k ≡ (member w.part k && not (member alone k))) (b : (l : ℕ) → inside w'.taken l ≡ (inside w.taken l && not (inside into l))) (e : (l : ℕ) → inside w'.dropped l ≡ (inside w.dropped l || (inside w.fresh l && (inside w.taken l && inside into l)))) (same : (w'.woken ≡ w.woken) × (w'.fresh ≡ w.fresh)) where
    on : member w.part h ≡ true
    on = H.part h p ∙ lt-ltb 0 (used_at m h) some

    woken_again : (k : ℕ) → eqb k h ≡ true → again_at m h ≡ member w.woken k
    woken_again k x = sym (H.again h p) ∙ and_on (member w.woken h) _ on ∙ ap (member w.woken) (sym (eqb-true k h x))

    rest : (k : ℕ) → awake_in w' k ≡ true → awake_in w k ≡ true
    rest k y = or_cases (member w'.woken k) (member w'.part k) y (λ x. or_left (member w.woken k) _ (ap (λ s. member s k) (sym same.0) ∙ x)) (λ x. or_right (member w.woken k) _ (and_left (member w.part k) _ (sym (a k) ∙ x)))

    enters_rest : (l : ℕ) → enters d w'.part l ≡ (enters d w.part l && not (own l))
    enters_rest l = rw (a (link_at d l).to, only (link_at d l).to) (done_enters (ltb l d.link_count) (member w.part (link_at d l).to) (eqb (link_at d l).to h))

    pub marks_completed : Marks d w' (ended d h m)
    marks_completed =
        let c : Over d h m (ended d h m) = over d h m g H.sized p q in
        record {
          sized = c.sized;
          no_zero = false_of (awake_in w' 0) (λ y. not_both (rest 0 y) H.no_zero);
          present = λ k y. H.present k (rest k y);
          part = λ k y. a k ∙ rw (only k) (done_part (eqb k h) (used_at m k) (member w.part k) (H.part k y)) ∙ sym (ap (ltb 0) (c.used k y));
          awake = λ k y. rw (same.0, a k, only k) (done_awake (member w.woken k) (member w.part k) (eqb k h) (again_at m h) (woken_again k) ∙ ap (cond (eqb k h) (again_at m h)) (H.awake k y) ∙ sym (c.awake k y));
          again = λ k y. rw (same.0, a k, only k) (done_again (member w.woken k) (member w.part k) (eqb k h) ∙ ap (cond (eqb k h) false) (H.again k y) ∙ sym (c.again k y));
          waiting = λ l. rw (same.1, b l, into_is l) (done_awake (inside w.fresh l) (inside w.taken l) (own l) (late_at m l) (λ x. sym (H.late l) ∙ and_on (inside w.fresh l) _ (own_enters true on l x)) ∙ ap (cond (own l) (late_at m l)) (H.waiting l) ∙ sym (c.waiting l));
          late = λ l. rw (same.1, enters_rest l) (done_late (inside w.fresh l) (enters d w.part l) (own l) ∙ ap (λ i. i && not (own l)) (H.late l) ∙ sym (c.late l));
          dropped = λ l. rw (same.1, b l, e l, into_is l) (done_dropped (inside w.dropped l) (inside w.fresh l) (inside w.taken l) (own l) ∙ H.dropped l ∙ sym (c.dropped l));
          held = λ l y. enters_rest l ∙ both (enters d w.part l) _ (H.held l (and_left (inside w.taken l) _ (sym (b l) ∙ y))) (ap not (sym (into_is l)) ∙ and_right (inside w.taken l) _ (sym (b l) ∙ y));
        }

  -- its run begins and is not over
  module _ (n : ℕ) (unused : used_at m h ≡ 0) (wakes : awake_at m h ≡ true) (grows : 0 < n) (a : (k : ℕ) → member w'.woken k ≡ (member w.woken k && not (member alone k))) (c : (k : ℕ) → member w'.part k ≡ (member w.part k || eqb k h)) (b : (l : ℕ) → inside w'.fresh l ≡ (inside w.fresh l && not (inside into l))) (t : (l : ℕ) → inside w'.taken l ≡ (inside w.taken l || (inside w.fresh l && inside into l))) (same : w'.dropped ≡ w.dropped) where
    fresh_off : member w.part h ≡ false
    fresh_off = H.part h p ∙ ap (ltb 0) unused

    used_now : (k : ℕ) → 1 ≤ k → used_at (set_used h n m) k ≡ cond (eqb k h) n (used_at m k)
    used_now k y = get_d_task m.used h n 0 k y p (omega (arith, H.sized.useds))

    woken_h : (k : ℕ) → eqb k h ≡ true → awake_in w k ≡ true
    woken_h k x = ap (awake_in w) (eqb-true k h x) ∙ H.awake h p ∙ wakes

    awake_same : (k : ℕ) → awake_in w' k ≡ awake_in w k
    awake_same k = rw (a k, only k, c k) (begun_awake (member w.woken k) (member w.part k) (eqb k h) (woken_h k))

    enters_more : (l : ℕ) → enters d w'.part l ≡ (enters d w.part l || own l)
    enters_more l = rw (c (link_at d l).to) (begun_enters (ltb l d.link_count) (member w.part (link_at d l).to) (eqb (link_at d l).to h))

    pub marks_started : Marks d w' (set_used h n m)
    marks_started = record {
      sized = record { awakes = H.sized.awakes; useds = length-set m.used (h - 1) n ∙ H.sized.useds; waitings = H.sized.waitings; droppeds = H.sized.droppeds; ages = H.sized.ages; fastests = H.sized.fastests; agains = H.sized.agains; lates = H.sized.lates };
      no_zero = awake_same 0 ∙ H.no_zero;
      present = λ k y. H.present k (sym (awake_same k) ∙ y);
      part = λ k y. c k ∙ begun_part (eqb k h) (used_at m k) n (member w.part k) (H.part k y) grows ∙ sym (ap (ltb 0) (used_now k y));
      awake = λ k y. awake_same k ∙ H.awake k y;
      again = λ k y. rw (a k, only k, c k) (begun_again (member w.woken k) (member w.part k) (eqb k h) (λ x. ap (member w.part) (eqb-true k h x) ∙ fresh_off) ∙ H.again k y);
      waiting = λ l. rw (b l, t l, into_is l) (begun_waiting (inside w.fresh l) (inside w.taken l) (own l) ∙ H.waiting l);
      late = λ l. rw (b l, into_is l, enters_more l) (begun_late (inside w.fresh l) (enters d w.part l) (own l) (own_enters false fresh_off l) ∙ H.late l);
      dropped = λ l. rw (b l, t l, into_is l, same) (begun_dropped (inside w.dropped l) (inside w.fresh l) (inside w.taken l) (own l) (own_untaken fresh_off l) ∙ H.dropped l);
      held = λ l y. enters_more l ∙ or_cases (inside w.taken l) (inside w.fresh l && inside into l) (sym (t l) ∙ y) (λ x. or_left (enters d w.part l) _ (H.held l x)) (λ x. or_right (enters d w.part l) _ (sym (into_is l) ∙ and_right (inside w.fresh l) _ x));
    }

-- a run that began before goes on
pub marks_more : (d : Description) (w : Words) (m : Machine) (h n : ℕ) → 1 ≤ h → h ≤ 32 → 0 < used_at m h → 0 < n → Marks d w m → Marks d w (set_used h n m)
marks_more d w m h n p q some grows H = record {
  sized = record { awakes = H.sized.awakes; useds = length-set m.used (h - 1) n ∙ H.sized.useds; waitings = H.sized.waitings; droppeds = H.sized.droppeds; ages = H.sized.ages; fastests = H.sized.fastests; agains = H.sized.agains; lates = H.sized.lates };
  no_zero = H.no_zero;
  present = H.present;
  part = λ k y. H.part k y ∙ by k (eqb k h) refl ∙ sym (ap (ltb 0) (get_d_task m.used h n 0 k y p (omega (arith, H.sized.useds))));
  awake = H.awake;
  again = H.again;
  waiting = H.waiting;
  late = H.late;
  dropped = H.dropped;
  held = H.held;
}
  where
    by : (k : ℕ) (x : Bool) → eqb k h ≡ x → ltb 0 (used_at m k) ≡ ltb 0 (cond (eqb k h) n (used_at m k))
    by k true e = rw (e, eqb-true k h e) (lt-ltb 0 (used_at m h) some ∙ sym (lt-ltb 0 n grows))
    by k false e = rw e refl

-- the same marks in a record that differs otherwise
pub marks_aged : (d : Description) (n : ℕ) (w : Words) (m m' : Machine) → Aged d n m m' → Marks d w m → Marks d w m'
marks_aged d n w m m' f h = record {
  sized = f.sized;
  no_zero = h.no_zero;
  present = h.present;
  part = λ k p. rw f.used (h.part k p);
  awake = λ k p. rw f.awake (h.awake k p);
  again = λ k p. rw f.again (h.again k p);
  waiting = λ l. rw f.waiting (h.waiting l);
  late = λ l. rw f.late (h.late l);
  dropped = λ l. rw f.dropped (h.dropped l);
  held = h.held;
}

-- the highest awake task is the greatest member, and there is none without members
awake_one : (d : Description) (w : Words) (m : Machine) → Marks d w m → 0 < highest d m → awake_in w (highest d m) ≡ true
awake_one d w m h p = h.awake (highest d m) (omega arith) ∙ highest_awake m.awake d.task_count p

pub highest_is : (d : Description) (w : Words) (m : Machine) (awake k : ℕ) → Marks d w m → ((j : ℕ) → member awake j ≡ awake_in w j) → LastIn awake k → highest d m ≡ k
highest_is d w m awake k h same_set f = go (cmp (highest d m) k)
  where
    in_words : (j : ℕ) → member awake j ≡ true → awake_in w j ≡ true
    in_words j e = sym (same_set j) ∙ e

    some : 1 ≤ k
    some = at k (in_words k f.in_set)
      where
        at : (k : ℕ) → awake_in w k ≡ true → 1 ≤ k
        at zero e = absurd (not_both e h.no_zero)
        at (suc k) e = omega arith

    go : Cmp (highest d m) k → highest d m ≡ k
    go (less p) = absurd (not_both (sym (h.awake k some) ∙ in_words k f.in_set) (highest_above m.awake d.task_count k p (h.present k (in_words k f.in_set))))
    go (same p) = p
    go (more p) = absurd (not_both (same_set (highest d m) ∙ awake_one d w m h (omega arith)) (f.none_after (highest d m) p))

pub highest_none : (d : Description) (w : Words) (m : Machine) → Marks d w m → ((j : ℕ) → awake_in w j ≡ false) → highest d m ≡ 0
highest_none d w m h none = go (highest d m) refl
  where
    go : (k : ℕ) → highest d m ≡ k → highest d m ≡ 0
    go zero q = q
    go (suc k) q = absurd (not_both (awake_one d w m h (omega arith)) (none (highest d m)))

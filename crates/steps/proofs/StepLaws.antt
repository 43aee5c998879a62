-- One step of a tick on the words and on the record that they hold. Assumes nothing.
use Prim.Native.Nat.{ℕ, zero, suc, ◌+◌, ◌-◌, ◌≤◌, ◌<◌, min}
use mathlib.Core.Path.{◌≡◌, refl, sym, ap, subst, ◌∙◌}
use mathlib.Core.Bool.{Bool, true, false, ◌||◌, not, cond}
use mathlib.Core.List.{List}
use native.Mathlib.Omega.{arith}
use lib.ListN.{get_or, set, length, length-set}
use lib.Seq.{get_or-set_same, ext_get_or}
use lib.Dec.{eqb}
use borrow.Author.Tests.{eqb-true, eqb-false, eq-eqb, ne_eqb, lt-ltb, le-ltb}
use Rattle.model.specs.declared.Description.{Description}
use Rattle.model.specs.declared.Policy.{Policy}
use Rattle.model.specs.declared.Machine.{Machine}
use Rattle.model.specs.Graph.{run_of}
use Rattle.model.specs.Machine.{awake_at, used_at, again_at, age_at, longest_gap, set_used, fire, run_task, complete, clear_into, end_run, age_all}
use Rattle.theory.proofs.WellFormed.{WellFormed}
use Rattle.lemmas.proofs.Tests.{or_left, or_false_left}
use Rattle.assurance.proofs.Firing.{Sized, Fired, fired, get_d_task}
use Rattle.assurance.proofs.Ending.{Cleared, cleared, Aged, aged}
use Rattle.sets.specs.Sets.{member}
use Rattle.words.specs.declared.Words.{Words}
use Rattle.words.specs.Words.{awake_in, Marks, Ages, Holds, Goes}
use Rattle.steps.specs.Steps.{Chosen, ended, worked, RunsIn}
use Rattle.words.proofs.WordLaws.{SameMarks, marks_same}
use Rattle.steps.proofs.MarkLaws.{marks_aged}
use Rattle.steps.proofs.ChoiceLaws.{choose_is, choose_none, chosen_awake}
use Rattle.lemmas.proofs.Bools.{and_off}
use Rattle.lemmas.proofs.Table.{get_d_set, set_twice}

-- ages beside other parts
pub ages_same : (d : Description) (now : ℕ) (since : List ℕ) (m m' : Machine) → m'.ages ≡ m.ages → Ages d now since m → Ages d now since m'
ages_same d now since m m' e h = record {
  many = h.many;
  before = h.before;
  here = λ u p. ap (λ (l : List ℕ). get_or l u 0) e ∙ h.here u p;
  past = λ u p. ap (λ (l : List ℕ). get_or l u 0) e ∙ h.past u p;
}

-- the task that runs, or none
run_none : (m : Machine) → run_task 0 m ≡ m
unfolding run_task
run_none m = refl

run_on : (h : ℕ) (m : Machine) → 1 ≤ h → run_task h m ≡ set_used h (used_at m h + 1) m
unfolding run_task
run_on h m p = rw (ne_eqb h 0 (λ e. omega arith)) refl

end_none : (d : Description) (finish : Bool) (m : Machine) → end_run d 0 finish m ≡ m
unfolding end_run
end_none d finish m = refl

end_off : (d : Description) (h : ℕ) (finish : Bool) (m : Machine) → (eqb (used_at m h) (run_of d h) || finish) ≡ false → end_run d h finish m ≡ m
unfolding end_run
end_off d h finish m e = rw (e, and_off (not (eqb h 0))) refl

end_on : (d : Description) (h : ℕ) (finish : Bool) (m : Machine) → 1 ≤ h → (eqb (used_at m h) (run_of d h) || finish) ≡ true → end_run d h finish m ≡ fire d h (ended d h m)
unfolding end_run
end_on d h finish m p e = rw (e, ne_eqb h 0 (λ z. omega arith)) refl

-- a number stored where it stands
pub set_same : (l : List ℕ) (i x : ℕ) → i < length l → get_or l i 0 ≡ x → l ≡ set l i x
set_same l i x p e = ext_get_or 0 l (set l i x) (sym (length-set l i x)) (λ k q. sym (get_d_set l i x 0 k p ∙ at k (eqb k i) refl))
  where
    at : (k : ℕ) (b : Bool) → eqb k i ≡ b → cond (eqb k i) x (get_or l k 0) ≡ get_or l k 0
    at k true f = rw (f, eqb-true k i f) (sym e)
    at k false f = rw f refl

-- a task that has used something
pub positive : (spent x : ℕ) → x ≡ spent → (spent ≡ 0 → ⊥) → 0 < x
positive zero x e n = absurd (n refl)
positive (suc k) x e n = omega arith

pub work_none : (p : Policy) (d : Description) (w : Words) (used since : List ℕ) (finish : Bool) (m : Machine) → WellFormed d → (0 < w.running → awake_in w w.running ≡ true) → ((k : ℕ) → awake_in w k ≡ false) → Goes p w.running used → Holds d w used since m → Holds d w used since (worked p d finish m)
work_none p d w used since finish m g going e r h =
    let q : worked p d finish m ≡ m = ap (λ k. end_run d k finish (run_task k m)) (choose_none p d w used since m g r h going e) ∙ ap (end_run d 0 finish) (run_none m) ∙ end_none d finish m in
    subst (λ (k : Machine). Holds d w used since k) (sym q) h

-- a run that is over, whatever it has used
ended_any : (d : Description) (h more : ℕ) (m : Machine) → ended d h (set_used h more m) ≡ ended d h m
ended_any d h more m = ap (λ (us : List ℕ). clear_into d h (record { awake = set m.awake (h - 1) (again_at m h); used = us; waiting = m.waiting; dropped = m.dropped; ages = m.ages; fastest = m.fastest; again = set m.again (h - 1) false; late = m.late })) (set_twice m.used (h - 1) more 0)

-- h is the task that runs, which had used so much before
module _ (pol : Policy) (d : Description) (w : Words) (used since runs : List ℕ) (finish : Bool) (m : Machine) (g : WellFormed d) (s : RunsIn d runs) (going : 0 < w.running → awake_in w w.running ≡ true) (r : Goes pol w.running used) (H : Holds d w used since m) (awake : ℕ) (set_is : (k : ℕ) → member awake k ≡ awake_in w k) (h : ℕ) (l : Chosen w.running awake h) (p : 1 ≤ h) (q : h ≤ 32) where
  abbrev spent : ℕ
  spent = get_or used (h - 1) 0

  abbrev more : ℕ
  more = spent + 1

  pub spent_is : used_at m h ≡ spent
  spent_is = sym (ap (λ (us : List ℕ). get_or us (h - 1) 0) H.same_used)

  pub awake_is : awake_at m h ≡ true
  awake_is = sym (H.marks.awake h p) ∙ sym (set_is h) ∙ chosen_awake w.running awake h (λ o. set_is w.running ∙ going o) l

  here : h ≤ d.task_count
  here = H.marks.present h (H.marks.awake h p ∙ awake_is)

  ran_is : run_task h m ≡ set_used h more m
  ran_is = run_on h m p ∙ ap (λ x. set_used h (x + 1) m) spent_is

  work_is : worked pol d finish m ≡ end_run d h finish (set_used h more m)
  work_is = ap (λ k. end_run d k finish (run_task k m)) (choose_is pol d w used since m g r H going awake h set_is l) ∙ ap (end_run d h finish) ran_is

  run_is : get_or runs (h - 1) 0 ≡ run_of d h
  run_is = s (h - 1) (omega arith)

  test_is : (eqb more (get_or runs (h - 1) 0) || finish) ≡ (eqb (used_at (set_used h more m) h) (run_of d h) || finish)
  test_is = rw (run_is, get_or-set_same m.used (h - 1) more 0 (omega (arith, H.marks.sized.useds))) refl

  -- a run of one tick at the most has used nothing, and ends
  pub single_spent : get_or runs (h - 1) 0 ≡ 1 → spent ≡ 0
  single_spent e = omega (arith, H.below h p here, spent_is, run_is)

  pub single_ends : get_or runs (h - 1) 0 ≡ 1 → (eqb more (get_or runs (h - 1) 0) || finish) ≡ true
  single_ends e = or_left (eqb more (get_or runs (h - 1) 0)) finish (eq-eqb more (get_or runs (h - 1) 0) (omega (arith, single_spent e)))

  below_else : (us : List ℕ) (x : ℕ) → us ≡ set m.used (h - 1) x → x < run_of d h → (k : ℕ) → 1 ≤ k → k ≤ d.task_count → get_or us (k - 1) 0 < run_of d k
  below_else us x e b k o t = rw (e, get_d_task m.used h x 0 k o p (omega (arith, H.marks.sized.useds))) (by (eqb k h) refl)
    where
      by : (c : Bool) → eqb k h ≡ c → cond (eqb k h) x (used_at m k) < run_of d k
      by true f = rw (f, eqb-true k h f) b
      by false f = rw f (H.below k o t)

  -- it goes on
  pub work_on : (w' : Words) → Marks d w' (set_used h more m) → w'.tick ≡ w.tick → (eqb more (get_or runs (h - 1) 0) || finish) ≡ false → Holds d w' (set used (h - 1) more) since (worked pol d finish m)
  work_on w' marks n f =
      let ne : more ≡ get_or runs (h - 1) 0 → ⊥ = eqb-false more (get_or runs (h - 1) 0) (or_false_left (eqb more (get_or runs (h - 1) 0)) finish f) in
      subst (λ (k : Machine). Holds d w' (set used (h - 1) more) since k) (sym (work_is ∙ end_off d h finish (set_used h more m) (sym test_is ∙ f)))
      (record {
        marks = marks;
        same_used = ap (λ (us : List ℕ). set us (h - 1) more) H.same_used;
        below = below_else (set m.used (h - 1) more) more refl (omega (arith, H.below h p here, spent_is, run_is));
        ages = subst (λ i. Ages d i since (set_used h more m)) (sym n) (ages_same d w.tick since m (set_used h more m) refl H.ages);
      })

  -- it is over
  pub work_over : (w₁ w₂ : Words) (used' : List ℕ) → used' ≡ set used (h - 1) 0 → (eqb more (get_or runs (h - 1) 0) || finish) ≡ true → Marks d w₁ (ended d h m) → ((k : Machine) → Marks d w₁ k → Marks d w₂ (fire d h k)) → w₂.tick ≡ w.tick → Holds d w₂ used' since (worked pol d finish m)
  work_over w₁ w₂ used' e f over fires n =
      let m₁ : Machine = complete h m in
      let z₁ : Sized m₁ = record { awakes = length-set m.awake (h - 1) (again_at m h) ∙ H.marks.sized.awakes; useds = length-set m.used (h - 1) 0 ∙ H.marks.sized.useds; waitings = H.marks.sized.waitings; droppeds = H.marks.sized.droppeds; ages = H.marks.sized.ages; fastests = H.marks.sized.fastests; agains = length-set m.again (h - 1) false ∙ H.marks.sized.agains; lates = H.marks.sized.lates } in
      let c : Cleared d h d.link_count m₁ (ended d h m) = cleared d g h m₁ z₁ in
      let f₂ : Fired d h d.link_count (ended d h m) (fire d h (ended d h m)) = fired d g h (ended d h m) c.sized in
      subst (λ (k : Machine). Holds d w₂ used' since k) (sym (work_is ∙ end_on d h finish (set_used h more m) p (sym test_is ∙ f) ∙ ap (fire d h) (ended_any d h more m)))
      (record {
        marks = fires (ended d h m) over;
        same_used = e ∙ ap (λ (us : List ℕ). set us (h - 1) 0) H.same_used ∙ sym (f₂.used ∙ c.used);
        below = below_else (fire d h (ended d h m)).used 0 (f₂.used ∙ c.used) (omega (arith, g.fields.run_some h p here));
        ages = subst (λ i. Ages d i since (fire d h (ended d h m))) (sym n) (ages_same d w.tick since m (fire d h (ended d h m)) (f₂.ages ∙ c.ages) H.ages);
      })

-- step 4: one tick more has passed
module _ (d : Description) (w w' : Words) (used since : List ℕ) (m : Machine) (g : WellFormed d) (same : SameMarks w w') (n : w'.tick ≡ w.tick + 1) (h : Holds d w used since m) where
  f : Aged d d.source_count m (age_all d m)
  f = aged d g m h.marks.sized

  later : (u : ℕ) → u < d.source_count → age_at (age_all d m) u ≡ min (longest_gap d u) (w'.tick - get_or since u 0)
  later u p =
      let e : age_at (age_all d m) u ≡ min (longest_gap d u) (age_at m u + 1) = f.age u ∙ rw (lt-ltb u d.source_count p) refl in
      omega (arith, h.ages.here u p, h.ages.before u p)

  pub passes : Holds d w' used since (age_all d m)
  passes = record {
    marks = marks_same d w w' (age_all d m) same (marks_aged d d.source_count w m (age_all d m) f h.marks);
    same_used = h.same_used ∙ sym f.used;
    below = λ k o t. rw f.used (h.below k o t);
    ages = record {
      many = h.ages.many;
      before = λ u p. omega (arith, h.ages.before u p);
      here = later;
      past = λ u p. f.age u ∙ rw (le-ltb u d.source_count p) (h.ages.past u p);
    };
  }

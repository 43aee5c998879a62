-- What one tick does to each part of the machine's record. Assumes nothing.
use Prim.Native.Nat.{ℕ, zero, suc, ◌+◌, ◌-◌, ◌≤◌, ◌<◌, min}
use mathlib.Core.Path.{◌≡◌, refl, sym, ap, ◌∙◌}
use mathlib.Core.Bool.{Bool, true, false, ◌||◌, ◌&&◌, not, cond}
use mathlib.Core.List.{List}
use mathlib.Core.Logic.{◌⊎◌, inl, inr}
use native.Mathlib.Omega.{arith}
use native.Mathlib.Numerals.{add-one}
use lib.ListN.{length, get_or, set, length-set}
use lib.Seq.{get_or-set_same}
use lib.Dec.{ltb, eqb}
use borrow.Author.Tests.{eqb-true, ne_eqb, lt-ltb, le-ltb}
use Rattle.model.specs.declared.Description.{Description}
use Rattle.model.specs.declared.Policy.{Policy}
use Rattle.model.specs.declared.Machine.{Machine}
use Rattle.model.specs.Graph.{link_at, linked, run_of}
use Rattle.model.specs.Machine.{awake_at, used_at, waiting_at, dropped_at, age_at, fastest_at, again_at, late_at, longest_gap, set_used, complete, fire, arrive, choose, run_task, clear_into, end_run, age_all, kept_after, keep, stepped}
use Rattle.lemmas.proofs.Tests.{not_both, and_left, and_right, or_right}
use Rattle.lemmas.proofs.Bools.{or_off, or_idle_right, and_on, set-false}
use Rattle.lemmas.proofs.Table.{length-tab, get_d_tab}
use Rattle.theory.proofs.WellFormed.{WellFormed}
use Rattle.assurance.proofs.Firing.{Sized, Fired, fired, fired_past, get_d_task}
use Rattle.assurance.proofs.Arriving.{comes, Arrived, arrived}
use Rattle.assurance.proofs.Choosing.{chosen_le}
use Rattle.assurance.proofs.Ending.{Cleared, cleared, Aged, aged}

-- What is set once the run of a task has gone on: a task awake, or a link waiting. Set before it; marked late, as a task is by again; whether the run
-- ended; whether it was this task's, or the link's task's; whether the one that ended has a link to this task, or this link
abbrev pub set_after : Bool → Bool → Bool → Bool → Bool → Bool
set_after m g o e l = cond (o && e) g m || (o && l)

-- and what is marked late then, u saying whether the task is part done
abbrev pub late_after : Bool → Bool → Bool → Bool → Bool → Bool
late_after g o e l u = (g && not (o && e)) || ((o && l) && u)

pub after_stays : (m g o e l : Bool) → m ≡ true → (o ≡ true → e ≡ true → ⊥) → set_after m g o e l ≡ true
after_stays true g true true l p q = absurd (q refl refl)
after_stays true g true false l p q = refl
after_stays true g false e l p q = refl
after_stays false g o e l p q = absurd (not_both p refl)

pub after_late : (m g o e l : Bool) → g ≡ true → o ≡ true → e ≡ true → set_after m g o e l ≡ true
after_late m g o e l p q r = rw (p, q, r) refl

pub after_wakes : (m g o e l : Bool) → set_after m g o e l ≡ true → ((m ≡ true) × (o ≡ true → e ≡ false)) ⊎ (((g ≡ true) × (o ≡ true) × (e ≡ true)) ⊎ ((o ≡ true) × (l ≡ true)))
after_wakes m true true true l p = inr (inl (refl, refl, refl))
after_wakes m false true true l p = inr (inr (refl, p))
after_wakes true g true false l p = inl (refl, λ x. refl)
after_wakes false g true false l p = inr (inr (refl, p))
after_wakes true g false e l p = inl (refl, λ x. absurd (not_both x refl))
after_wakes false g false e l p = absurd (not_both p refl)

pub after_fires : (m g o e l : Bool) → o ≡ true → l ≡ true → set_after m g o e l ≡ true
after_fires m g o e l p q = rw (p, q) (or_right (cond e g m) true refl)

pub after_on : (m g o e l : Bool) → o ≡ false → set_after m g o e l ≡ m
after_on m g o e l p = rw p (or_off m)

pub late_stays : (g o e l u : Bool) → g ≡ true → (o ≡ true → e ≡ true → ⊥) → late_after g o e l u ≡ true
late_stays g true true l u p q = absurd (q refl refl)
late_stays g true false l u p q = rw p refl
late_stays g false e l u p q = rw p refl

pub late_from : (g o e l u : Bool) → late_after g o e l u ≡ true → ((g ≡ true) × (o ≡ true → e ≡ false)) ⊎ ((o ≡ true) × (l ≡ true) × (u ≡ true))
late_from true true true l u p = inr (refl, and_left l u p, and_right l u p)
late_from true true false l u p = inl (refl, λ x. refl)
late_from true false e l u p = inl (refl, λ x. absurd (not_both x refl))
late_from false true e l u p = inr (refl, and_left l u p, and_right l u p)
late_from false false e l u p = absurd (not_both p refl)

pub late_fires : (g o e l u : Bool) → o ≡ true → l ≡ true → u ≡ true → late_after g o e l u ≡ true
late_fires g o e l u p q r = rw (p, q, r) (or_right (g && not e) true refl)

-- whether the run of h ends in a tick that finds the record m
abbrev pub over_at : Description → ℕ → Bool → Machine → Bool
over_at d h finish m = not (eqb h 0) && (eqb (used_at m h + 1) (run_of d h) || finish)

-- what became of the record m by a tick of h's run, o saying whether the run ended
pub record Ran (d : Description) (h : ℕ) (o : Bool) (m m' : Machine) : Type 0 where
  pub sized : Sized m'
  pub ages : m'.ages ≡ m.ages
  pub fastest : m'.fastest ≡ m.fastest
  pub awake : (k : ℕ) → 1 ≤ k → awake_at m' k ≡ set_after (awake_at m k) (again_at m k) o (eqb k h) (linked d h k)
  pub used : (k : ℕ) → 1 ≤ k → used_at m' k ≡ cond (eqb k h) (cond o 0 (suc (used_at m k))) (used_at m k)
  pub waiting : (l : ℕ) → l < d.link_count → waiting_at m' l ≡ set_after (waiting_at m l) (late_at m l) o (eqb (link_at d l).to h) (eqb (link_at d l).from h)
  pub dropped : (l : ℕ) → l < d.link_count → dropped_at m' l ≡ (dropped_at m l || (cond (o && eqb (link_at d l).to h) (late_at m l) (waiting_at m l) && (o && eqb (link_at d l).from h)))
  pub again : (k : ℕ) → 1 ≤ k → again_at m' k ≡ late_after (again_at m k) o (eqb k h) (linked d h k) (ltb 0 (used_at m' k))
  pub late : (l : ℕ) → l < d.link_count → late_at m' l ≡ late_after (late_at m l) o (eqb (link_at d l).to h) (eqb (link_at d l).from h) (ltb 0 (used_at m' (link_at d l).to))
  pub past : (l : ℕ) → d.link_count ≤ l → (waiting_at m' l ≡ waiting_at m l) × (dropped_at m' l ≡ dropped_at m l) × (late_at m' l ≡ late_at m l)

unchanged : (b : Bool) → b ≡ (b && true || false)
unchanged b = sym (or_off (b && true) ∙ and_on b true refl)

module _ (d : Description) (wf : WellFormed d) where
  run_none : (m : Machine) → run_task 0 m ≡ m
  unfolding run_task
  run_none m = refl

  run_some : (h : ℕ) (m : Machine) → 0 < h → run_task h m ≡ set_used h (used_at m h + 1) m
  unfolding run_task
  run_some h m p = rw (ne_eqb h 0 (λ e. omega arith)) refl

  end_test : (h : ℕ) (finish : Bool) (m : Machine) → Sized m → h ≤ 32 → over_at d h finish m ≡ (not (eqb h 0) && (eqb (used_at (run_task h m) h) (run_of d h) || finish))
  end_test zero finish m z p = refl
  end_test (suc g) finish m z p =
      let h : ℕ = suc g in
      let e : used_at (set_used h (used_at m h + 1) m) h ≡ used_at m h + 1 = get_or-set_same m.used (h - 1) (used_at m h + 1) 0 (omega (arith, z.useds)) in
      rw (run_some h m (omega arith), e) refl

  end_is : (h : ℕ) (finish : Bool) (m : Machine) → Sized m → h ≤ 32 → end_run d h finish (run_task h m) ≡ cond (over_at d h finish m) (fire d h (clear_into d h (complete h (run_task h m)))) (run_task h m)
  unfolding end_run
  end_is h finish m z p = rw (end_test h finish m z p) refl

  -- no task runs
  ran_none : (m : Machine) → Sized m → Ran d 0 false m m
  ran_none m z = record {
    sized = z;
    ages = refl;
    fastest = refl;
    awake = λ k o. sym (or_off (awake_at m k));
    used = λ k o. rw (ne_eqb k 0 (λ e. omega arith)) refl;
    waiting = λ l p. sym (or_off (waiting_at m l));
    dropped = λ l p. or_idle_right (dropped_at m l) (waiting_at m l) false refl;
    again = λ k o. unchanged (again_at m k);
    late = λ l p. unchanged (late_at m l);
    past = λ l p. (refl, refl, refl);
  }

  -- the run goes on
  ran_on : (h : ℕ) (m : Machine) → Sized m → 1 ≤ h → h ≤ 32 → Ran d h false m (set_used h (used_at m h + 1) m)
  ran_on h m z p q = record {
    sized = record {
      awakes = z.awakes;
      useds = length-set m.used (h - 1) (used_at m h + 1) ∙ z.useds;
      waitings = z.waitings;
      droppeds = z.droppeds;
      ages = z.ages;
      fastests = z.fastests;
      agains = z.agains;
      lates = z.lates;
    };
    ages = refl;
    fastest = refl;
    awake = λ k o. sym (or_off (awake_at m k));
    used = λ k o. get_d_task m.used h (used_at m h + 1) 0 k o p (omega (arith, z.useds)) ∙ one k (eqb k h) refl;
    waiting = λ l r. sym (or_off (waiting_at m l));
    dropped = λ l r. or_idle_right (dropped_at m l) (waiting_at m l) false refl;
    again = λ k o. unchanged (again_at m k);
    late = λ l r. unchanged (late_at m l);
    past = λ l r. (refl, refl, refl);
  }
    where
      one : (k : ℕ) (b : Bool) → eqb k h ≡ b → cond (eqb k h) (used_at m h + 1) (used_at m k) ≡ cond (eqb k h) (suc (used_at m k)) (used_at m k)
      one k true e = let y : k ≡ h = eqb-true k h e in rw (e, y) (add-one (used_at m h))
      one k false e = rw e refl

  -- it ends
  ran_over : (h : ℕ) (m : Machine) → Sized m → 1 ≤ h → h ≤ 32 → Ran d h true m (fire d h (clear_into d h (complete h (set_used h (used_at m h + 1) m))))
  unfolding linked
  ran_over h m z p q =
      let us : List ℕ = set m.used (h - 1) (used_at m h + 1) in
      let m₃ : Machine = complete h (set_used h (used_at m h + 1) m) in
      let lu : length us ≡ 32 = length-set m.used (h - 1) (used_at m h + 1) ∙ z.useds in
      let z₃ : Sized m₃ = record {
        awakes = length-set m.awake (h - 1) (again_at m h) ∙ z.awakes;
        useds = length-set us (h - 1) 0 ∙ lu;
        waitings = z.waitings;
        droppeds = z.droppeds;
        ages = z.ages;
        fastests = z.fastests;
        agains = length-set m.again (h - 1) false ∙ z.agains;
        lates = z.lates;
      } in
      let c : Cleared d h d.link_count m₃ (clear_into d h m₃) = cleared d wf h m₃ z₃ in
      let f : Fired d h d.link_count (clear_into d h m₃) (fire d h (clear_into d h m₃)) = fired d wf h (clear_into d h m₃) c.sized in
      let past = fired_past d h (clear_into d h m₃) (fire d h (clear_into d h m₃)) f in
      record {
        sized = f.sized;
        ages = f.ages ∙ c.ages;
        fastest = f.fastest ∙ c.fastest;
        awake = λ k o. f.awake k o ∙ rw (c.awake, get_d_task m.awake h (again_at m h) false k o p (omega (arith, z.awakes))) (ap (λ (b : Bool). b || linked d h k) (own k (eqb k h) refl));
        used = λ k o. rw (f.used, c.used) (get_d_task us h 0 0 k o p (omega arith) ∙ zeroed k o (eqb k h) refl);
        waiting = λ l r. f.waiting l ∙ rw (lt-ltb l d.link_count r, c.waiting l, lt-ltb l d.link_count r) refl;
        dropped = λ l r. f.dropped l ∙ rw (lt-ltb l d.link_count r, c.waiting l, c.dropped, lt-ltb l d.link_count r) refl;
        again = λ k o. f.again k o ∙ rw (f.used, c.again, get_d_task m.again h false false k o p (omega (arith, z.agains)), set-false (eqb k h) (again_at m k)) refl;
        late = λ l r. f.late l ∙ rw (f.used, lt-ltb l d.link_count r, c.late l, lt-ltb l d.link_count r) refl;
        past = λ l r. (
          (past l r).0 ∙ (c.waiting l ∙ rw (le-ltb l d.link_count r) refl),
          (past l r).1 ∙ ap (λ (ds : List Bool). get_or ds l false) c.dropped,
          (past l r).2 ∙ (c.late l ∙ rw (le-ltb l d.link_count r) (and_on (late_at m l) true refl)),
        );
      }
    where
      own : (k : ℕ) (b : Bool) → eqb k h ≡ b → cond (eqb k h) (again_at m h) (awake_at m k) ≡ cond (eqb k h) (again_at m k) (awake_at m k)
      own k true e = rw (eqb-true k h e)
      own k false e = rw e refl

      zeroed : (k : ℕ) → 1 ≤ k → (b : Bool) → eqb k h ≡ b → cond (eqb k h) 0 (get_or (set m.used (h - 1) (used_at m h + 1)) (k - 1) 0) ≡ cond (eqb k h) 0 (used_at m k)
      zeroed k o true e = rw e refl
      zeroed k o false e =
          rw (get_d_task m.used h (used_at m h + 1) 0 k o p (omega (arith, z.useds)), e) refl

  ran : (h : ℕ) (finish : Bool) (m : Machine) → Sized m → h ≤ 32 → Ran d h (over_at d h finish m) m (end_run d h finish (run_task h m))
  ran zero finish m z p = rw (end_is 0 finish m z p, run_none m) (ran_none m z)
  ran (suc g) finish m z p = rw (end_is (suc g) finish m z p, run_some (suc g) m (omega arith)) (go (over_at d (suc g) finish m))
    where
      go : (o : Bool) → Ran d (suc g) o m (cond o (fire d (suc g) (clear_into d (suc g) (complete (suc g) (set_used (suc g) (used_at m (suc g) + 1) m)))) (set_used (suc g) (used_at m (suc g) + 1) m))
      go true = ran_over (suc g) m z (omega arith) p
      go false = ran_on (suc g) m z (omega arith) p

  -- what became of the record m by a whole tick; h is the task that ran and o says whether its run ended
  pub record Stepped (t : ℕ) (marks : List Bool) (h : ℕ) (o : Bool) (m m' : Machine) : Type 0 where
    pub sized : Sized m'
    pub awake : (k : ℕ) → 1 ≤ k → awake_at m' k ≡ set_after (awake_at (arrive d marks m) k) (again_at (arrive d marks m) k) o (eqb k h) (linked d h k)
    pub used : (k : ℕ) → 1 ≤ k → used_at m' k ≡ cond (eqb k h) (cond o 0 (suc (used_at m k))) (used_at m k)
    pub waiting : (l : ℕ) → l < d.link_count → waiting_at m' l ≡ set_after (waiting_at m l || comes marks d.source_count (link_at d l).from) (late_at m l || (comes marks d.source_count (link_at d l).from && ltb 0 (used_at m (link_at d l).to))) o (eqb (link_at d l).to h) (eqb (link_at d l).from h)
    pub dropped : (l : ℕ) → l < d.link_count → dropped_at m' l ≡ (dropped_at m l || (waiting_at m l && comes marks d.source_count (link_at d l).from) || (cond (o && eqb (link_at d l).to h) (late_at m l || (comes marks d.source_count (link_at d l).from && ltb 0 (used_at m (link_at d l).to))) (waiting_at m l || comes marks d.source_count (link_at d l).from) && (o && eqb (link_at d l).from h)))
    pub again : (k : ℕ) → 1 ≤ k → again_at m' k ≡ late_after (again_at (arrive d marks m) k) o (eqb k h) (linked d h k) (ltb 0 (used_at m' k))
    pub late : (l : ℕ) → l < d.link_count → late_at m' l ≡ late_after (late_at m l || (comes marks d.source_count (link_at d l).from && ltb 0 (used_at m (link_at d l).to))) o (eqb (link_at d l).to h) (eqb (link_at d l).from h) (ltb 0 (used_at m' (link_at d l).to))
    pub past : (l : ℕ) → d.link_count ≤ l → (waiting_at m' l ≡ waiting_at m l) × (dropped_at m' l ≡ dropped_at m l) × (late_at m' l ≡ late_at m l)
    pub age_past : (v : ℕ) → d.source_count ≤ v → age_at m' v ≡ age_at m v
    pub age : (v : ℕ) → v < d.source_count → age_at m' v ≡ min (longest_gap d v) (cond (get_or marks v false) 0 (age_at m v) + 1)
    pub fastest : (v : ℕ) → v < 16 → fastest_at m' v ≡ kept_after t (get_or marks v false) (fastest_at m v)

  pub step : (pol : Policy) (t : ℕ) (marks : List Bool) (finish : Bool) (m : Machine) → Sized m → Stepped t marks (choose pol d (arrive d marks m)) (over_at d (choose pol d (arrive d marks m)) finish m) m (stepped pol d t marks finish m)
  unfolding stepped keep
  step pol t marks finish m z =
      let m₁ : Machine = arrive d marks m in
      let h : ℕ = choose pol d m₁ in
      let a : Arrived d marks d.source_count m m₁ = arrived d wf marks m z in
      let same : over_at d h finish m₁ ≡ over_at d h finish m = ap (λ (l : List ℕ). not (eqb h 0) && (eqb (get_or l (h - 1) 0 + 1) (run_of d h) || finish)) a.used in
      let r : Ran d h (over_at d h finish m) m₁ (end_run d h finish (run_task h m₁)) = rw same at (ran h finish m₁ a.sized (omega (arith, chosen_le pol d m₁, wf.fields.few_tasks))) in
      let g : Aged d d.source_count (end_run d h finish (run_task h m₁)) (age_all d (end_run d h finish (run_task h m₁))) = aged d wf (end_run d h finish (run_task h m₁)) r.sized in
      record {
        sized = record {
          awakes = g.sized.awakes;
          useds = g.sized.useds;
          waitings = g.sized.waitings;
          droppeds = g.sized.droppeds;
          ages = g.sized.ages;
          fastests = length-tab 16 _;
          agains = g.sized.agains;
          lates = g.sized.lates;
        };
        awake = λ k o. rw g.awake (r.awake k o);
        used = λ k o. rw g.used (r.used k o ∙ ap (λ (l : List ℕ). cond (eqb k h) (cond (over_at d h finish m) 0 (suc (get_or l (k - 1) 0))) (get_or l (k - 1) 0)) a.used);
        waiting = λ l p. rw g.waiting (rw (a.waiting l p, a.late l p) at (r.waiting l p));
        dropped = λ l p. rw g.dropped (rw (a.waiting l p, a.late l p, a.dropped l p) at (r.dropped l p));
        again = λ k o. rw (g.again, g.used) (r.again k o);
        late = λ l p. rw (g.late, g.used) (rw (a.late l p) at (r.late l p));
        past = λ l p. (
          ap (λ (ws : List Bool). get_or ws l false) g.waiting ∙ ((r.past l p).0 ∙ (a.past l p).0),
          ap (λ (ds : List Bool). get_or ds l false) g.dropped ∙ ((r.past l p).1 ∙ (a.past l p).1),
          ap (λ (ls : List Bool). get_or ls l false) g.late ∙ ((r.past l p).2 ∙ (a.past l p).2),
        );
        age_past = λ v p. g.age v ∙ rw (le-ltb v d.source_count p, r.ages, a.age v, le-ltb v d.source_count p) refl;
        age = λ v p. g.age v ∙ rw (lt-ltb v d.source_count p, r.ages, a.age v, lt-ltb v d.source_count p) refl;
        fastest = λ v p. get_d_tab 16 _ 0 v p ∙ ap (λ (l : List ℕ). kept_after t (get_or marks v false) (get_or l v 0)) (g.fastest ∙ (r.fastest ∙ a.fastest));
      }

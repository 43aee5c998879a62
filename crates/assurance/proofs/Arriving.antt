-- What the arrivals of a tick do to each part of the machine's record. Assumes nothing.
use Prim.Native.Nat.{ℕ, zero, suc, ◌+◌, ◌-◌, ◌≤◌, ◌<◌}
use mathlib.Core.Path.{◌≡◌, refl, ◌∙◌}
use mathlib.Core.Bool.{Bool, true, false, ◌||◌, ◌&&◌, cond}
use mathlib.Core.List.{List}
use native.Mathlib.Omega.{arith}
use lib.ListN.{get_or, length-set}
use lib.Dec.{ltb, eqb}
use borrow.Author.Tests.{eqb-true, eq-eqb, lt-ltb, le-ltb, ltb-true}
use Rattle.model.specs.declared.Description.{Description}
use Rattle.model.specs.declared.Machine.{Machine}
use Rattle.model.specs.Basics.{any_n, up_to}
use Rattle.model.specs.Graph.{link_at, linked}
use Rattle.model.specs.Machine.{awake_at, used_at, waiting_at, dropped_at, age_at, again_at, late_at, set_age, fire, arrive_one, arrive}
use Rattle.lemmas.proofs.Tests.{Cmp, less, same, more, cmp, same_test, and_left, and_right, and_false_left, and_false_right, both, or_left, or_right, or_cases}
use Rattle.lemmas.proofs.Bools.{or_idle, or_idle_right, or_assoc, and_on, any_suc, less_more}
use Rattle.theory.proofs.WellFormed.{WellFormed}
use Rattle.assurance.proofs.Firing.{Sized, Fired, fired, fired_past, drop_more, or_under}
use Rattle.lemmas.proofs.Table.{get_d_set}

-- node x is one of the first n sources and its mark is set
unfoldable pub comes : List Bool → ℕ → ℕ → Bool
comes marks n x = ltb 32 x && (ltb (x - 33) n && get_or marks (x - 33) false)

comes_parts : (marks : List Bool) (n x : ℕ) → comes marks n x ≡ true → (32 < x) × (x - 33 < n) × (get_or marks (x - 33) false ≡ true)
unfolding comes
comes_parts marks n x e =
    let f : (ltb (x - 33) n && get_or marks (x - 33) false) ≡ true = and_right (ltb 32 x) _ e in
    (ltb-true 32 x (and_left (ltb 32 x) _ e), ltb-true (x - 33) n (and_left (ltb (x - 33) n) _ f), and_right (ltb (x - 33) n) _ f)

pub comes_of : (marks : List Bool) (n x : ℕ) → 32 < x → x - 33 < n → get_or marks (x - 33) false ≡ true → comes marks n x ≡ true
unfolding comes
comes_of marks n x p q e =
    both (ltb 32 x) _ (lt-ltb 32 x p) (both (ltb (x - 33) n) _ (lt-ltb (x - 33) n q) e)

-- the source after them
comes_more : (marks : List Bool) (n x : ℕ) → comes marks (suc n) x ≡ (comes marks n x || (get_or marks n false && eqb x (33 + n)))
comes_more marks n x = same_test (comes marks (suc n) x) _ to back
  where
    to : comes marks (suc n) x ≡ true → (comes marks n x || (get_or marks n false && eqb x (33 + n))) ≡ true
    to e = let h = comes_parts marks (suc n) x e in go h (cmp (x - 33) n)
      where
        go : (32 < x) × (x - 33 < suc n) × (get_or marks (x - 33) false ≡ true) → Cmp (x - 33) n → (comes marks n x || (get_or marks n false && eqb x (33 + n))) ≡ true
        go h (less r) = or_left (comes marks n x) _ (comes_of marks n x h.0 r h.2)
        go h (same r) =
            let y : x ≡ 33 + n = omega arith in
            let z : get_or marks n false ≡ true = rw r at h.2 in
            or_right (comes marks n x) _ (both (get_or marks n false) _ z (eq-eqb x (33 + n) y))
        go h (more r) = absurd (omega arith)

    back : (comes marks n x || (get_or marks n false && eqb x (33 + n))) ≡ true → comes marks (suc n) x ≡ true
    back e =
        or_cases (comes marks n x) _ e (λ f. let h = comes_parts marks n x f in comes_of marks (suc n) x h.0 (omega (arith, h.1)) h.2)
        (λ f. let y : x ≡ 33 + n = eqb-true x (33 + n) (and_right (get_or marks n false) _ f) in
        let q : x - 33 ≡ n = omega arith in
        comes_of marks (suc n) x (omega arith) (omega arith) (rw q (and_left (get_or marks n false) _ f)))

comes_apart : (marks : List Bool) (n x : ℕ) → comes marks n x ≡ true → (get_or marks n false && eqb x (33 + n)) ≡ true → ⊥
comes_apart marks n x e f =
    omega (arith, (comes_parts marks n x e).1, eqb-true x (33 + n) (and_right (get_or marks n false) _ f))

-- what became of the record m by the arrivals among the first n sources
pub record Arrived (d : Description) (marks : List Bool) (n : ℕ) (m m' : Machine) : Type 0 where
  pub sized : Sized m'
  pub used : m'.used ≡ m.used
  pub awake : (k : ℕ) → 1 ≤ k → awake_at m' k ≡ (awake_at m k || any_n (λ u. get_or marks (u - 33) false && linked d u k) 33 n)
  pub waiting : (l : ℕ) → l < d.link_count → waiting_at m' l ≡ (waiting_at m l || comes marks n (link_at d l).from)
  pub dropped : (l : ℕ) → l < d.link_count → dropped_at m' l ≡ (dropped_at m l || (waiting_at m l && comes marks n (link_at d l).from))
  pub again : (k : ℕ) → 1 ≤ k → again_at m' k ≡ (again_at m k || (any_n (λ u. get_or marks (u - 33) false && linked d u k) 33 n && ltb 0 (used_at m k)))
  pub late : (l : ℕ) → l < d.link_count → late_at m' l ≡ (late_at m l || (comes marks n (link_at d l).from && ltb 0 (used_at m (link_at d l).to)))
  pub past : (l : ℕ) → d.link_count ≤ l → (waiting_at m' l ≡ waiting_at m l) × (dropped_at m' l ≡ dropped_at m l) × (late_at m' l ≡ late_at m l)
  pub age : (v : ℕ) → age_at m' v ≡ cond (ltb v n && get_or marks v false) 0 (age_at m v)
  pub fastest : m'.fastest ≡ m.fastest

-- and by the source at place u alone
record OneArrived (d : Description) (marks : List Bool) (u : ℕ) (m m' : Machine) : Type 0 where
  sized : Sized m'
  used : m'.used ≡ m.used
  awake : (k : ℕ) → 1 ≤ k → awake_at m' k ≡ (awake_at m k || (get_or marks u false && linked d (33 + u) k))
  waiting : (l : ℕ) → l < d.link_count → waiting_at m' l ≡ (waiting_at m l || (get_or marks u false && eqb (link_at d l).from (33 + u)))
  dropped : (l : ℕ) → l < d.link_count → dropped_at m' l ≡ (dropped_at m l || (waiting_at m l && (get_or marks u false && eqb (link_at d l).from (33 + u))))
  again : (k : ℕ) → 1 ≤ k → again_at m' k ≡ (again_at m k || ((get_or marks u false && linked d (33 + u) k) && ltb 0 (used_at m k)))
  late : (l : ℕ) → l < d.link_count → late_at m' l ≡ (late_at m l || ((get_or marks u false && eqb (link_at d l).from (33 + u)) && ltb 0 (used_at m (link_at d l).to)))
  past : (l : ℕ) → d.link_count ≤ l → (waiting_at m' l ≡ waiting_at m l) × (dropped_at m' l ≡ dropped_at m l) × (late_at m' l ≡ late_at m l)
  age : (v : ℕ) → age_at m' v ≡ cond (eqb v u && get_or marks u false) 0 (age_at m v)
  fastest : m'.fastest ≡ m.fastest

cond-or : (a b : Bool) (x : ℕ) → cond b 0 (cond a 0 x) ≡ cond (a || b) 0 x
cond-or true true x = refl
cond-or true false x = refl
cond-or false b x = refl

module _ (d : Description) (wf : WellFormed d) (marks : List Bool) where
  one_off : (u : ℕ) (m : Machine) → get_or marks u false ≡ false → arrive_one d marks u m ≡ m
  unfolding arrive_one
  one_off u m e = rw e refl

  one_on : (u : ℕ) (m : Machine) → get_or marks u false ≡ true → arrive_one d marks u m ≡ set_age u 0 (fire d (33 + u) m)
  unfolding arrive_one
  one_on u m e = rw e refl

  stays : (u : ℕ) (m : Machine) → Sized m → get_or marks u false ≡ false → OneArrived d marks u m m
  stays u m z e = record {
    sized = z;
    used = refl;
    awake = λ k o. or_idle (awake_at m k) (get_or marks u false) _ e;
    waiting = λ l p. or_idle (waiting_at m l) (get_or marks u false) _ e;
    dropped = λ l p. or_idle_right (dropped_at m l) (waiting_at m l) _ (and_false_left (get_or marks u false) _ e);
    again = λ k o. or_idle (again_at m k) _ _ (and_false_left (get_or marks u false) _ e);
    late = λ l p. or_idle (late_at m l) _ _ (and_false_left (get_or marks u false) _ e);
    past = λ l p. (refl, refl, refl);
    age = λ v. rw (and_false_right (eqb v u) (get_or marks u false) e) refl;
    fastest = refl;
  }

  fires : (u : ℕ) → u < d.source_count → (m : Machine) → Sized m → get_or marks u false ≡ true → OneArrived d marks u m (set_age u 0 (fire d (33 + u) m))
  unfolding linked
  fires u p m z e =
      let f : Fired d (33 + u) d.link_count m (fire d (33 + u) m) = fired d wf (33 + u) m z in
      record {
        sized = record {
          awakes = f.sized.awakes;
          useds = f.sized.useds;
          waitings = f.sized.waitings;
          droppeds = f.sized.droppeds;
          ages = length-set (fire d (33 + u) m).ages u 0 ∙ f.sized.ages;
          fastests = f.sized.fastests;
          agains = f.sized.agains;
          lates = f.sized.lates;
        };
        used = f.used;
        awake = λ k o. rw e (f.awake k o);
        waiting = λ l q. rw e (rw (lt-ltb l d.link_count q) at (f.waiting l));
        dropped = λ l q. rw e (rw (lt-ltb l d.link_count q) at (f.dropped l));
        again = λ k o. rw e (f.again k o);
        late = λ l q. rw e (rw (lt-ltb l d.link_count q) at (f.late l));
        past = λ l q. fired_past d (33 + u) m (fire d (33 + u) m) f l q;
        age = λ v. get_d_set (fire d (33 + u) m).ages u 0 0 v (omega (arith, f.sized.ages, wf.fields.few_sources)) ∙ rw (e, f.ages, and_on (eqb v u) true refl) refl;
        fastest = f.fastest;
      }

  one_arrived : (u : ℕ) → u < d.source_count → (m : Machine) → Sized m → OneArrived d marks u m (arrive_one d marks u m)
  one_arrived u p m z = go (get_or marks u false) refl
    where
      go : (b : Bool) → get_or marks u false ≡ b → OneArrived d marks u m (arrive_one d marks u m)
      go true e = rw (one_on u m e) (fires u p m z e)
      go false e = rw (one_off u m e) (stays u m z e)

  arrived_none : (m : Machine) → Sized m → Arrived d marks 0 m m
  unfolding any_n comes
  arrived_none m z = record {
    sized = z;
    used = refl;
    awake = λ k o. or_idle (awake_at m k) false false refl;
    waiting = λ l p. rw (le-ltb ((link_at d l).from - 33) 0 (omega arith), and_false_right (ltb 32 (link_at d l).from) false refl) (or_idle (waiting_at m l) false false refl);
    dropped = λ l p. rw (le-ltb ((link_at d l).from - 33) 0 (omega arith), and_false_right (ltb 32 (link_at d l).from) false refl) (or_idle_right (dropped_at m l) (waiting_at m l) false refl);
    again = λ k o. or_idle (again_at m k) false false refl;
    late = λ l p. rw (le-ltb ((link_at d l).from - 33) 0 (omega arith), and_false_right (ltb 32 (link_at d l).from) false refl) (or_idle (late_at m l) false false refl);
    past = λ l p. (refl, refl, refl);
    age = λ v. rw (le-ltb v 0 (omega arith)) refl;
    fastest = refl;
  }

  arrived_more : (n : ℕ) (m m₁ m₂ : Machine) → Arrived d marks n m m₁ → OneArrived d marks n m₁ m₂ → Arrived d marks (suc n) m m₂
  arrived_more n m m₁ m₂ f g =
      let back : 33 + n - 33 ≡ n = omega arith in
      record {
        sized = g.sized;
        used = g.used ∙ f.used;
        awake = λ k o. rw (g.awake k o, f.awake k o, any_suc (λ u. get_or marks (u - 33) false && linked d u k) 33 n, back) (or_assoc (awake_at m k) _ _);
        waiting = λ l p. rw (g.waiting l p, f.waiting l p, comes_more marks n (link_at d l).from) (or_assoc (waiting_at m l) _ _);
        dropped = λ l p. rw (g.dropped l p, f.waiting l p, f.dropped l p, comes_more marks n (link_at d l).from) (drop_more (dropped_at m l) (waiting_at m l) _ _ (comes_apart marks n (link_at d l).from));
        again = λ k o. rw (g.again k o, f.again k o, f.used, any_suc (λ u. get_or marks (u - 33) false && linked d u k) 33 n, back) (or_under (again_at m k) (any_n (λ u. get_or marks (u - 33) false && linked d u k) 33 n) (get_or marks n false && linked d (33 + n) k) (ltb 0 (used_at m k)));
        late = λ l p. rw (g.late l p, f.late l p, f.used, comes_more marks n (link_at d l).from) (or_under (late_at m l) (comes marks n (link_at d l).from) (get_or marks n false && eqb (link_at d l).from (33 + n)) (ltb 0 (used_at m (link_at d l).to)));
        past = λ l p. ((g.past l p).0 ∙ (f.past l p).0, (g.past l p).1 ∙ (f.past l p).1, (g.past l p).2 ∙ (f.past l p).2);
        age = λ v. rw (g.age v, f.age v, less_more (λ u. get_or marks u false) v n) (cond-or (ltb v n && get_or marks v false) _ (age_at m v));
        fastest = g.fastest ∙ f.fastest;
      }

  arrived_to : (n : ℕ) → n ≤ d.source_count → (m : Machine) → Sized m → Arrived d marks n m (up_to n (arrive_one d marks) m)
  unfolding up_to
  arrived_to zero p m z = arrived_none m z
  arrived_to (suc n) p m z =
      let f : Arrived d marks n m (up_to n (arrive_one d marks) m) = arrived_to n (omega arith) m z in
      arrived_more n m (up_to n (arrive_one d marks) m) (arrive_one d marks n (up_to n (arrive_one d marks) m)) f (one_arrived n (omega arith) (up_to n (arrive_one d marks) m) f.sized)

  pub arrived : (m : Machine) → Sized m → Arrived d marks d.source_count m (arrive d marks m)
  unfolding arrive
  arrived m z = arrived_to d.source_count (omega arith) m z

-- What a firing does to each part of the machine's record. Assumes nothing.
use Prim.Native.Nat.{ℕ, zero, suc, ◌-◌, ◌≤◌, ◌<◌}
use mathlib.Core.Path.{◌≡◌, refl, sym, ap, ◌∙◌}
use mathlib.Core.Bool.{Bool, true, false, ◌||◌, ◌&&◌, cond}
use mathlib.Core.List.{List}
use native.Mathlib.Omega.{arith}
use lib.ListN.{length, get_or, set, length-set}
use lib.Dec.{ltb, eqb}
use borrow.Author.Tests.{eqb-true, eq-eqb, le-ltb, ltb-true}
use Rattle.model.specs.declared.Description.{Description}
use Rattle.model.specs.declared.Machine.{Machine}
use Rattle.model.specs.Basics.{any_n, up_to}
use Rattle.model.specs.Graph.{link_at}
use Rattle.model.specs.Machine.{awake_at, used_at, waiting_at, dropped_at, again_at, late_at, set_awake, set_waiting, set_dropped, set_again, set_late, mark_dropped, mark_late, fire_link, fire}
use Rattle.lemmas.proofs.Tests.{same_test, and_left, and_false_left, and_false_right, eqb_sym}
use Rattle.lemmas.proofs.Bools.{or_off, or_on, or_idle, or_idle_right, or_assoc, and_on, set-true, any_next, less_more}
use Rattle.theory.proofs.WellFormed.{WellFormed}
use Rattle.lemmas.proofs.Table.{get_d_set}
use Rattle.theory.proofs.Links.{to_most}

-- the record's lists have their lengths
pub record Sized (m : Machine) : Type 0 where
  pub awakes : length m.awake ≡ 32
  pub useds : length m.used ≡ 32
  pub waitings : length m.waiting ≡ 256
  pub droppeds : length m.dropped ≡ 256
  pub ages : length m.ages ≡ 16
  pub fastests : length m.fastest ≡ 16
  pub agains : length m.again ≡ 32
  pub lates : length m.late ≡ 256

-- an entry after a store, by task numbers, which begin at 1
pub get_d_task : {A : Type 0} (l : List A) (h : ℕ) (v d : A) (k : ℕ) → 1 ≤ k → 1 ≤ h → h ≤ length l → get_or (set l (h - 1) v) (k - 1) d ≡ cond (eqb k h) v (get_or l (k - 1) d)
get_d_task l h v d k o p q =
    let e : eqb (k - 1) (h - 1) ≡ eqb k h = same_test (eqb (k - 1) (h - 1)) (eqb k h) (λ x. let y : k - 1 ≡ h - 1 = eqb-true (k - 1) (h - 1) x in eq-eqb k h (omega arith)) (λ x. let y : k ≡ h = eqb-true k h x in eq-eqb (k - 1) (h - 1) (omega arith)) in
    rw (← e) (get_d_set l (h - 1) v d (k - 1) (omega arith))

pub less_apart : (f : ℕ → Bool) (k n : ℕ) → (ltb k n && f k) ≡ true → (eqb k n && f n) ≡ true → ⊥
less_apart f k n p q =
    omega (arith, ltb-true k n (and_left (ltb k n) (f k) p), eqb-true k n (and_left (eqb k n) (f n) q))

-- a mark that was set earlier, a link that waited, and the two sets of firings, which are apart
pub drop_more : (d w a b : Bool) → (a ≡ true → b ≡ true → ⊥) → ((d || (w && a)) || ((w || a) && b)) ≡ (d || (w && (a || b)))
drop_more true w a b h = refl
drop_more false true true b h = refl
drop_more false true false b h = refl
drop_more false false true true h = absurd (h refl refl)
drop_more false false true false h = refl
drop_more false false false b h = refl

-- marks under one test
pub or_under : (g a b u : Bool) → ((g || (a && u)) || (b && u)) ≡ (g || ((a || b) && u))
or_under true a b u = refl
or_under false true b true = refl
or_under false true true false = refl
or_under false true false false = refl
or_under false false b u = refl

-- what became of the record m by the firing of node x over the first n links: those of part-done tasks are late
pub record Fired (d : Description) (x n : ℕ) (m m' : Machine) : Type 0 where
  pub sized : Sized m'
  pub used : m'.used ≡ m.used
  pub ages : m'.ages ≡ m.ages
  pub fastest : m'.fastest ≡ m.fastest
  pub awake : (k : ℕ) → 1 ≤ k → awake_at m' k ≡ (awake_at m k || any_n (λ l. eqb (link_at d l).from x && eqb (link_at d l).to k) 0 n)
  pub waiting : (l : ℕ) → waiting_at m' l ≡ (waiting_at m l || (ltb l n && eqb (link_at d l).from x))
  pub dropped : (l : ℕ) → dropped_at m' l ≡ (dropped_at m l || (waiting_at m l && (ltb l n && eqb (link_at d l).from x)))
  pub again : (k : ℕ) → 1 ≤ k → again_at m' k ≡ (again_at m k || (any_n (λ l. eqb (link_at d l).from x && eqb (link_at d l).to k) 0 n && ltb 0 (used_at m k)))
  pub late : (l : ℕ) → late_at m' l ≡ (late_at m l || (ltb l n && (eqb (link_at d l).from x && ltb 0 (used_at m (link_at d l).to))))

-- and by its link at place l alone
record LinkFired (d : Description) (x l : ℕ) (m m' : Machine) : Type 0 where
  sized : Sized m'
  used : m'.used ≡ m.used
  ages : m'.ages ≡ m.ages
  fastest : m'.fastest ≡ m.fastest
  awake : (k : ℕ) → 1 ≤ k → awake_at m' k ≡ (awake_at m k || (eqb (link_at d l).from x && eqb (link_at d l).to k))
  waiting : (k : ℕ) → waiting_at m' k ≡ (waiting_at m k || (eqb k l && eqb (link_at d l).from x))
  dropped : (k : ℕ) → dropped_at m' k ≡ (dropped_at m k || (waiting_at m k && (eqb k l && eqb (link_at d l).from x)))
  again : (k : ℕ) → 1 ≤ k → again_at m' k ≡ (again_at m k || ((eqb (link_at d l).from x && eqb (link_at d l).to k) && ltb 0 (used_at m k)))
  late : (k : ℕ) → late_at m' k ≡ (late_at m k || (eqb k l && (eqb (link_at d l).from x && ltb 0 (used_at m (link_at d l).to))))

-- a link that is fired: its mark, whether it waited or not
mark_awake : (b : Bool) (l : ℕ) (m : Machine) → (cond b (set_dropped l true m) m).awake ≡ m.awake
mark_awake true l m = refl
mark_awake false l m = refl

mark_used : (b : Bool) (l : ℕ) (m : Machine) → (cond b (set_dropped l true m) m).used ≡ m.used
mark_used true l m = refl
mark_used false l m = refl

mark_waiting : (b : Bool) (l : ℕ) (m : Machine) → (cond b (set_dropped l true m) m).waiting ≡ m.waiting
mark_waiting true l m = refl
mark_waiting false l m = refl

mark_ages : (b : Bool) (l : ℕ) (m : Machine) → (cond b (set_dropped l true m) m).ages ≡ m.ages
mark_ages true l m = refl
mark_ages false l m = refl

mark_fastest : (b : Bool) (l : ℕ) (m : Machine) → (cond b (set_dropped l true m) m).fastest ≡ m.fastest
mark_fastest true l m = refl
mark_fastest false l m = refl

mark_again : (b : Bool) (l : ℕ) (m : Machine) → (cond b (set_dropped l true m) m).again ≡ m.again
mark_again true l m = refl
mark_again false l m = refl

mark_late_lem : (b : Bool) (l : ℕ) (m : Machine) → (cond b (set_dropped l true m) m).late ≡ m.late
mark_late_lem true l m = refl
mark_late_lem false l m = refl

mark_length : (b : Bool) (l : ℕ) (m : Machine) → length (cond b (set_dropped l true m) m).dropped ≡ length m.dropped
mark_length true l m = length-set m.dropped l true
mark_length false l m = refl

mark_dropped_lem : (l : ℕ) (m : Machine) → l < length m.dropped → (k : ℕ) → dropped_at (mark_dropped l m) k ≡ (dropped_at m k || (waiting_at m k && eqb k l))
mark_dropped_lem l m p k = go (waiting_at m l) refl (eqb k l) refl
  where
    go : (w : Bool) → waiting_at m l ≡ w → (b : Bool) → eqb k l ≡ b → dropped_at (cond (waiting_at m l) (set_dropped l true m) m) k ≡ (dropped_at m k || (waiting_at m k && eqb k l))
    go true e true f =
        let q : k ≡ l = eqb-true k l f in
        rw (e, f) (get_d_set m.dropped l true false k p ∙ rw (f, q, e) (sym (or_on (dropped_at m l))))
    go false e true f =
        let q : k ≡ l = eqb-true k l f in
        rw (e, f, q, e) (or_idle_right (dropped_at m l) false false refl)
    go true e false f = rw (e, f) (get_d_set m.dropped l true false k p ∙ rw f (or_idle_right (dropped_at m k) (waiting_at m k) false refl))
    go false e false f = rw (e, f) (or_idle_right (dropped_at m k) (waiting_at m k) false refl)

-- the marks of a link whose task is part done, or none: the other parts stay
record LateAt (k l : ℕ) (b : Bool) (m m' : Machine) : Type 0 where
  sized : Sized m'
  awake : m'.awake ≡ m.awake
  used : m'.used ≡ m.used
  waiting : m'.waiting ≡ m.waiting
  dropped : m'.dropped ≡ m.dropped
  ages : m'.ages ≡ m.ages
  fastest : m'.fastest ≡ m.fastest
  again : (i : ℕ) → 1 ≤ i → again_at m' i ≡ (again_at m i || (eqb k i && b))
  late : (i : ℕ) → late_at m' i ≡ (late_at m i || (eqb i l && b))

late_at_lem : (k l : ℕ) → 1 ≤ k → k ≤ 32 → l < 256 → (b : Bool) (m : Machine) → Sized m → LateAt k l b m (cond b (set_again k true (set_late l true m)) m)
late_at_lem k l o p q true m z = record {
  sized = record {
    awakes = z.awakes;
    useds = z.useds;
    waitings = z.waitings;
    droppeds = z.droppeds;
    ages = z.ages;
    fastests = z.fastests;
    agains = length-set m.again (k - 1) true ∙ z.agains;
    lates = length-set m.late l true ∙ z.lates;
  };
  awake = refl;
  used = refl;
  waiting = refl;
  dropped = refl;
  ages = refl;
  fastest = refl;
  again = λ i r. rw (and_on (eqb k i) true refl, eqb_sym k i) (get_d_task m.again k true false i r o (omega (arith, z.agains)) ∙ set-true (eqb i k) (again_at m i));
  late = λ i. rw (and_on (eqb i l) true refl) (get_d_set m.late l true false i (omega (arith, z.lates)) ∙ set-true (eqb i l) (late_at m i));
}
late_at_lem k l o p q false m z = record {
  sized = z;
  awake = refl;
  used = refl;
  waiting = refl;
  dropped = refl;
  ages = refl;
  fastest = refl;
  again = λ i r. or_idle_right (again_at m i) (eqb k i) false refl;
  late = λ i. or_idle_right (late_at m i) (eqb i l) false refl;
}

module _ (d : Description) (wf : WellFormed d) where
  fire_off : (x l : ℕ) (m : Machine) → eqb (link_at d l).from x ≡ false → fire_link d x l m ≡ m
  unfolding fire_link
  fire_off x l m e = rw e refl

  fire_on : (x l : ℕ) (m : Machine) → eqb (link_at d l).from x ≡ true → fire_link d x l m ≡ set_awake (link_at d l).to true (set_waiting l true (mark_dropped l (mark_late d l m)))
  unfolding fire_link
  fire_on x l m e = rw e refl

  -- its marks once late ones are set
  link_marked : (x l : ℕ) → l < d.link_count → (m m₁ : Machine) → LateAt (link_at d l).to l (ltb 0 (used_at m (link_at d l).to)) m m₁ → eqb (link_at d l).from x ≡ true → LinkFired d x l m (set_awake (link_at d l).to true (set_waiting l true (mark_dropped l m₁)))
  link_marked x l p m m₁ g e =
      let w : Bool = waiting_at m₁ l in
      let z : Sized m₁ = g.sized in
      record {
        sized = record {
          awakes = length-set (mark_dropped l m₁).awake ((link_at d l).to - 1) true ∙ (ap length (mark_awake w l m₁) ∙ z.awakes);
          useds = ap length (mark_used w l m₁) ∙ z.useds;
          waitings = length-set (mark_dropped l m₁).waiting l true ∙ (ap length (mark_waiting w l m₁) ∙ z.waitings);
          droppeds = mark_length w l m₁ ∙ z.droppeds;
          ages = ap length (mark_ages w l m₁) ∙ z.ages;
          fastests = ap length (mark_fastest w l m₁) ∙ z.fastests;
          agains = ap length (mark_again w l m₁) ∙ z.agains;
          lates = ap length (mark_late_lem w l m₁) ∙ z.lates;
        };
        used = mark_used w l m₁ ∙ g.used;
        ages = mark_ages w l m₁ ∙ g.ages;
        fastest = mark_fastest w l m₁ ∙ g.fastest;
        awake = λ k o. rw (mark_awake w l m₁, e, eqb_sym (link_at d l).to k, ← g.awake) (get_d_task m₁.awake (link_at d l).to true false k o (to_most d wf.fields l p).0 (omega (arith, z.awakes, (to_most d wf.fields l p).1)) ∙ set-true (eqb k (link_at d l).to) (awake_at m₁ k));
        waiting = λ k. rw (mark_waiting w l m₁, e, and_on (eqb k l) true refl, ← g.waiting) (get_d_set m₁.waiting l true false k (omega (arith, z.waitings, wf.fields.few_links)) ∙ set-true (eqb k l) (waiting_at m₁ k));
        dropped = λ k. rw (e, and_on (eqb k l) true refl, ← g.waiting, ← g.dropped) (mark_dropped_lem l m₁ (omega (arith, z.droppeds, wf.fields.few_links)) k);
        again = λ k o. rw (mark_again w l m₁, e) (g.again k o ∙ ap (λ (b : Bool). again_at m k || b) (here k (eqb (link_at d l).to k) refl));
        late = λ k. rw (mark_late_lem w l m₁, e) (g.late k);
      }
    where
      here : (k : ℕ) (b : Bool) → eqb (link_at d l).to k ≡ b → (eqb (link_at d l).to k && ltb 0 (used_at m (link_at d l).to)) ≡ (eqb (link_at d l).to k && ltb 0 (used_at m k))
      here k true e = rw (eqb-true (link_at d l).to k e)
      here k false e = rw e refl

  link_on : (x l : ℕ) → l < d.link_count → (m : Machine) → Sized m → eqb (link_at d l).from x ≡ true → LinkFired d x l m (set_awake (link_at d l).to true (set_waiting l true (mark_dropped l (mark_late d l m))))
  link_on x l p m z e =
      let t = to_most d wf.fields l p in
      link_marked x l p m (mark_late d l m) (late_at_lem (link_at d l).to l t.0 t.1 (omega (arith, wf.fields.few_links)) (ltb 0 (used_at m (link_at d l).to)) m z) e

  link_off : (x l : ℕ) (m : Machine) → Sized m → eqb (link_at d l).from x ≡ false → LinkFired d x l m m
  link_off x l m z e = record {
    sized = z;
    used = refl;
    ages = refl;
    fastest = refl;
    awake = λ k o. or_idle (awake_at m k) _ _ e;
    waiting = λ k. or_idle_right (waiting_at m k) (eqb k l) _ e;
    dropped = λ k. or_idle_right (dropped_at m k) (waiting_at m k) _ (and_false_right (eqb k l) _ e);
    again = λ k o. rw e (or_idle (again_at m k) false false refl);
    late = λ k. or_idle_right (late_at m k) (eqb k l) _ (and_false_left (eqb (link_at d l).from x) _ e);
  }

  link_fired : (x l : ℕ) → l < d.link_count → (m : Machine) → Sized m → LinkFired d x l m (fire_link d x l m)
  link_fired x l p m z = go (eqb (link_at d l).from x) refl
    where
      go : (b : Bool) → eqb (link_at d l).from x ≡ b → LinkFired d x l m (fire_link d x l m)
      go true e = rw (fire_on x l m e) (link_on x l p m z e)
      go false e = rw (fire_off x l m e) (link_off x l m z e)

  fired_none : (x : ℕ) (m : Machine) → Sized m → Fired d x 0 m m
  unfolding any_n
  fired_none x m z = record {
    sized = z;
    used = refl;
    ages = refl;
    fastest = refl;
    awake = λ k o. or_idle (awake_at m k) false false refl;
    waiting = λ l. or_idle (waiting_at m l) (ltb l 0) _ (le-ltb l 0 (omega arith));
    dropped = λ l. rw (le-ltb l 0 (omega arith)) (or_idle_right (dropped_at m l) (waiting_at m l) false refl);
    again = λ k o. or_idle (again_at m k) false false refl;
    late = λ l. or_idle (late_at m l) (ltb l 0) _ (le-ltb l 0 (omega arith));
  }

  fired_more : (x n : ℕ) (m m₁ m₂ : Machine) → Fired d x n m m₁ → LinkFired d x n m₁ m₂ → Fired d x (suc n) m m₂
  fired_more x n m m₁ m₂ f g =
      let from : ℕ → Bool = λ l. eqb (link_at d l).from x in
      record {
        sized = g.sized;
        used = g.used ∙ f.used;
        ages = g.ages ∙ f.ages;
        fastest = g.fastest ∙ f.fastest;
        awake = λ k o. rw (g.awake k o, f.awake k o, any_next (λ l. eqb (link_at d l).from x && eqb (link_at d l).to k) n) (or_assoc (awake_at m k) _ _);
        waiting = λ l. rw (g.waiting l, f.waiting l, less_more from l n) (or_assoc (waiting_at m l) _ _);
        dropped = λ l. rw (g.dropped l, f.waiting l, f.dropped l, less_more from l n) (drop_more (dropped_at m l) (waiting_at m l) (ltb l n && from l) (eqb l n && from n) (less_apart from l n));
        again = λ k o. rw (g.again k o, f.again k o, f.used, any_next (λ l. eqb (link_at d l).from x && eqb (link_at d l).to k) n) (or_under (again_at m k) (any_n (λ l. eqb (link_at d l).from x && eqb (link_at d l).to k) 0 n) (eqb (link_at d n).from x && eqb (link_at d n).to k) (ltb 0 (used_at m k)));
        late = λ l. rw (g.late l, f.late l, f.used, less_more (λ i. eqb (link_at d i).from x && ltb 0 (used_at m (link_at d i).to)) l n) (or_assoc (late_at m l) _ _);
      }

  fired_to : (x n : ℕ) → n ≤ d.link_count → (m : Machine) → Sized m → Fired d x n m (up_to n (fire_link d x) m)
  unfolding up_to
  fired_to x zero p m z = fired_none x m z
  fired_to x (suc n) p m z =
      let f : Fired d x n m (up_to n (fire_link d x) m) = fired_to x n (omega arith) m z in
      fired_more x n m (up_to n (fire_link d x) m) (fire_link d x n (up_to n (fire_link d x) m)) f (link_fired x n (omega arith) (up_to n (fire_link d x) m) f.sized)

  pub fired : (x : ℕ) (m : Machine) → Sized m → Fired d x d.link_count m (fire d x m)
  unfolding fire
  fired x m z = fired_to x d.link_count (omega arith) m z

-- nothing is set past the links
pub fired_past : (d : Description) (x : ℕ) (m m' : Machine) → Fired d x d.link_count m m' → (l : ℕ) → d.link_count ≤ l → (waiting_at m' l ≡ waiting_at m l) × (dropped_at m' l ≡ dropped_at m l) × (late_at m' l ≡ late_at m l)
fired_past d x m m' f l p = (
  f.waiting l ∙ rw (le-ltb l d.link_count p) (or_off (waiting_at m l)),
  f.dropped l ∙ rw (le-ltb l d.link_count p) (sym (or_idle_right (dropped_at m l) (waiting_at m l) false refl)),
  f.late l ∙ rw (le-ltb l d.link_count p) (or_off (late_at m l)),
)

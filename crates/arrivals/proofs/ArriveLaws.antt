-- The links out of all arriving sources, joined in a loop over the mask and fired together. Assumes nothing.
use Prim.Native.Nat.{ℕ, zero, suc, ◌+◌, ◌-◌, ◌≤◌, ◌<◌, min}
use mathlib.Core.Path.{◌≡◌, refl, sym, ap, subst, ◌∙◌}
use mathlib.Core.Bool.{Bool, true, false, ◌||◌, ◌&&◌, cond}
use mathlib.Core.List.{List}
use native.Mathlib.Omega.{arith}
use native.Mathlib.Decide.{dec_lt}
use lib.ListN.{get_or, set, length, length-set}
use lib.Dec.{eqb, ltb}
use borrow.Author.Tests.{eqb-true, eq-eqb, ne_eqb, lt-ltb, le-ltb, ltb-true}
use Rattle.model.specs.declared.Description.{Description}
use Rattle.model.specs.declared.Machine.{Machine}
use Rattle.model.specs.Basics.{any_n, up_to}
use Rattle.model.specs.Graph.{link_at, linked}
use Rattle.model.specs.Machine.{awake_at, used_at, again_at, waiting_at, late_at, dropped_at, age_at, longest_gap, arrive_one, arrive}
use Rattle.lemmas.proofs.Tests.{same_test, not_both, and_left, and_right, and_false_right, both}
use Rattle.lemmas.proofs.Bools.{or_none, or_idle, or_idle_right}
use Rattle.lemmas.proofs.Range.{any_at, any_found, any_none}
use Rattle.theory.proofs.WellFormed.{WellFormed}
use Rattle.assurance.proofs.Arriving.{Arrived, arrived, comes, comes_of}
use Rattle.sets.specs.declared.wide.Wide.{Wide}
use Rattle.sets.specs.Sets.{member}
use Rattle.sets.specs.Wide.{inside}
use Rattle.wiring.specs.declared.Row.{Row}
use Rattle.wiring.specs.Rows.{row_at, RowsOf}
use Rattle.words.specs.declared.Words.{Words}
use Rattle.model.specs.Run.{heard, marks_in}
use Rattle.arrivals.specs.Parts.{Known}
use Rattle.words.specs.Words.{enters, Ages, Holds}
use Rattle.arrivals.specs.Arrivals.{Sent, Stored}
use Rattle.arrivals.proofs.MaskLaws.{Turn, mark_in, heard_under, passed, any_turn}
use Rattle.arrivals.proofs.FireLaws.{woken, marks_sent}
use Rattle.lemmas.proofs.Table.{get_d_set}

-- numbers stored for the sources of a mask below r
pub stored_none : (mask v : ℕ) (l : List ℕ) → length l ≡ 16 → Stored mask 0 v l l
stored_none mask v l z = record { many = z; here = λ u h. absurd (omega arith); others = λ u e. refl }

pub stored_more : (mask r v : ℕ) (l₀ l : List ℕ) (u rest' : ℕ) → Turn mask r u rest' → Stored mask r v l₀ l → Stored mask (u + 1) v l₀ (set l u v)
stored_more mask r v l₀ l u rest' T s = record {
  many = length-set l u v ∙ s.many;
  here = passed (λ k. get_or (set l u v) k 0 ≡ v) mask r u rest' T (λ k h on. other k (λ q. omega (arith, T.from)) ∙ s.here k h on) (at u ∙ rw (eq-eqb u u refl) refl);
  others = λ k off. other k (λ q. not_both T.here (ap (heard mask) (sym q) ∙ off)) ∙ s.others k off;
}
  where
    at : (k : ℕ) → get_or (set l u v) k 0 ≡ cond (eqb k u) v (get_or l k 0)
    at k = get_d_set l u v 0 k (omega (arith, s.many, T.within))

    other : (k : ℕ) → (k ≡ u → ⊥) → get_or (set l u v) k 0 ≡ get_or l k 0
    other k q = at k ∙ rw (ne_eqb k u q) refl

-- the same seen from a place on the way, and from before that place
pub stored_since : (mask r v : ℕ) (l₀ l : List ℕ) → Stored mask r v l₀ l → Stored mask r v l l
stored_since mask r v l₀ l s = record { many = s.many; here = s.here; others = λ u e. refl }

pub stored_then : (mask r r' v : ℕ) (l₀ l l' : List ℕ) → Stored mask r v l₀ l → Stored mask r' v l l' → Stored mask r' v l₀ l'
stored_then mask r r' v l₀ l l' s s' = record { many = s'.many; here = s'.here; others = λ u e. s'.others u e ∙ s.others u e }

-- all of the mask are passed
pub stored_all : (mask r v : ℕ) (l₀ l : List ℕ) → ((u : ℕ) → heard mask u ≡ true → u < r) → Stored mask r v l₀ l → Stored mask 16 v l₀ l
stored_all mask r v l₀ l under s = record { many = s.many; here = λ u h on. s.here u (under u on) on; others = s.others }

-- the links out of the sources of a mask below r, and the tasks that they wake
pub record Joined (rows : List Row) (mask r : ℕ) (out : Wide) (wakes : ℕ) : Type 0 where
  pub links : (l : ℕ) → inside out l ≡ any_n (λ u. heard mask u && inside (row_at rows (33 + u)).out l) 0 r
  pub tasks : (k : ℕ) → member wakes k ≡ any_n (λ u. heard mask u && member (row_at rows (33 + u)).wakes k) 0 r

-- of the first, and of one more
pub joined_one : (rows : List Row) (mask u rest' : ℕ) → Turn mask 0 u rest' → Joined rows mask (u + 1) (row_at rows (33 + u)).out (row_at rows (33 + u)).wakes
unfolding any_n
joined_one rows mask u rest' T = record {
  links = λ l. sym (any_turn (λ v. inside (row_at rows (33 + v)).out l) mask 0 u rest' T);
  tasks = λ k. sym (any_turn (λ v. member (row_at rows (33 + v)).wakes k) mask 0 u rest' T);
}

pub joined_more : (rows : List Row) (mask r : ℕ) (out out' : Wide) (wakes wakes' u rest' : ℕ) → Turn mask r u rest' → ((l : ℕ) → inside out' l ≡ (inside out l || inside (row_at rows (33 + u)).out l)) → ((k : ℕ) → member wakes' k ≡ (member wakes k || member (row_at rows (33 + u)).wakes k)) → Joined rows mask r out wakes → Joined rows mask (u + 1) out' wakes'
joined_more rows mask r out out' wakes wakes' u rest' T a b j = record {
  links = λ l. a l ∙ ap (λ i. i || inside (row_at rows (33 + u)).out l) (j.links l) ∙ sym (any_turn (λ v. inside (row_at rows (33 + v)).out l) mask r u rest' T);
  tasks = λ k. b k ∙ ap (λ i. i || member (row_at rows (33 + u)).wakes k) (j.tasks k) ∙ sym (any_turn (λ v. member (row_at rows (33 + v)).wakes k) mask r u rest' T);
}

-- all of a mask's sources are passed: what has come is what comes in the record
module _ (d : Description) (rows : List Row) (mask r tick : ℕ) (since₀ since : List ℕ) (out : Wide) (wakes : ℕ) (j : Joined rows mask r out wakes) (s : Stored mask 16 tick since₀ since) (under : (u : ℕ) → heard mask u ≡ true → u < r) (g : WellFormed d) (w : RowsOf d d.link_count rows) (k : Known d mask) where
  on : (u : ℕ) → heard mask u ≡ true → (u < d.source_count) × (get_or (marks_in mask) u false ≡ true)
  on u e =
      let h : u < d.source_count = heard_under mask d.source_count u k.1 e in
      (h, mark_in mask u (omega (arith, k.0)) ∙ e)

  heard_of : (u : ℕ) → u < d.source_count → get_or (marks_in mask) u false ≡ true → heard mask u ≡ true
  heard_of u h e = sym (mark_in mask u (omega (arith, k.0))) ∙ e

  tasks_are : (i : ℕ) → member wakes i ≡ any_n (λ x. get_or (marks_in mask) (x - 33) false && linked d x i) 33 d.source_count
  unfolding linked
  tasks_are i = j.tasks i ∙ same_test (any_n p 0 r) (any_n q 33 d.source_count) to back
    where
      p : ℕ → Bool
      p u = heard mask u && member (row_at rows (33 + u)).wakes i

      q : ℕ → Bool
      q x = get_or (marks_in mask) (x - 33) false && linked d x i

      to : any_n p 0 r ≡ true → any_n q 33 d.source_count ≡ true
      to e =
          let z = any_found p 0 r e in
          let u : ℕ = z.at in
          let o = on u (and_left (heard mask u) _ z.passes) in
          let f : 33 + u - 33 ≡ u = omega arith in
          any_at q 33 d.source_count (33 + u) (omega arith) (omega (arith, o.0)) (both (get_or (marks_in mask) (33 + u - 33) false) (linked d (33 + u) i) (ap (λ n. get_or (marks_in mask) n false) f ∙ o.1) (sym (w.wakes (33 + u) i) ∙ and_right (heard mask u) _ z.passes))

      back : any_n q 33 d.source_count ≡ true → any_n p 0 r ≡ true
      back e =
          let z = any_found q 33 d.source_count e in
          let x : ℕ = z.at in
          let f : 33 + (x - 33) ≡ x = omega (arith, z.from) in
          let o = heard_of (x - 33) (omega (arith, z.from, z.within)) (and_left (get_or (marks_in mask) (x - 33) false) _ z.passes) in
          any_at p 0 r (x - 33) (omega arith) (omega (arith, under (x - 33) o)) (both (heard mask (x - 33)) _ o (w.wakes (33 + (x - 33)) i ∙ ap (λ n. linked d n i) f ∙ and_right (get_or (marks_in mask) (x - 33) false) _ z.passes))

  links_are : (l : ℕ) → l < d.link_count → inside out l ≡ comes (marks_in mask) d.source_count (link_at d l).from
  unfolding comes
  links_are l h = j.links l ∙ same_test (any_n p 0 r) (comes (marks_in mask) d.source_count x) to back
    where
      x : ℕ
      x = (link_at d l).from

      p : ℕ → Bool
      p u = heard mask u && inside (row_at rows (33 + u)).out l

      to : any_n p 0 r ≡ true → comes (marks_in mask) d.source_count x ≡ true
      to e =
          let z = any_found p 0 r e in
          let u : ℕ = z.at in
          let o = on u (and_left (heard mask u) _ z.passes) in
          let f : x ≡ 33 + u = eqb-true x (33 + u) (and_right (ltb l d.link_count) _ (sym (w.out (33 + u) l) ∙ and_right (heard mask u) _ z.passes)) in
          let y : u ≡ x - 33 = omega arith in
          comes_of (marks_in mask) d.source_count x (omega arith) (omega (arith, o.0)) (ap (λ n. get_or (marks_in mask) n false) (sym y) ∙ o.1)

      back : comes (marks_in mask) d.source_count x ≡ true → any_n p 0 r ≡ true
      back e =
          let a : 32 < x = ltb-true 32 x (and_left (ltb 32 x) _ e) in
          let b : (ltb (x - 33) d.source_count && get_or (marks_in mask) (x - 33) false) ≡ true = and_right (ltb 32 x) _ e in
          let o = heard_of (x - 33) (ltb-true (x - 33) d.source_count (and_left (ltb (x - 33) d.source_count) _ b)) (and_right (ltb (x - 33) d.source_count) _ b) in
          any_at p 0 r (x - 33) (omega arith) (omega (arith, under (x - 33) o)) (both (heard mask (x - 33)) _ o (w.out (33 + (x - 33)) l ∙ both (ltb l d.link_count) _ (lt-ltb l d.link_count h) (eq-eqb x (33 + (x - 33)) (omega arith))))

  links_past : (l : ℕ) → d.link_count ≤ l → inside out l ≡ false
  links_past l h =
      j.links l ∙ any_none (λ u. heard mask u && inside (row_at rows (33 + u)).out l) 0 r (λ u a b. and_false_right (heard mask u) _ (w.out (33 + u) l ∙ rw (le-ltb l d.link_count h) refl))

  pub all_arrived : (w₀ w' : Words) (used : List ℕ) (m : Machine) → tick ≡ w₀.tick → Sent w₀ out wakes w' → Holds d w₀ used since₀ m → Holds d w' used since (arrive d (marks_in mask) m)
  all_arrived w₀ w' used m same sent h = record {
    marks = marks_sent d w₀ w' out wakes sent m m' some f.sized f.used (λ i p. f.awake i p ∙ ap (λ b. awake_at m i || b) (sym (tasks_are i))) (λ i p. f.again i p ∙ ap (λ b. again_at m i || (b && ltb 0 (used_at m i))) (sym (tasks_are i))) (λ l. waits l (dec_lt l d.link_count)) (λ l. lates l (dec_lt l d.link_count)) (λ l. drops l (dec_lt l d.link_count)) h.marks;
    same_used = h.same_used ∙ sym f.used;
    below = λ i o t. rw f.used (h.below i o t);
    ages = subst (λ n. Ages d n since m') (same ∙ sym sent.then) (record {
      many = s.many;
      before = λ u p. before u p (heard mask u) refl;
      here = λ u p. here u p (heard mask u) refl;
      past = λ u p. f.age u ∙ rw (le-ltb u d.source_count p) (h.ages.past u p);
    });
  }
    where
      m' : Machine
      m' = arrive d (marks_in mask) m

      f : Arrived d (marks_in mask) d.source_count m m'
      f = arrived d g (marks_in mask) m h.marks.sized

      some : (i : ℕ) → member wakes i ≡ true → (1 ≤ i) × (i ≤ d.task_count)
      some i e =
          let z = any_found (λ u. heard mask u && member (row_at rows (33 + u)).wakes i) 0 r (sym (j.tasks i) ∙ e) in
          woken d rows g w (33 + z.at) i (and_right (heard mask z.at) _ z.passes)

      waits : (l : ℕ) → Dec (l < d.link_count) → waiting_at m' l ≡ (waiting_at m l || inside out l)
      waits l (yes p) = f.waiting l p ∙ ap (λ b. waiting_at m l || b) (sym (links_are l p))
      waits l (no p) = (f.past l (omega arith)).0 ∙ sym (or_none (waiting_at m l) (inside out l) (links_past l (omega arith)))

      drops : (l : ℕ) → Dec (l < d.link_count) → dropped_at m' l ≡ (dropped_at m l || (waiting_at m l && inside out l))
      drops l (yes p) = f.dropped l p ∙ ap (λ b. dropped_at m l || (waiting_at m l && b)) (sym (links_are l p))
      drops l (no p) = (f.past l (omega arith)).1 ∙ or_idle_right (dropped_at m l) (waiting_at m l) (inside out l) (links_past l (omega arith))

      lates : (l : ℕ) → Dec (l < d.link_count) → late_at m' l ≡ (late_at m l || (inside out l && enters d w₀.part l))
      lates l (yes p) =
          f.late l p ∙ ap (λ b. late_at m l || b) (rw (links_are l p, lt-ltb l d.link_count p, h.marks.part (link_at d l).to (g.fields.link_to l p).0) refl)
      lates l (no p) = (f.past l (omega arith)).2 ∙ or_idle (late_at m l) (inside out l) _ (links_past l (omega arith))

      age : (u : ℕ) → u < d.source_count → age_at m' u ≡ cond (heard mask u) 0 (age_at m u)
      age u p = f.age u ∙ rw (lt-ltb u d.source_count p, mark_in mask u (omega (arith, k.0))) refl

      before : (u : ℕ) → u < d.source_count → (b : Bool) → heard mask u ≡ b → get_or since u 0 ≤ tick
      before u p true e = omega (arith, s.here u (omega (arith, k.0)) e)
      before u p false e = omega (arith, s.others u e, h.ages.before u p)

      here : (u : ℕ) → u < d.source_count → (b : Bool) → heard mask u ≡ b → age_at m' u ≡ min (longest_gap d u) (tick - get_or since u 0)
      here u p true e = let a : age_at m' u ≡ 0 = age u p ∙ rw e refl in omega (arith, s.here u (omega (arith, k.0)) e)
      here u p false e = let a : age_at m' u ≡ age_at m u = age u p ∙ rw e refl in omega (arith, s.others u e, h.ages.here u p)

-- steps that change nothing from a place on
up_to-rest : {A : Type 0} (l j : ℕ) (step : ℕ → A → A) (a : A) → ((k : ℕ) → l ≤ k → k < l + j → (x : A) → x ≡ step k x) → up_to l step a ≡ up_to (l + j) step a
unfolding up_to
up_to-rest l zero step a h = let e : l ≡ l + 0 = omega arith in ap (λ n. up_to n step a) e
up_to-rest l (suc j) step a h =
    let e : suc (l + j) ≡ l + suc j = omega arith in
    up_to-rest l j step a (λ k a b. h k a (omega arith)) ∙ h (l + j) (omega arith) (omega arith) (up_to (l + j) step a) ∙ ap (λ n. up_to n step a) e

-- a source that does not arrive
arrive_off : (d : Description) (marks : List Bool) (u : ℕ) (m : Machine) → get_or marks u false ≡ false → m ≡ arrive_one d marks u m
unfolding arrive_one
arrive_off d marks u m e = rw e refl

-- sources of a mask with no bit from l up to n
pub arrive_none : (d : Description) (mask l n : ℕ) (m : Machine) → l ≤ n → n ≤ 16 → ((u : ℕ) → l ≤ u → u < n → heard mask u ≡ false) → up_to l (arrive_one d (marks_in mask)) m ≡ up_to n (arrive_one d (marks_in mask)) m
arrive_none d mask l n m h p none =
    let q : l + (n - l) ≡ n = omega arith in
    up_to-rest l (n - l) (arrive_one d (marks_in mask)) m (λ u a b x. arrive_off d (marks_in mask) u x (mark_in mask u (omega arith) ∙ none u a (omega arith))) ∙ ap (λ n. up_to n (arrive_one d (marks_in mask)) m) q

-- Words of bits and the marks they hold: what a firing does to them. Assumes nothing.
use Prim.Native.Nat.{ℕ, ◌≤◌, ◌<◌}
use mathlib.Core.Path.{◌≡◌, refl, sym, ap, ◌∙◌}
use mathlib.Core.Bool.{Bool, true, false, ◌||◌, ◌&&◌}
use mathlib.Core.List.{List}
use native.Mathlib.Omega.{arith}
use native.Mathlib.Decide.{dec_lt}
use lib.Dec.{eqb, ltb}
use borrow.Author.Tests.{eqb-true, lt-ltb, le-ltb}
use Rattle.model.specs.declared.Description.{Description}
use Rattle.model.specs.declared.Machine.{Machine}
use Rattle.model.specs.Graph.{link_at, system}
use Rattle.model.specs.Machine.{awake_at, used_at, waiting_at, dropped_at, again_at, late_at, fire}
use Rattle.lemmas.proofs.Tests.{false_of, and_right, or_cases, or_false}
use Rattle.lemmas.proofs.Range.{any_found}
use Rattle.theory.proofs.WellFormed.{WellFormed}
use Rattle.assurance.proofs.Firing.{Sized, Fired, fired}
use Rattle.sets.specs.declared.wide.Wide.{Wide}
use Rattle.sets.specs.Sets.{member}
use Rattle.sets.specs.Wide.{inside}
use Rattle.wiring.specs.declared.Row.{Row}
use Rattle.wiring.specs.Rows.{row_at, RowsOf}
use Rattle.words.specs.declared.Words.{Words}
use Rattle.words.specs.Words.{awake_in, waiting_in, enters, Marks}
use Rattle.arrivals.specs.Arrivals.{Sent}
use Rattle.theory.proofs.Links.{to_most}

-- a task that some link of a node wakes is one of the description's
pub woken : (d : Description) (rows : List Row) → WellFormed d → RowsOf d d.link_count rows → (x k : ℕ) → member (row_at rows x).wakes k ≡ true → (1 ≤ k) × (k ≤ d.task_count)
unfolding system
woken d rows g r x k e =
    let z = any_found (λ l. eqb (link_at d l).from x && eqb (link_at d l).to k) 0 d.link_count (sym (r.wakes x k) ∙ e) in
    let y : (link_at d z.at).to ≡ k = eqb-true (link_at d z.at).to k (and_right (eqb (link_at d z.at).from x) _ z.passes) in
    let i : z.at < d.link_count = omega (arith, z.within) in
    let t : (link_at d z.at).to ≤ d.task_count = (g.fields.link_to z.at i).1 in
    (omega (arith, (to_most d g.fields z.at i).0), omega arith)

-- links have fired together: what words say then
also : (a b c : Bool) → (a || b || c) ≡ (a || c || b)
also true b c = refl
also false true true = refl
also false true false = refl
also false false true = refl
also false false false = refl

under : (a b c : Bool) → ((a || b) && c) ≡ ((a && c) || (b && c))
under true true true = refl
under true true false = refl
under true false true = refl
under true false false = refl
under false b c = refl

missed : (d f t o : Bool) → ((d || (f && o)) || ((f || o) && t)) ≡ ((d || (f && t)) || ((f || t) && o))
missed true f t o = refl
missed false true true true = refl
missed false true true false = refl
missed false true false true = refl
missed false true false false = refl
missed false false true true = refl
missed false false true false = refl
missed false false false true = refl
missed false false false false = refl

-- and so they have in the record
module _ (d : Description) (w w' : Words) (out : Wide) (wakes : ℕ) (s : Sent w out wakes w') (m m' : Machine) (tasks : (k : ℕ) → member wakes k ≡ true → (1 ≤ k) × (k ≤ d.task_count)) (z : Sized m') (u : m'.used ≡ m.used) (a : (k : ℕ) → 1 ≤ k → awake_at m' k ≡ (awake_at m k || member wakes k)) (e : (k : ℕ) → 1 ≤ k → again_at m' k ≡ (again_at m k || (member wakes k && ltb 0 (used_at m k)))) (b : (l : ℕ) → waiting_at m' l ≡ (waiting_at m l || inside out l)) (f : (l : ℕ) → late_at m' l ≡ (late_at m l || (inside out l && enters d w.part l))) (c : (l : ℕ) → dropped_at m' l ≡ (dropped_at m l || (waiting_at m l && inside out l))) where
  awake_sent : (k : ℕ) → awake_in w' k ≡ (awake_in w k || member wakes k)
  awake_sent k = rw (s.woken k, s.same.0) (also (member w.woken k) (member wakes k) (member w.part k))

  pub marks_sent : Marks d w m → Marks d w' m'
  marks_sent h = record {
    sized = z;
    no_zero = awake_sent 0 ∙ or_false (awake_in w 0) (member wakes 0) h.no_zero (false_of (member wakes 0) (λ q. omega (arith, (tasks 0 q).0)));
    present = λ k p. or_cases (awake_in w k) (member wakes k) (sym (awake_sent k) ∙ p) (h.present k) (λ q. (tasks k q).1);
    part = λ k p. rw (s.same.0, u) (h.part k p);
    awake = λ k p. awake_sent k ∙ ap (λ i. i || member wakes k) (h.awake k p) ∙ sym (a k p);
    again = λ k p. rw (s.woken k, s.same.0) (under (member w.woken k) (member wakes k) (member w.part k) ∙ ap (λ i. i || (member wakes k && member w.part k)) (h.again k p) ∙ ap (λ i. again_at m k || (member wakes k && i)) (h.part k p) ∙ sym (e k p));
    waiting = λ l. rw (s.fresh l, s.same.1) (also (inside w.fresh l) (inside out l) (inside w.taken l) ∙ ap (λ i. i || inside out l) (h.waiting l) ∙ sym (b l));
    late = λ l. rw (s.fresh l, s.same.0) (under (inside w.fresh l) (inside out l) (enters d w.part l) ∙ ap (λ i. i || (inside out l && enters d w.part l)) (h.late l) ∙ sym (f l));
    dropped = λ l. rw (s.fresh l, s.dropped l, s.same.1) (missed (inside w.dropped l) (inside w.fresh l) (inside w.taken l) (inside out l) ∙ ap (λ i. i || (waiting_in w l && inside out l)) (h.dropped l) ∙ ap (λ i. dropped_at m l || (i && inside out l)) (h.waiting l) ∙ sym (c l));
    held = λ l p. rw s.same.0 (h.held l (rw s.same.1 at p));
  }

-- node x fires
pub marks_fired : (d : Description) (rows : List Row) (x : ℕ) (w w' : Words) → Sent w (row_at rows x).out (row_at rows x).wakes w' → (m : Machine) → WellFormed d → RowsOf d d.link_count rows → Marks d w m → Marks d w' (fire d x m)
marks_fired d rows x w w' s m g r h =
    let f : Fired d x d.link_count m (fire d x m) = fired d g x m h.sized in
    marks_sent d w w' (row_at rows x).out (row_at rows x).wakes s m (fire d x m) (woken d rows g r x) f.sized f.used (λ k p. rw (r.wakes x k) (f.awake k p)) (λ k p. rw (r.wakes x k) (f.again k p)) (λ l. rw (r.out x l) (f.waiting l)) (λ l. f.late l ∙ ap (λ i. late_at m l || i) (entered l (dec_lt l d.link_count))) (λ l. rw (r.out x l) (f.dropped l)) h
  where
    n : ℕ
    n = d.link_count

    entered : (l : ℕ) → Dec (l < n) → (ltb l n && (eqb (link_at d l).from x && ltb 0 (used_at m (link_at d l).to))) ≡ (inside (row_at rows x).out l && enters d w.part l)
    entered l (yes p) = rw (r.out x l, lt-ltb l n p, h.part (link_at d l).to (to_most d g.fields l p).0) refl
    entered l (no p) = rw (r.out x l, le-ltb l n (omega arith)) refl

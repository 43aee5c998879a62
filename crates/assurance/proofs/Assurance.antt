-- The promise for one accepted description, from what the other files show of it. Assumes nothing.
use Prim.Native.Nat.{ℕ, ◌+◌, ◌-◌, ◌≤◌, ◌<◌}
use mathlib.Core.Path.{◌≡◌, refl, sym, ap, ◌∙◌}
use mathlib.Core.Bool.{Bool, true, false, ◌&&◌, not, cond}
use mathlib.Core.List.{List, ◌∷◌}
use mathlib.Core.Logic.{◌⊎◌, inl, inr}
use native.Mathlib.Omega.{arith}
use lib.ListN.{length, get_or}
use lib.Dec.{eqb}
use borrow.Author.Tests.{eqb-true, lt-ltb, le-ltb}
use Rattle.model.specs.declared.Description.{Description}
use Rattle.model.specs.declared.Policy.{Policy}
use Rattle.model.specs.declared.Machine.{Machine}
use Rattle.model.specs.declared.Ticked.{Ticked}
use Rattle.model.specs.Refusals.{Outcome}
use Rattle.model.specs.declared.Verdict.{Verdict}
use Rattle.model.specs.declared.Verdict.TheVariants.{DoubtOrder}
use Rattle.model.specs.Graph.{system, link_at, linked}
use Rattle.model.specs.Delays.{Settled, unchanged, reached, delay_of, round_of, tail_of, spacing_of}
use Rattle.model.specs.Order.{in_order, InOrder}
use Rattle.model.specs.Verdicts.{settled_verdict, source_verdict, order_verdict, verdict_of, verdict_at, doubtful, delay_in, all_held}
use Rattle.model.specs.Machine.{idle, waiting_at, dropped_at, late_at, used_at}
use Rattle.model.specs.History.{Call, Tick, plain_call, answers, left, observe, ticks, fires, begins, ends, tick_at, Dropped, wait_of}
use Rattle.model.specs.Promise.{Calls, none, call, UpTo, Assured}
use Rattle.lemmas.proofs.Tests.{not_both}
use Rattle.lemmas.proofs.Range.{all_at}
use Rattle.theory.proofs.WellFormed.{WellFormed, Loaded, Shaped, IsTask}
use Rattle.assurance.proofs.Schedule.{Schedule, Obeys}
use Rattle.assurance.proofs.Events.{Waits, came, Takes, latches}
use Rattle.assurance.proofs.Replay.{call_at, taken, Replayed, replayed}
use Rattle.assurance.proofs.Machine.{Spaced, at, high_at, end_at, schedule, obeys, latched, schedule_arr, schedule_begins, schedule_ends}
use Rattle.assurance.proofs.Marks.{Marked, never, Drop, dropped_drop, drop-dropped, fires_in, ends_in, link_here, kind, link_marked}
use Rattle.assurance.proofs.Serving.{Shows, unserved_not}
use Rattle.assurance.proofs.Links.{dropped_waits, source_not_dropped, source_waits, task_not_dropped}

-- what is known of an accepted description d with the quote q
pub record Facts (pol : Policy) (d : Description) (q : ℕ) : Type 0 where
  pub formed : WellFormed d
  pub loaded : Loaded (system d)
  pub shaped : Shaped (system d)
  -- every critical link is held at the quote
  pub held : all_held pol d q ≡ true
  -- at the quote every spacing is at least 1, and at no slower tempo is one smaller
  pub spaced : Spaced d q (spacing_of d q)
  -- a settled delay is a D that a round leaves unchanged, with what follows it below the spacing
  pub settled : (i j D : ℕ) → delay_of pol (system d) (spacing_of d q) i j ≡ unchanged D → (round_of pol (system d) (spacing_of d q) j D ≡ D) × (D + tail_of pol (system d) j < spacing_of d q i)
  -- a walk that does not fail has found a neighbourhood
  pub ordered : (i j : ℕ) → IsTask (system d) i → linked d i j ≡ true → in_order (system d) i j ≡ true → InOrder (system d) i j

-- an answer is its outcome and its record
ticked : (r s : Ticked) → r.outcome ≡ s.outcome → r.machine ≡ s.machine → r ≡ s
ticked r s a b =
    ap (λ (o : Outcome). let x : Ticked = record { outcome = o; machine = r.machine } in x) a
    ∙ ap (λ (m : Machine). let x : Ticked = record { outcome = s.outcome; machine = m } in x) b

-- calls that each meet what the tick call ensures are answered as the plain machine answers them
pub calls_plain : (pol : Policy) (d : Description) {m : Machine} {cs : List Call} {rs : List Ticked} {m' : Machine} → Calls pol d m cs rs m' → (rs ≡ answers pol d m cs) × (m' ≡ left pol d m cs)
unfolding answers left
calls_plain pol d none = (refl, refl)
calls_plain pol d (call {m = m} {c = c} {r = r} {cs = cs} {rs = rs} {m' = m'} met k) =
    let e : r ≡ plain_call pol d m c = ticked r (plain_call pol d m c) met.0 met.1 in
    let ih : (rs ≡ answers pol d r.machine cs) × (m' ≡ left pol d r.machine cs) = calls_plain pol d k in
    (ap (λ (l : List Ticked). r ∷ l) ih.0 ∙ ap (λ (s : Ticked). s ∷ answers pol d s.machine cs) e, ih.1 ∙ ap (λ (s : Ticked). left pol d s.machine cs) e)

module _ (pol : Policy) (d : Description) (q : ℕ) (F : Facts pol d q) (cs : List Call) (up : UpTo q (ticks pol d (idle d) cs)) where
  abbrev wf : WellFormed d
  wf = F.formed

  abbrev gap : ℕ → ℕ
  gap = spacing_of d q

  abbrev ks : List Call
  ks = taken pol d (idle d) cs

  abbrev hist : List Tick
  hist = ticks pol d (idle d) cs

  R : Replayed pol d (idle d) cs (taken pol d (idle d) cs)
  R = replayed pol d cs (idle d)

  -- what History reads off a tick
  shown : (x : ℕ) → x < length hist → tick_at hist x ≡ observe pol d (at pol d wf ks x) (call_at ks x)
  shown x p = R.shows x (omega (arith, R.as_many))

  -- no tick is above the quote
  slow : (x : ℕ) → x < length ks → (call_at ks x).tempo ≤ q
  unfolding observe
  slow x p =
      let h : x < length hist = omega (arith, R.as_many) in
      let e : (tick_at hist x).tempo ≡ (call_at ks x).tempo = ap (λ (k : Tick). k.tempo) (shown x h) in
      omega (arith, up x h)

  S : Schedule (system d) gap
  S = schedule pol d wf ks q gap F.spaced R.passed slow

  P : Obeys S pol
  unfolding S
  P = obeys pol d wf ks q gap F.spaced R.passed slow

  fires_is : (x i : ℕ) → x < length hist → fires (tick_at hist x) i ≡ fires_in pol d wf F.loaded ks i x
  unfolding observe
  fires_is x i p = ap (λ (k : Tick). fires k i) (shown x p)

  ends_is : (x j : ℕ) → x < length hist → ends (tick_at hist x) j ≡ ends_in pol d wf F.loaded ks j x
  unfolding observe
  ends_is x j p = ap (λ (k : Tick). ends k j) (shown x p)

  -- the list shows the schedule
  takes : Takes S
  unfolding S
  takes = latches S F.loaded (latched pol d wf ks q gap F.spaced R.passed slow)

  shows : Shows hist S takes
  unfolding S takes latches observe
  shows = record {
    begins_is = λ j x p. ap (λ (k : Tick). begins k j) (shown x p) ∙ (began j x (eqb (high_at pol d wf ks x) j) refl ∙ sym (schedule_begins pol d wf ks q gap F.spaced R.passed slow j x));
    ends_is = λ j x p. ends_is x j p ∙ sym (schedule_ends pol d wf ks q gap F.spaced R.passed slow j x);
    arrives_is = λ i x s p. fires_is x i p ∙ (ap (λ (b : Bool). cond b (eqb (high_at pol d wf ks x) i && end_at pol d wf ks x) (get_or (call_at ks x).arrivals.marks (i - 33) false)) (le-ltb i 33 s) ∙ sym (schedule_arr pol d wf ks q gap F.spaced R.passed slow x i));
    taken_is = λ j x. refl;
  }
    where
      began : (j x : ℕ) (b : Bool) → eqb (high_at pol d wf ks x) j ≡ b → (eqb (high_at pol d wf ks x) j && eqb (used_at (at pol d wf ks x) (high_at pol d wf ks x)) 0) ≡ (eqb (high_at pol d wf ks x) j && eqb (used_at (at pol d wf ks x) j) 0)
      began j x true e =
          ap (λ (k : ℕ). eqb (high_at pol d wf ks x) j && eqb (used_at (at pol d wf ks x) k) 0) (eqb-true (high_at pol d wf ks x) j e)
      began j x false e = rw e refl

  -- the link at place l
  module _ (l : ℕ) (p : l < d.link_count) where
    abbrev i : ℕ
    i = (link_at d l).from

    abbrev j : ℕ
    j = (link_at d l).to

    is_task : 1 ≤ j
    is_task = (wf.fields.link_to l p).0

    -- the dropped mark is set exactly as the events say
    marks : Marked S j (fires_in pol d wf F.loaded ks i) (λ x. waiting_at (at pol d wf ks x) l) (λ x. late_at (at pol d wf ks x) l) (λ x. dropped_at (at pol d wf ks x) l)
    unfolding S
    marks = link_marked pol d wf F.loaded ks l p q gap F.spaced R.passed slow

    marked_drop : dropped_at (at pol d wf ks (length hist)) l ≡ true → Dropped hist i j
    unfolding takes latches
    marked_drop e =
        let k : Drop S j is_task marks (length hist) = dropped_drop S j is_task marks (length hist) e in
        let w : Waits S j (fires_in pol d wf F.loaded ks i) never k.second k.since = k.unserved.held in
        record {
          second = k.second;
          before = k.since;
          earlier = w.before;
          in_list = k.early;
          fired_second = fires_is k.second i k.early ∙ k.comes_second;
          fired_before = fires_is k.since i (omega (arith, w.before, k.early)) ∙ (came S j w.unserved).0;
          none_between = λ x a b. fires_is x i (omega (arith, k.early)) ∙ k.unserved.last x a b;
          not_served = unserved_not hist S takes shows j (omega (arith, k.early)) w.unserved;
        }

    drop-marked : Dropped hist i j → dropped_at (at pol d wf ks (length hist)) l ≡ true
    unfolding takes latches
    drop-marked k =
        let w = dropped_waits hist S takes shows i j {ev = fires_in pol d wf F.loaded ks i} (λ x r. fires_is x i r) k in
        drop-dropped S j is_task marks (length hist) k.second k.before k.in_list w.0 w.1

    linked_here : (system d).link i j ≡ true
    unfolding system
    linked_here = link_here pol d wf F.loaded ks l p

    not_doubtful : not (doubtful (verdict_at pol d q l)) ≡ true
    unfolding all_held
    not_doubtful = all_at _ 0 d.link_count F.held l (omega arith) (omega arith)

    -- a critical link from a source is held with a delay
    module _ (crit : (link_at d l).critical ≡ 1) (is_source : 33 ≤ i) (isSource' : i < 33 + d.source_count) where
      verdict_is : verdict_at pol d q l ≡ settled_verdict (delay_of pol (system d) gap i j) (tail_of pol (system d) j) (gap i)
      unfolding verdict_at verdict_of source_verdict
      verdict_is = rw (crit, le-ltb i 33 is_source) refl

      delay_is : (D : ℕ) × (delay_of pol (system d) gap i j ≡ unchanged D) × (delay_in (verdict_at pol d q l) ≡ D + tail_of pol (system d) j)
      delay_is = go (delay_of pol (system d) gap i j) refl
        where
          go : (s : Settled) → delay_of pol (system d) gap i j ≡ s → (D : ℕ) × (delay_of pol (system d) gap i j ≡ unchanged D) × (delay_in (verdict_at pol d q l) ≡ D + tail_of pol (system d) j)
          go (unchanged D) e = (D, e, ap delay_in (verdict_is ∙ ap (λ (s : Settled). settled_verdict s (tail_of pol (system d) j) (gap i)) e))
          go reached e =
              absurd (not_both not_doubtful (ap (λ (v : Verdict). not (doubtful v)) (verdict_is ∙ ap (λ (s : Settled). settled_verdict s (tail_of pol (system d) j) (gap i)) e)))

      few : i < 33 + (system d).sources
      unfolding system
      few = isSource'

      one_spaced : (u : ℕ) → 33 ≤ u → u < 33 + (system d).sources → 1 ≤ gap u
      unfolding system
      one_spaced u a b = F.spaced.some u a b

      fixed : round_of pol (system d) gap j delay_is.0 ≡ delay_is.0
      fixed = (F.settled i j delay_is.0 delay_is.1).0

      kept : Dropped hist i j → ⊥
      kept k =
          source_not_dropped F.loaded F.shaped S takes hist shows i j linked_here one_spaced is_source few pol P delay_is.0 fixed (F.settled i j delay_is.0 delay_is.1).1 k

      waits_most : (x : ℕ) → x < length hist → fires (tick_at hist x) i ≡ true → wait_of hist j x ≤ delay_is.0 + tail_of pol (system d) j
      waits_most x r e =
          source_waits F.loaded F.shaped S takes hist shows i j linked_here one_spaced is_source few pol P delay_is.0 fixed x r e

    -- a critical link from a task is held in order
    order_kept : (link_at d l).critical ≡ 1 → IsTask (system d) i → Dropped hist i j → ⊥
    unfolding verdict_at verdict_of order_verdict
    order_kept crit own k = go (in_order (system d) i j) refl
      where
        go : (b : Bool) → in_order (system d) i j ≡ b → ⊥
        go true e =
            task_not_dropped F.loaded F.shaped S takes hist shows i j linked_here own (F.ordered i j own (link_here pol d wf F.loaded ks l p) e) pol P k
        go false e =
            let v : verdict_at pol d q l ≡ DoubtOrder = rw (crit, lt-ltb i 33 (omega (arith, own.1, F.shaped.few)), e) refl in
            not_both not_doubtful (ap (λ (w : Verdict). not (doubtful w)) v)

    link_not_dropped : (link_at d l).critical ≡ 1 → Dropped hist i j → ⊥
    unfolding system
    link_not_dropped crit k = go (wf.fields.link_from l p)
      where
        go : IsTask (system d) i ⊎ ((33 ≤ i) × (i < 33 + d.source_count)) → ⊥
        go (inl own) = order_kept crit own k
        go (inr s) = kept crit s.0 s.1 k

    link_waits : (link_at d l).critical ≡ 1 → 33 ≤ i → (x : ℕ) → x < length hist → fires (tick_at hist x) i ≡ true → wait_of hist j x ≤ delay_in (verdict_at pol d q l)
    link_waits crit s x r e = go (kind pol d wf F.loaded ks l p)
      where
        go : (i ≤ 32) ⊎ ((33 ≤ i) × (i < 33 + d.source_count)) → wait_of hist j x ≤ delay_in (verdict_at pol d q l)
        go (inl a) = absurd (omega arith)
        go (inr a) = omega (arith, waits_most crit s a.1 x r e, (delay_is crit s a.1).2)

  left_is : left pol d (idle d) cs ≡ at pol d wf ks (length hist)
  left_is = R.ends_at_lem ∙ ap (λ (n : ℕ). at pol d wf ks n) (sym R.as_many)

  pub assured_by : (rs : List Ticked) (m : Machine) → Calls pol d (idle d) cs rs m → Assured pol d q cs rs m
  assured_by rs m k =
      let e : m ≡ at pol d wf ks (length hist) = (calls_plain pol d k).1 ∙ left_is in
      record {
        plain = (calls_plain pol d k).0;
        plain_left = (calls_plain pol d k).1;
        kept = link_not_dropped;
        marked = λ l p. (λ f. marked_drop l p (sym (ap (λ (n : Machine). dropped_at n l) e) ∙ f), λ f. ap (λ (n : Machine). dropped_at n l) e ∙ drop-marked l p f);
        waited = λ l x p crit s r f. link_waits l p crit s x r f;
      }

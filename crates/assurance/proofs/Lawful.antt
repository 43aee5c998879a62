-- The plain machine keeps the rules of its record: in a list of calls from the start no call is refused as foreign state, and each
-- is a tick exactly if it brings no stranger and none too soon. Assumes nothing.
use Prim.Native.Nat.{ℕ, zero, suc, ◌+◌, ◌-◌, ◌≤◌, ◌<◌, min}
use mathlib.Core.Path.{◌≡◌, refl, sym, ap, ◌∙◌}
use mathlib.Core.Bool.{Bool, true, false, ◌||◌, ◌&&◌, not, cond}
use mathlib.Core.List.{List}
use mathlib.Core.Logic.{◌⊎◌, inl, inr}
use native.Mathlib.Omega.{arith}
use lib.ListN.{length, get_or}
use lib.Dec.{ltb, leb, eqb}
use borrow.Author.Tests.{eqb-true, eq-eqb, ne_eqb, lt-ltb, le-ltb, le-leb, leb-true, leb-false, ltb-true, ltb-false}
use Rattle.model.specs.declared.Description.{Description}
use Rattle.model.specs.declared.Policy.{Policy}
use Rattle.model.specs.declared.Policy.TheVariants.{Preemptive, HoldOn}
use Rattle.model.specs.declared.Machine.{Machine}
use Rattle.model.specs.Refusals.{Done, Refused}
use Rattle.model.specs.declared.Refusal.TheVariants.{TooSoon, Stranger}
use Rattle.model.specs.Basics.{all_n}
use Rattle.model.specs.Graph.{system, link_at, linked, run_of}
use Rattle.model.specs.Delays.{spacing_of}
use Rattle.model.specs.Verdicts.{on_knob, judge_at}
use Rattle.model.specs.Machine.{awake_at, used_at, waiting_at, dropped_at, age_at, fastest_at, again_at, late_at, longest_gap, idle, arrive, task_rule, link_rule, source_rule, again_rule, late_rule, absent_rule, links_rule, rules_kept, parts_done, alone_rule, lawful, kept_after, strangers, too_soon, judge_tick}
use Rattle.model.specs.History.{Call, left}
use Rattle.lemmas.proofs.Tests.{Cmp, less, same, more, cmp, not_both, false_of, and_right, both, or_left, or_right, or_false}
use Rattle.lemmas.proofs.Range.{any_none, none_any, all_of, at_most_one}
use Rattle.lemmas.proofs.Table.{get_d_tab, get_d_same, unset_of}
use Rattle.theory.proofs.WellFormed.{WellFormed, Loaded, Shaped}
use Rattle.theory.proofs.Fielded.{shaped}
use Rattle.theory.proofs.FileLaws.{knob_known}
use Rattle.theory.proofs.LoadLaws.{loaded}
use Rattle.theory.proofs.Spacing.{gap_anti, gap_some}
use Rattle.assurance.proofs.Arriving.{Arrived, arrived}
use Rattle.assurance.proofs.Stepping.{after_wakes}
use Rattle.assurance.proofs.Replay.{state_at, Passed, taken, Replayed, replayed}
use Rattle.assurance.proofs.Potential.{live}
use Rattle.assurance.proofs.Schedule.{Schedule, begins_at, ends_at}
use Rattle.assurance.proofs.Events.{Held, held_live, held_tick, waits_held, Takes, latches}
use Rattle.assurance.proofs.Machine.{Spaced, at, tempo_at, marks_at, high_at, end_at, pend_at, at_sized, at_step, high_low, at_rests, at_again, live_awake, part_again, alone, at_below, marked_in, tempo_low, latched, schedule, schedule_arr, schedule_ends, schedule_used, schedule_pending}
use Rattle.assurance.proofs.Marks.{Marked, waiting_open, late_waits, late_part, fires_in, link_here, kind, link_marked}

module _ (pol : Policy) (d : Description) (wf : WellFormed d) (L : Loaded (system d)) (G : Shaped (system d)) where
  gaps : Spaced d 3000 (spacing_of d 3000)
  gaps = record {
    low = omega arith;
    some = λ u p q. gap_some d wf u p q 3000 (omega arith) (omega arith);
    most = λ u t p q low high. gap_anti d wf u p q t 3000 (omega arith) high;
  }

  -- no link leads to an absent task
  no_link_lem : (i k : ℕ) → d.task_count < k → linked d i k ≡ false
  unfolding system
  no_link_lem i k p =
      false_of (linked d i k) (λ e. let h : k ≤ d.task_count = (G.to_task i k e).1 in omega arith)

  module _ (ks : List Call) (passed : (x : ℕ) → x < length ks → Passed d (tempo_at pol d wf ks x) (at pol d wf ks x) (marks_at pol d wf ks x)) where
    abbrev st : ℕ → Machine
    st x = at pol d wf ks x

    arrivals : (x : ℕ) → Arrived d (marks_at pol d wf ks x) d.source_count (st x) (arrive d (marks_at pol d wf ks x) (st x))
    arrivals x = arrived d wf (marks_at pol d wf ks x) (st x) (at_sized pol d wf ks x)

    -- absent tasks sleep and have used nothing
    absent_asleep : (x k : ℕ) → 1 ≤ k → d.task_count < k → awake_at (st x) k ≡ false
    unfolding state_at idle
    absent_asleep zero k o p = get_d_same 32 (k - 1) false
    absent_asleep (suc x) k o p = next (absent_asleep x k o p)
      where
        mid : awake_at (st x) k ≡ false → awake_at (arrive d (marks_at pol d wf ks x) (st x)) k ≡ false
        mid e =
            (arrivals x).awake k o ∙ or_false (awake_at (st x) k) _ e (any_none _ 33 d.source_count (λ u a b. false_of _ (λ y. not_both (and_right (get_or (marks_at pol d wf ks x) (u - 33) false) _ y) (no_link_lem u k p))))

        next : awake_at (st x) k ≡ false → awake_at (st (suc x)) k ≡ false
        next e =
            (at_step pol d wf ks x).awake k o ∙ false_of _ (λ y. woken (after_wakes (awake_at (arrive d (marks_at pol d wf ks x) (st x)) k) (again_at (arrive d (marks_at pol d wf ks x) (st x)) k) (end_at pol d wf ks x) (eqb k (high_at pol d wf ks x)) (linked d (high_at pol d wf ks x) k) y))
          where
            woken : ((awake_at (arrive d (marks_at pol d wf ks x) (st x)) k ≡ true) × (end_at pol d wf ks x ≡ true → eqb k (high_at pol d wf ks x) ≡ false)) ⊎ (((again_at (arrive d (marks_at pol d wf ks x) (st x)) k ≡ true) × (end_at pol d wf ks x ≡ true) × (eqb k (high_at pol d wf ks x) ≡ true)) ⊎ ((end_at pol d wf ks x ≡ true) × (linked d (high_at pol d wf ks x) k ≡ true))) → ⊥
            woken (inl w) = not_both w.0 (mid e)
            woken (inr (inl w)) = omega (arith, eqb-true k (high_at pol d wf ks x) w.2, high_low pol d wf ks x)
            woken (inr (inr w)) = not_both w.1 (no_link_lem (high_at pol d wf ks x) k p)

    on_knob_lem : (x : ℕ) → x < length ks → (200 ≤ tempo_at pol d wf ks x) × (tempo_at pol d wf ks x ≤ 3000)
    on_knob_lem x h = let k = knob_known d (tempo_at pol d wf ks x) (passed x h).judged in (k.1, k.2)

    S : Schedule (system d) (spacing_of d 3000)
    S = schedule pol d wf ks 3000 (spacing_of d 3000) gaps passed (λ y h. (on_knob_lem y h).1)

    T : Takes S
    unfolding S
    T = latches S L (latched pol d wf ks 3000 (spacing_of d 3000) gaps passed (λ y h. (on_knob_lem y h).1))

    live_at_lem : (x k : ℕ) → live (S.used x) (S.pending x) k ≡ live (used_at (st x)) (pend_at pol d wf ks x) k
    unfolding S
    live_at_lem x k =
        rw (schedule_used pol d wf ks 3000 (spacing_of d 3000) gaps passed (λ y h. (on_knob_lem y h).1) x k, schedule_pending pol d wf ks 3000 (spacing_of d 3000) gaps passed (λ y h. (on_knob_lem y h).1) x k) refl

    -- the run that takes the last event of a waiting link is in progress or pending
    module _ (l : ℕ) (p : l < d.link_count) where
      abbrev from : ℕ
      from = (link_at d l).from

      abbrev to : ℕ
      to = (link_at d l).to

      is_task : 1 ≤ to
      is_task = (wf.fields.link_to l p).0

      marks : Marked S to (fires_in pol d wf L ks from) (λ x. waiting_at (st x) l) (λ x. late_at (st x) l) (λ x. dropped_at (st x) l)
      unfolding S
      marks = link_marked pol d wf L ks l p 3000 (spacing_of d 3000) gaps passed (λ y h. (on_knob_lem y h).1)

      enters : (x : ℕ) → fires_in pol d wf L ks from x ≡ true → (begins_at S to x && ends_at S to x) ≡ false → Held (S.used (suc x)) (S.pending (suc x)) to (begins_at S to x)
      unfolding S T latches system
      enters x e f = go (kind pol d wf L ks l p)
        where
          go : (from ≤ 32) ⊎ ((33 ≤ from) × (from < 33 + d.source_count)) → Held (S.used (suc x)) (S.pending (suc x)) to (begins_at S to x)
          go (inl q) =
              T.from_task from to x (link_here pol d wf L ks l p) (schedule_ends pol d wf ks 3000 (spacing_of d 3000) gaps passed (λ y h. (on_knob_lem y h).1) from x ∙ rw (lt-ltb from 33 (omega arith)) at e)
          go (inr q) =
              held_tick S to is_task x false (T.from_source_lem from to x q.0 q.1 (link_here pol d wf L ks l p) (schedule_arr pol d wf ks 3000 (spacing_of d 3000) gaps passed (λ y h. (on_knob_lem y h).1) x from ∙ rw (le-ltb from 33 q.0) at e)) f

      waiting_held : (x : ℕ) → waiting_at (st x) l ≡ true → (b : Bool) × (Held (S.used x) (S.pending x) to b) × (late_at (st x) l ≡ true → b ≡ false)
      waiting_held x e =
          let (z, o) = waiting_open S to is_task marks x e in
          (o.held.begun, waits_held S to is_task enters x z o.held, o.unbegun)

      -- so its task is awake, and if the link is late it is marked again
      waiting_awake : (x : ℕ) → waiting_at (st x) l ≡ true → awake_at (st x) to ≡ true
      waiting_awake x e =
          let (b, h, u) = waiting_held x e in
          live_awake pol d wf ks x to is_task (sym (live_at_lem x to) ∙ held_live (S.used x) (S.pending x) to b h)

      late_waiting : (x : ℕ) → late_at (st x) l ≡ true → waiting_at (st x) l ≡ true
      late_waiting x e = late_waits S to is_task marks x e

      late_again : (x : ℕ) → late_at (st x) l ≡ true → again_at (st x) to ≡ true
      unfolding S
      late_again x e =
          let (b, h, u) = waiting_held x (late_waiting x e) in
          let w : S.pending x to ≡ true = h.waits (u e) in
          part_again pol d wf ks x to (sym (schedule_pending pol d wf ks 3000 (spacing_of d 3000) gaps passed (λ y h. (on_knob_lem y h).1) x to) ∙ w)
          (rw (schedule_used pol d wf ks 3000 (spacing_of d 3000) gaps passed (λ y h. (on_knob_lem y h).1) x to) at (late_part S to is_task marks x e))

    -- nothing is set for absent links
    absent_clear : (l : ℕ) → d.link_count ≤ l → (x : ℕ) → (waiting_at (st x) l ≡ false) × (dropped_at (st x) l ≡ false) × (late_at (st x) l ≡ false)
    unfolding state_at idle
    absent_clear l p zero = (get_d_same 256 l false, get_d_same 256 l false, get_d_same 256 l false)
    absent_clear l p (suc x) =
        let ih = absent_clear l p x in
        (((at_step pol d wf ks x).past l p).0 ∙ ih.0, ((at_step pol d wf ks x).past l p).1 ∙ ih.1, ((at_step pol d wf ks x).past l p).2 ∙ ih.2)

    -- ages do not exceed spacings for 20.0, and are 0 for absent sources
    age_first : (u : ℕ) → u < 16 → age_at (st 0) u ≡ cond (ltb u d.source_count) (longest_gap d u) 0
    unfolding state_at idle
    age_first u p = get_d_tab 16 _ 0 u p

    age_low : (u : ℕ) → u < d.source_count → (x : ℕ) → age_at (st x) u ≤ longest_gap d u
    age_low u p zero =
        let e : age_at (st 0) u ≡ longest_gap d u = age_first u (omega (arith, wf.fields.few_sources)) ∙ rw (lt-ltb u d.source_count p) refl in
        omega arith
    age_low u p (suc x) = rw ((at_step pol d wf ks x).age u p) (omega arith)

    age_none : (u : ℕ) → u < 16 → d.source_count ≤ u → (x : ℕ) → age_at (st x) u ≡ 0
    age_none u q p zero = age_first u q ∙ rw (le-ltb u d.source_count p) refl
    age_none u q p (suc x) = (at_step pol d wf ks x).age_past u p ∙ age_none u q p x

    -- a source keeps a tempo of the knob, or none and the age of the start; an absent one keeps none
    tempo_most : (x : ℕ) → tempo_at pol d wf ks x ≤ 3000
    tempo_most = tempo_low pol d wf ks 3000 (spacing_of d 3000) gaps passed (λ y h. (on_knob_lem y h).1)

    abbrev Keeps : ℕ → ℕ → Type 0
    Keeps u x = ((fastest_at (st x) u ≡ 0) × (age_at (st x) u ≡ longest_gap d u)) ⊎ ((200 ≤ fastest_at (st x) u) × (fastest_at (st x) u ≤ 3000))

    kept_first : (u : ℕ) → fastest_at (st 0) u ≡ 0
    unfolding state_at idle
    kept_first u = get_d_same 16 u 0

    kept : (u : ℕ) → u < d.source_count → (x : ℕ) → Keeps u x
    kept u p zero =
        inl (kept_first u, age_first u (omega (arith, wf.fields.few_sources)) ∙ rw (lt-ltb u d.source_count p) refl)
    kept u p (suc x) = go (get_or (marks_at pol d wf ks x) u false) refl (kept u p x)
      where
        next : fastest_at (st (suc x)) u ≡ kept_after (tempo_at pol d wf ks x) (get_or (marks_at pol d wf ks x) u false) (fastest_at (st x) u)
        next = (at_step pol d wf ks x).fastest u (omega (arith, wf.fields.few_sources))

        older : age_at (st (suc x)) u ≡ min (longest_gap d u) (cond (get_or (marks_at pol d wf ks x) u false) 0 (age_at (st x) u) + 1)
        older = (at_step pol d wf ks x).age u p

        go : (b : Bool) → get_or (marks_at pol d wf ks x) u false ≡ b → Keeps u x → Keeps u (suc x)
        go true e k = let h = on_knob_lem x (marked_in pol d wf ks x u e) in inr (rw (next, e) h.0, rw (next, e) h.1)
        go false e (inl w) = inl (rw (next, e, w.0) refl, rw (older, e, w.1) (omega arith))
        go false e (inr w) =
            let f : eqb (fastest_at (st x) u) 0 ≡ false = ne_eqb (fastest_at (st x) u) 0 (λ z. omega (arith, w.0)) in
            inr (rw (next, e, f) (omega (arith, w.0)), rw (next, e, f) (omega (arith, w.1, tempo_most x)))

    kept_none : (u : ℕ) → u < 16 → d.source_count ≤ u → (x : ℕ) → fastest_at (st x) u ≡ 0
    unfolding strangers
    kept_none u q p zero = kept_first u
    kept_none u q p (suc x) =
        (at_step pol d wf ks x).fastest u q ∙ rw (absent, kept_none u q p x) refl
      where
        absent : get_or (marks_at pol d wf ks x) u false ≡ false
        absent = false_of _ (λ e.
            not_both (both (get_or (marks_at pol d wf ks x) u false) _ e (le-leb d.source_count u p))
            (none_any _ 0 16 (passed x (marked_in pol d wf ks x u e)).known u (omega arith) (omega arith)))

    -- the rules, one by one
    task_kept : (x k : ℕ) → 1 ≤ k → task_rule d (st x) k ≡ true
    task_kept x k o = go (leb k d.task_count) refl
      where
        here : k ≤ d.task_count → (ltb (used_at (st x) k) (run_of d k) && (awake_at (st x) k || eqb (used_at (st x) k) 0)) ≡ true
        here p = both (ltb (used_at (st x) k) (run_of d k)) _ (lt-ltb (used_at (st x) k) (run_of d k) (at_below pol d wf ks 3000 (spacing_of d 3000) gaps passed (λ y h. (on_knob_lem y h).1) G x k o p)) (by (awake_at (st x) k) refl)
          where
            by : (b : Bool) → awake_at (st x) k ≡ b → (awake_at (st x) k || eqb (used_at (st x) k) 0) ≡ true
            by true e = or_left (awake_at (st x) k) _ e
            by false e =
                or_right (awake_at (st x) k) _ (eq-eqb (used_at (st x) k) 0 (at_rests pol d wf ks x k o e))

        absent : d.task_count < k → (not (awake_at (st x) k) && eqb (used_at (st x) k) 0) ≡ true
        absent p =
            let e : awake_at (st x) k ≡ false = absent_asleep x k o p in
            both (not (awake_at (st x) k)) _ (rw e refl) (eq-eqb (used_at (st x) k) 0 (at_rests pol d wf ks x k o e))

        go : (b : Bool) → leb k d.task_count ≡ b → task_rule d (st x) k ≡ true
        go true e = rw e (here (leb-true k d.task_count e))
        go false e = rw e (absent (leb-false k d.task_count e))

    link_kept : (x l : ℕ) → l < d.link_count → link_rule d (st x) l ≡ true
    link_kept x l p = here (waiting_at (st x) l) refl
      where
        here : (b : Bool) → waiting_at (st x) l ≡ b → link_rule d (st x) l ≡ true
        here true e = or_right (not (waiting_at (st x) l)) _ (waiting_awake l p x e)
        here false e = rw e refl

    source_kept : (x u : ℕ) → u < 16 → source_rule d (st x) u ≡ true
    source_kept x u q = go (ltb u d.source_count) refl
      where
        tempo : Keeps u x → cond (eqb (fastest_at (st x) u) 0) (eqb (age_at (st x) u) (longest_gap d u)) (on_knob (fastest_at (st x) u)) ≡ true
        tempo (inl w) = rw w.0 (eq-eqb (age_at (st x) u) (longest_gap d u) w.1)
        tempo (inr w) =
            rw (ne_eqb (fastest_at (st x) u) 0 (λ z. omega (arith, w.0))) (both (leb 200 (fastest_at (st x) u)) _ (le-leb 200 (fastest_at (st x) u) w.0) (le-leb (fastest_at (st x) u) 3000 w.1))

        go : (b : Bool) → ltb u d.source_count ≡ b → source_rule d (st x) u ≡ true
        go true e =
            let p : u < d.source_count = ltb-true u d.source_count e in
            rw e (both (leb (age_at (st x) u) (longest_gap d u)) _ (le-leb _ _ (age_low u p x)) (tempo (kept u p x)))
        go false e =
            let p : d.source_count ≤ u = ltb-false u d.source_count e in
            rw e (both (eqb (age_at (st x) u) 0) _ (eq-eqb (age_at (st x) u) 0 (age_none u q p x)) (eq-eqb (fastest_at (st x) u) 0 (kept_none u q p x)))

    again_kept : (x k : ℕ) → 1 ≤ k → again_rule (st x) k ≡ true
    again_kept x k o = go (again_at (st x) k) refl
      where
        go : (b : Bool) → again_at (st x) k ≡ b → again_rule (st x) k ≡ true
        go true e =
            or_right (not (again_at (st x) k)) _ (lt-ltb 0 (used_at (st x) k) (at_again pol d wf ks x k o e))
        go false e = rw e refl

    late_kept : (x l : ℕ) → l < d.link_count → late_rule d (st x) l ≡ true
    late_kept x l p = go (late_at (st x) l) refl
      where
        go : (b : Bool) → late_at (st x) l ≡ b → late_rule d (st x) l ≡ true
        go false e = rw e refl
        go true e =
            or_right (not (late_at (st x) l)) _ (both (waiting_at (st x) l) _ (late_waiting l p x e) (late_again l p x e))

    absent_kept : (x : ℕ) → (absent_rule d (st x).waiting ≡ true) × (absent_rule d (st x).dropped ≡ true) × (absent_rule d (st x).late ≡ true)
    absent_kept x =
        (unset_of d.link_count _ (λ l p. (absent_clear l p x).0), unset_of d.link_count _ (λ l p. (absent_clear l p x).1), unset_of d.link_count _ (λ l p. (absent_clear l p x).2))

    kept_at : (x : ℕ) → rules_kept d (st x) ≡ true
    unfolding rules_kept
    kept_at x =
        both (all_n (task_rule d (st x)) 1 32) _ (all_of _ 1 32 (λ k a b. task_kept x k a))
        (both (links_rule d (st x)) _ (both (all_n (link_rule d (st x)) 0 d.link_count) _ (all_of _ 0 d.link_count (λ l a b. link_kept x l (omega arith))) (both (absent_rule d (st x).waiting) _ (absent_kept x).0 (absent_kept x).1))
        (both (all_n (source_rule d (st x)) 0 16) _ (all_of _ 0 16 (λ u a b. source_kept x u b))
        (both (all_n (again_rule (st x)) 1 32) _ (all_of _ 1 32 (λ k a b. again_kept x k a))
        (both (all_n (late_rule d (st x)) 0 d.link_count) _ (all_of _ 0 d.link_count (λ l a b. late_kept x l (omega arith))) (absent_kept x).2))))

    -- on the hold-on model at most one task is part done
    part_here : (x k : ℕ) → 1 ≤ k → ltb 0 (used_at (st x) k) ≡ true → (k ≤ d.task_count) × (0 < used_at (st x) k)
    part_here x k o e = (here (cmp k (suc d.task_count)), ltb-true 0 (used_at (st x) k) e)
      where
        past : d.task_count < k → ⊥
        past p = omega (arith, ltb-true 0 (used_at (st x) k) e, at_rests pol d wf ks x k o (absent_asleep x k o p))

        here : Cmp k (suc d.task_count) → k ≤ d.task_count
        here (less p) = omega arith
        here (same p) = absurd (past (omega arith))
        here (more p) = absurd (past (omega arith))

    parts_most : pol ≡ HoldOn → (x : ℕ) → parts_done (st x) ≤ 1
    unfolding parts_done
    parts_most e x = at_most_one (λ k. ltb 0 (used_at (st x) k)) 1 32 (λ k k' o p o' p' f f'.
        alone pol d wf ks e x k k' o (part_here x k o f).0 o' (part_here x k' o' f').0 (part_here x k o f).1 (part_here x k' o' f').1)

    alone_at : (x : ℕ) → alone_rule pol (st x) ≡ true
    alone_at x = by pol refl
      where
        by : (o : Policy) → pol ≡ o → alone_rule pol (st x) ≡ true
        by Preemptive e = rw e refl
        by HoldOn e = ap (λ (o : Policy). alone_rule o (st x)) e ∙ le-leb (parts_done (st x)) 1 (parts_most e x)

    pub lawful_at : (x : ℕ) → lawful pol d (st x) ≡ true
    unfolding lawful
    lawful_at x = both (rules_kept d (st x)) _ (kept_at x) (alone_at x)

  -- after every list of calls from the start
  pub left_lawful : (cs : List Call) → lawful pol d (left pol d (idle d) cs) ≡ true
  left_lawful cs =
      let R : Replayed pol d (idle d) cs (taken pol d (idle d) cs) = replayed pol d cs (idle d) in
      ap (lawful pol d) R.ends_at_lem ∙ lawful_at (taken pol d (idle d) cs) R.passed (length (taken pol d (idle d) cs))

  -- the next call is refused as a stranger's or as too soon, or else it is a tick
  pub left_judged : (t : ℕ) → judge_at d t ≡ Done → (cs : List Call) (marks : List Bool) → judge_tick pol d t (left pol d (idle d) cs) marks ≡ cond (strangers d marks) (Refused Stranger 0) (cond (too_soon d t marks (left pol d (idle d) cs)) (Refused TooSoon 0) Done)
  unfolding judge_tick
  left_judged t e cs marks = rw (e, left_lawful cs) refl

-- the same of every accepted description
pub rules_kept_lem : (pol : Policy) (d : Description) → WellFormed d → (cs : List Call) → lawful pol d (left pol d (idle d) cs) ≡ true
rules_kept_lem pol d g cs =
    let s : Shaped (system d) = shaped d g in
    left_lawful pol d g (loaded (system d) s g.no_cycle) s cs

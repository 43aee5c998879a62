-- The accepted ticks of the plain machine are a schedule, and one that obeys its policy. Assumes nothing.
use Prim.Native.Nat.{ℕ, zero, suc, ◌+◌, ◌-◌, ◌≤◌, ◌<◌, min, max}
use mathlib.Core.Path.{◌≡◌, refl, sym, ap, ◌∙◌}
use mathlib.Core.Bool.{Bool, true, false, ◌||◌, ◌&&◌, not, cond}
use mathlib.Core.List.{List}
use mathlib.Core.Logic.{◌⊎◌, inl, inr}
use native.Mathlib.Omega.{arith}
use lib.ListN.{length, get_or, length-replicate, get_or-eq_default}
use lib.Dec.{ltb, eqb, leb}
use borrow.Author.Tests.{eqb-true, eqb-false, eq-eqb, ne_eqb, lt-ltb, ltb-true, ltb-false, le-leb, not-true}
use Rattle.model.specs.declared.Description.{Description}
use Rattle.model.specs.declared.Policy.{Policy}
use Rattle.model.specs.declared.Policy.TheVariants.{Preemptive, HoldOn}
use Rattle.model.specs.declared.Machine.{Machine}
use Rattle.model.specs.Basics.{any_n}
use Rattle.model.specs.Graph.{system, run_of, link_at, linked}
use Rattle.model.specs.Delays.{spacing_of}
use Rattle.model.specs.Machine.{awake_at, used_at, age_at, fastest_at, again_at, idle, arrive, running, choose, too_soon}
use Rattle.model.specs.History.{Call}
use Rattle.lemmas.proofs.Tests.{Cmp, less, same, more, cmp, not_both, false_of, true_of, and_left, and_right, and_false_left, or_left, or_right, or_false, or_false_left, or_cases, both}
use Rattle.lemmas.proofs.Range.{Found, any_at, any_found, none_any}
use Rattle.lemmas.proofs.Table.{length-tab, get_d_same}
use Rattle.theory.proofs.WellFormed.{WellFormed, Shaped}
use Rattle.theory.proofs.FileLaws.{knob_known}
use Rattle.assurance.proofs.Firing.{Sized}
use Rattle.assurance.proofs.Arriving.{arrived}
use Rattle.assurance.proofs.Ending.{highest_above, highest_awake}
use Rattle.assurance.proofs.Choosing.{Anew, Kept, chosen, chosen_le, running_le, running_part, part_running}
use Rattle.assurance.proofs.Stepping.{after_stays, after_late, after_wakes, after_fires, after_on, late_stays, late_from, late_fires, over_at, Stepped, step}
use Rattle.assurance.proofs.Potential.{live, live_used, live_pending}
use Rattle.assurance.proofs.Schedule.{Left, Schedule, begins_at, ends_at, Preempts, HoldsOn, Obeys, below}
use Rattle.assurance.proofs.Events.{Latches}
use Rattle.assurance.proofs.Replay.{quiet_call, call_at, state_at, Passed}

-- a run pends where its task is awake and has used nothing, or is to run again; an awake task is live
abbrev pub pend : (ℕ → Bool) → (ℕ → ℕ) → (ℕ → Bool) → ℕ → Bool
pend aw us ag k = (aw k && eqb (us k) 0) || ag k

module _ (aw : ℕ → Bool) (us : ℕ → ℕ) (ag : ℕ → Bool) (k : ℕ) where
  pend_first : aw k ≡ true → us k ≡ 0 → pend aw us ag k ≡ true
  pend_first e q = or_left (aw k && eqb (us k) 0) (ag k) (both (aw k) _ e (eq-eqb (us k) 0 q))

  pend_again : ag k ≡ true → pend aw us ag k ≡ true
  pend_again e = or_right (aw k && eqb (us k) 0) (ag k) e

  -- so it does where an event wakes a task, and marks it again if it is part done
  pend_woken : aw k ≡ true → (0 < us k → ag k ≡ true) → pend aw us ag k ≡ true
  pend_woken e f = go (cmp 0 (us k))
    where
      go : Cmp 0 (us k) → pend aw us ag k ≡ true
      go (less r) = pend_again (f r)
      go (same r) = pend_first e (omega arith)
      go (more r) = absurd (omega arith)

  pend_cases : {C : Type 0} → pend aw us ag k ≡ true → (aw k ≡ true → us k ≡ 0 → C) → (ag k ≡ true → C) → C
  pend_cases e f g =
      or_cases (aw k && eqb (us k) 0) (ag k) e (λ p. f (and_left (aw k) _ p) (eqb-true (us k) 0 (and_right (aw k) _ p))) g

  live_on : aw k ≡ true → live us (pend aw us ag) k ≡ true
  live_on e = go (cmp 0 (us k))
    where
      go : Cmp 0 (us k) → live us (pend aw us ag) k ≡ true
      go (less r) = live_used us (pend aw us ag) k r
      go (same r) = live_pending us (pend aw us ag) k (pend_first e (omega arith))
      go (more r) = absurd (omega arith)

idle_sized : (d : Description) → Sized (idle d)
unfolding idle
idle_sized d = record {
  awakes = length-replicate 32 false;
  useds = length-replicate {A = ℕ} 32 0;
  waitings = length-replicate 256 false;
  droppeds = length-replicate 256 false;
  ages = length-tab 16 _;
  fastests = length-replicate {A = ℕ} 16 0;
  agains = length-replicate 32 false;
  lates = length-replicate 256 false;
}

-- at every tempo of the knob up to q the spacings are at least those of `gap`, which are at least 1
pub record Spaced (d : Description) (q : ℕ) (gap : ℕ → ℕ) : Type 0 where
  pub low : 200 ≤ q
  pub some : (u : ℕ) → 33 ≤ u → u < 33 + d.source_count → 1 ≤ gap u
  pub most : (u t : ℕ) → 33 ≤ u → u < 33 + d.source_count → 200 ≤ t → t ≤ q → gap u ≤ spacing_of d t u

module _ (pol : Policy) (d : Description) (wf : WellFormed d) (ks : List Call) where
  -- the record before tick x, its tempo, its marks of arrival, the task that runs in it and whether its run ends
  abbrev pub at : ℕ → Machine
  at x = state_at pol d (idle d) ks x

  abbrev pub tempo_at : ℕ → ℕ
  tempo_at x = (call_at ks x).tempo

  abbrev pub marks_at : ℕ → List Bool
  marks_at x = (call_at ks x).arrivals.marks

  abbrev pub high_at : ℕ → ℕ
  high_at x = choose pol d (arrive d (marks_at x) (at x))

  abbrev pub end_at : ℕ → Bool
  end_at x = over_at d (high_at x) (call_at ks x).finish (at x)

  pub at_sized : (x : ℕ) → Sized (at x)
  unfolding state_at
  at_sized zero = idle_sized d
  at_sized (suc x) = (step d wf pol (tempo_at x) (marks_at x) (call_at ks x).finish (at x) (at_sized x)).sized

  pub at_step : (x : ℕ) → Stepped d wf (tempo_at x) (marks_at x) (high_at x) (end_at x) (at x) (at (suc x))
  unfolding state_at
  at_step x = step d wf pol (tempo_at x) (marks_at x) (call_at ks x).finish (at x) (at_sized x)

  pub high_low : (x : ℕ) → high_at x ≤ d.task_count
  high_low x = chosen_le pol d (arrive d (marks_at x) (at x))

  -- the record once the sources have fired
  abbrev pub mid_at : ℕ → Machine
  mid_at x = arrive d (marks_at x) (at x)

  -- a source that arrives has a link to k
  abbrev called_at : ℕ → ℕ → Bool
  called_at x k = any_n (λ u. get_or (marks_at x) (u - 33) false && linked d u k) 33 d.source_count

  mid_is : (x k : ℕ) → 1 ≤ k → awake_at (mid_at x) k ≡ (awake_at (at x) k || called_at x k)
  mid_is x k o = (arrived d wf (marks_at x) (at x) (at_sized x)).awake k o

  mid_keeps : (x k : ℕ) → 1 ≤ k → awake_at (at x) k ≡ true → awake_at (mid_at x) k ≡ true
  mid_keeps x k o e = mid_is x k o ∙ or_left (awake_at (at x) k) _ e

  mid_off : (x k : ℕ) → 1 ≤ k → awake_at (mid_at x) k ≡ false → awake_at (at x) k ≡ false
  mid_off x k o e = or_false_left (awake_at (at x) k) _ (sym (mid_is x k o) ∙ e)

  -- who is marked again, and that a mark stays
  again_is : (x k : ℕ) → 1 ≤ k → again_at (mid_at x) k ≡ (again_at (at x) k || (called_at x k && ltb 0 (used_at (at x) k)))
  again_is x k o = (arrived d wf (marks_at x) (at x) (at_sized x)).again k o

  again_keeps : (x k : ℕ) → 1 ≤ k → again_at (at x) k ≡ true → again_at (mid_at x) k ≡ true
  again_keeps x k o e = again_is x k o ∙ or_left (again_at (at x) k) _ e

  -- arrivals leave what is used as it was
  mid_used : (x k : ℕ) → used_at (mid_at x) k ≡ used_at (at x) k
  mid_used x k = ap (λ (us : List ℕ). get_or us (k - 1) 0) (arrived d wf (marks_at x) (at x) (at_sized x)).used

  -- who goes on is part done
  goes_on : (x : ℕ) → 0 < running pol d (mid_at x) → 0 < used_at (at x) (running pol d (mid_at x))
  goes_on x p = rw (mid_used x (running pol d (mid_at x))) at (running_part d wf.fields.few_tasks (mid_at x) pol p)

  -- who sleeps has used nothing: so the task that runs is awake
  abbrev Rests : ℕ → Type 0
  Rests x = (k : ℕ) → 1 ≤ k → awake_at (at x) k ≡ false → used_at (at x) k ≡ 0

  high_awake : (x : ℕ) → Rests x → 0 < high_at x → awake_at (mid_at x) (high_at x) ≡ true
  high_awake x rests p = go (chosen pol d (mid_at x))
    where
      go : Anew pol d (mid_at x) ⊎ Kept pol d (mid_at x) → awake_at (mid_at x) (high_at x) ≡ true
      go (inl c) = rw c.is (highest_awake (mid_at x).awake d.task_count (rw c.is at p))
      go (inr c) =
          let r : ℕ = running pol d (mid_at x) in
          let on : awake_at (at x) r ≡ true = true_of (awake_at (at x) r) (λ e. omega (arith, goes_on x c.some, rests r c.some e)) in
          rw c.is (mid_keeps x r c.some on)

  used_else : (x k : ℕ) → 1 ≤ k → (k ≡ high_at x → ⊥) → used_at (at (suc x)) k ≡ used_at (at x) k
  used_else x k o ne = (at_step x).used k o ∙ rw (ne_eqb k (high_at x) ne)

  stays_awake : (x k : ℕ) → 1 ≤ k → (k ≡ high_at x → ⊥) → awake_at (mid_at x) k ≡ true → awake_at (at (suc x)) k ≡ true
  stays_awake x k o ne e =
      (at_step x).awake k o ∙ after_stays (awake_at (mid_at x) k) (again_at (mid_at x) k) (end_at x) (eqb k (high_at x)) (linked d (high_at x) k) e (λ p q. ne (eqb-true k (high_at x) q))

  -- who sleeps has used nothing
  pub at_rests : (x k : ℕ) → 1 ≤ k → awake_at (at x) k ≡ false → used_at (at x) k ≡ 0
  unfolding state_at idle
  at_rests zero k o e = get_d_same 32 (k - 1) 0
  at_rests (suc x) k o e = go (eqb k (high_at x)) refl (end_at x) refl (at_rests x)
    where
      go : (b : Bool) → eqb k (high_at x) ≡ b → (c : Bool) → end_at x ≡ c → Rests x → used_at (at (suc x)) k ≡ 0
      go true p true q ih = (at_step x).used k o ∙ rw (p, q) refl
      go true p false q ih =
          let y : k ≡ high_at x = eqb-true k (high_at x) p in
          let m : awake_at (mid_at x) k ≡ true = rw y (high_awake x ih (omega arith)) in
          absurd (not_both ((at_step x).awake k o ∙ (after_on (awake_at (mid_at x) k) (again_at (mid_at x) k) (end_at x) (eqb k (high_at x)) (linked d (high_at x) k) q ∙ m)) e)
      go false p c q ih =
          let ne : k ≡ high_at x → ⊥ = eqb-false k (high_at x) p in
          let off : awake_at (at x) k ≡ false = false_of (awake_at (at x) k) (λ y. not_both (stays_awake x k o ne (mid_keeps x k o y)) e) in
          used_else x k o ne ∙ ih k o off

  mid_rests : (x k : ℕ) → 1 ≤ k → awake_at (mid_at x) k ≡ false → used_at (at x) k ≡ 0
  mid_rests x k o e = at_rests x k o (mid_off x k o e)

  -- who is marked again is part done
  part_mid : (x k : ℕ) → 1 ≤ k → (again_at (at x) k ≡ true → 0 < used_at (at x) k) → again_at (mid_at x) k ≡ true → 0 < used_at (at x) k
  part_mid x k o f g =
      or_cases (again_at (at x) k) _ (sym (again_is x k o) ∙ g) f (λ p. ltb-true 0 (used_at (at x) k) (and_right (called_at x k) _ p))

  pub at_again : (x k : ℕ) → 1 ≤ k → again_at (at x) k ≡ true → 0 < used_at (at x) k
  unfolding state_at idle
  at_again zero k o e = absurd (not_both e (get_d_same 32 (k - 1) false))
  at_again (suc x) k o e =
      go (late_from (again_at (mid_at x) k) (end_at x) (eqb k (high_at x)) (linked d (high_at x) k) (ltb 0 (used_at (at (suc x)) k)) (sym ((at_step x).again k o) ∙ e)) (part_mid x k o (at_again x k o))
    where
      on : (b : Bool) → eqb k (high_at x) ≡ b → (c : Bool) → end_at x ≡ c → (c ≡ true → b ≡ false) → 0 < used_at (at x) k → 0 < used_at (at (suc x)) k
      on true p true q f h = absurd (not_both refl (f refl))
      on true p false q f h = rw ((at_step x).used k o, p, q) (omega arith)
      on false p c q f h = rw ((at_step x).used k o, p) h

      go : ((again_at (mid_at x) k ≡ true) × (end_at x ≡ true → eqb k (high_at x) ≡ false)) ⊎ ((end_at x ≡ true) × (linked d (high_at x) k ≡ true) × (ltb 0 (used_at (at (suc x)) k) ≡ true)) → (again_at (mid_at x) k ≡ true → 0 < used_at (at x) k) → 0 < used_at (at (suc x)) k
      go (inl w) ih = on (eqb k (high_at x)) refl (end_at x) refl w.1 (ih w.0)
      go (inr w) ih = ltb-true 0 (used_at (at (suc x)) k) w.2

  mid_again : (x k : ℕ) → 1 ≤ k → again_at (mid_at x) k ≡ true → 0 < used_at (at x) k
  mid_again x k o = part_mid x k o (at_again x k o)

  -- what is pending
  abbrev pub pend_at : ℕ → ℕ → Bool
  pend_at x = pend (awake_at (at x)) (used_at (at x)) (again_at (at x))

  abbrev pend_mid : ℕ → ℕ → Bool
  pend_mid x = pend (awake_at (mid_at x)) (used_at (at x)) (again_at (mid_at x))

  -- who is live is awake
  pub live_awake : (x k : ℕ) → 1 ≤ k → live (used_at (at x)) (pend_at x) k ≡ true → awake_at (at x) k ≡ true
  live_awake x k o e = true_of (awake_at (at x) k) (λ f.
      let z : used_at (at x) k ≡ 0 = at_rests x k o f in
      let g : again_at (at x) k ≡ false = false_of (again_at (at x) k) (λ y. omega (arith, at_again x k o y)) in
      not_both e (rw (z, f, g) refl))

  -- and of those that are part done, the pending ones are marked again
  pub part_again : (x k : ℕ) → pend_at x k ≡ true → 0 < used_at (at x) k → again_at (at x) k ≡ true
  part_again x k e h = pend_cases (awake_at (at x)) (used_at (at x)) (again_at (at x)) k e (λ w z. absurd (omega arith)) (λ g. g)

  -- where none goes on, all above the task that runs sleep
  high_above : (x k : ℕ) → running pol d (mid_at x) ≡ 0 → high_at x < k → k ≤ d.task_count → live (used_at (at x)) (pend_mid x) k ≡ false
  high_above x k z p q = go (chosen pol d (mid_at x))
    where
      go : Anew pol d (mid_at x) ⊎ Kept pol d (mid_at x) → live (used_at (at x)) (pend_mid x) k ≡ false
      go (inl c) =
          let e : awake_at (mid_at x) k ≡ false = highest_above (mid_at x).awake d.task_count k (rw c.is at p) q in
          let z : used_at (at x) k ≡ 0 = mid_rests x k (omega arith) e in
          let g : again_at (mid_at x) k ≡ false = false_of (again_at (mid_at x) k) (λ y. omega (arith, mid_again x k (omega arith) y)) in
          rw (z, e, g) refl
      go (inr c) = absurd (omega (arith, c.some))

  -- so it is where its run begins in this tick, or none runs
  high_begins : (x : ℕ) → used_at (at x) (high_at x) ≡ 0 → running pol d (mid_at x) ≡ 0
  high_begins x z = go (chosen pol d (mid_at x))
    where
      go : Anew pol d (mid_at x) ⊎ Kept pol d (mid_at x) → running pol d (mid_at x) ≡ 0
      go (inl c) = c.none
      go (inr c) = absurd (omega (arith, goes_on x c.some, rw c.is at z))

  high_none : (x : ℕ) → high_at x ≡ 0 → running pol d (mid_at x) ≡ 0
  high_none x z = go (chosen pol d (mid_at x))
    where
      go : Anew pol d (mid_at x) ⊎ Kept pol d (mid_at x) → running pol d (mid_at x) ≡ 0
      go (inl c) = c.none
      go (inr c) = absurd (omega (arith, c.some, rw c.is at z))

  -- what is pending, from tick to tick
  pend_mid_lem : (x k : ℕ) → 1 ≤ k → pend_mid x k ≡ true → (pend_at x k ≡ true) ⊎ Found (λ u. get_or (marks_at x) (u - 33) false && linked d u k) 33 d.source_count
  pend_mid_lem x k o e = pend_cases (awake_at (mid_at x)) (used_at (at x)) (again_at (mid_at x)) k e
      (λ w z. or_cases (awake_at (at x) k) _ (sym (mid_is x k o) ∙ w) (λ p. inl (pend_first (awake_at (at x)) (used_at (at x)) (again_at (at x)) k p z)) (λ p. inr (any_found _ 33 d.source_count p)))
      (λ g. or_cases (again_at (at x) k) _ (sym (again_is x k o) ∙ g) (λ p. inl (pend_again (awake_at (at x)) (used_at (at x)) (again_at (at x)) k p)) (λ p. inr (any_found _ 33 d.source_count (and_left (called_at x k) _ p))))

  pend_keeps : (x k : ℕ) → 1 ≤ k → pend_at x k ≡ true → pend_mid x k ≡ true
  pend_keeps x k o e = pend_cases (awake_at (at x)) (used_at (at x)) (again_at (at x)) k e
      (λ w z. pend_first (awake_at (mid_at x)) (used_at (at x)) (again_at (mid_at x)) k (mid_keeps x k o w) z)
      (λ g. pend_again (awake_at (mid_at x)) (used_at (at x)) (again_at (mid_at x)) k (again_keeps x k o g))

  -- the mark again stays until the run ends, and then its task is awake
  again_stays : (x k : ℕ) → 1 ≤ k → (end_at x ≡ true → eqb k (high_at x) ≡ true → ⊥) → again_at (mid_at x) k ≡ true → again_at (at (suc x)) k ≡ true
  again_stays x k o ne g =
      (at_step x).again k o ∙ late_stays (again_at (mid_at x) k) (end_at x) (eqb k (high_at x)) (linked d (high_at x) k) (ltb 0 (used_at (at (suc x)) k)) g ne

  again_wakes : (x k : ℕ) → 1 ≤ k → end_at x ≡ true → eqb k (high_at x) ≡ true → again_at (mid_at x) k ≡ true → awake_at (at (suc x)) k ≡ true
  again_wakes x k o p q g =
      (at_step x).awake k o ∙ after_late (awake_at (mid_at x) k) (again_at (mid_at x) k) (end_at x) (eqb k (high_at x)) (linked d (high_at x) k) g p q

  pend_kept : (x k : ℕ) → 1 ≤ k → Left (used_at (at x)) (pend_mid x) (high_at x) k → pend_at (suc x) k ≡ true
  pend_kept x k o w = pend_cases (awake_at (mid_at x)) (used_at (at x)) (again_at (mid_at x)) k w.0 first (again (eqb k (high_at x)) refl (end_at x) refl)
    where
      first : awake_at (mid_at x) k ≡ true → used_at (at x) k ≡ 0 → pend_at (suc x) k ≡ true
      first e z =
          let ne : k ≡ high_at x → ⊥ = λ q. omega (arith, w.1 q) in
          pend_first (awake_at (at (suc x))) (used_at (at (suc x))) (again_at (at (suc x))) k (stays_awake x k o ne e) (used_else x k o ne ∙ z)

      again : (b : Bool) → eqb k (high_at x) ≡ b → (c : Bool) → end_at x ≡ c → again_at (mid_at x) k ≡ true → pend_at (suc x) k ≡ true
      again true p true q g =
          pend_first (awake_at (at (suc x))) (used_at (at (suc x))) (again_at (at (suc x))) k (again_wakes x k o q p g) ((at_step x).used k o ∙ rw (p, q) refl)
      again true p false q g =
          pend_again (awake_at (at (suc x))) (used_at (at (suc x))) (again_at (at (suc x))) k (again_stays x k o (λ y z. not_both y q) g)
      again false p c q g =
          pend_again (awake_at (at (suc x))) (used_at (at (suc x))) (again_at (at (suc x))) k (again_stays x k o (λ y z. not_both z p) g)

  pend_from : (x k : ℕ) → 1 ≤ k → pend_at (suc x) k ≡ true → Left (used_at (at x)) (pend_mid x) (high_at x) k ⊎ ((end_at x ≡ true) × (linked d (high_at x) k ≡ true))
  pend_from x k o e = pend_cases (awake_at (at (suc x))) (used_at (at (suc x))) (again_at (at (suc x))) k e first again
    where
      marked : again_at (mid_at x) k ≡ true → Left (used_at (at x)) (pend_mid x) (high_at x) k
      marked g = (pend_again (awake_at (mid_at x)) (used_at (at x)) (again_at (mid_at x)) k g, λ q. mid_again x k o g)

      first : awake_at (at (suc x)) k ≡ true → used_at (at (suc x)) k ≡ 0 → Left (used_at (at x)) (pend_mid x) (high_at x) k ⊎ ((end_at x ≡ true) × (linked d (high_at x) k ≡ true))
      first w none =
          go (after_wakes (awake_at (mid_at x) k) (again_at (mid_at x) k) (end_at x) (eqb k (high_at x)) (linked d (high_at x) k) (sym ((at_step x).awake k o) ∙ w))
        where
          other : (end_at x ≡ true → eqb k (high_at x) ≡ false) → (c : Bool) → end_at x ≡ c → k ≡ high_at x → ⊥
          other f true q y = not_both (eq-eqb k (high_at x) y) (f q)
          other f false q y =
              let h : used_at (at (suc x)) k ≡ suc (used_at (at x) k) = (at_step x).used k o ∙ rw (eq-eqb k (high_at x) y, q) refl in
              omega (arith, none)

          go : ((awake_at (mid_at x) k ≡ true) × (end_at x ≡ true → eqb k (high_at x) ≡ false)) ⊎ (((again_at (mid_at x) k ≡ true) × (end_at x ≡ true) × (eqb k (high_at x) ≡ true)) ⊎ ((end_at x ≡ true) × (linked d (high_at x) k ≡ true))) → Left (used_at (at x)) (pend_mid x) (high_at x) k ⊎ ((end_at x ≡ true) × (linked d (high_at x) k ≡ true))
          go (inr (inr v)) = inr v
          go (inr (inl v)) = inl (marked v.0)
          go (inl v) =
              let ne : k ≡ high_at x → ⊥ = other v.1 (end_at x) refl in
              let z : used_at (at x) k ≡ 0 = sym (used_else x k o ne) ∙ none in
              inl (pend_first (awake_at (mid_at x)) (used_at (at x)) (again_at (mid_at x)) k v.0 z, λ q. absurd (ne q))

      again : again_at (at (suc x)) k ≡ true → Left (used_at (at x)) (pend_mid x) (high_at x) k ⊎ ((end_at x ≡ true) × (linked d (high_at x) k ≡ true))
      again g =
          go (late_from (again_at (mid_at x) k) (end_at x) (eqb k (high_at x)) (linked d (high_at x) k) (ltb 0 (used_at (at (suc x)) k)) (sym ((at_step x).again k o) ∙ g))
        where
          go : ((again_at (mid_at x) k ≡ true) × (end_at x ≡ true → eqb k (high_at x) ≡ false)) ⊎ ((end_at x ≡ true) × (linked d (high_at x) k ≡ true) × (ltb 0 (used_at (at (suc x)) k) ≡ true)) → Left (used_at (at x)) (pend_mid x) (high_at x) k ⊎ ((end_at x ≡ true) × (linked d (high_at x) k ≡ true))
          go (inl v) = inl (marked v.0)
          go (inr v) = inr (v.0, v.1)

  -- an event leaves its task awake, and again if it is part done: so it is pending, once the sources have fired, and after the tick
  pend_arrived : (x u k : ℕ) → 1 ≤ k → 33 ≤ u → u < 33 + d.source_count → get_or (marks_at x) (u - 33) false ≡ true → linked d u k ≡ true → pend_mid x k ≡ true
  pend_arrived x u k o p q e l =
      let w : called_at x k ≡ true = any_at _ 33 d.source_count u p q (both (get_or (marks_at x) (u - 33) false) _ e l) in
      pend_woken (awake_at (mid_at x)) (used_at (at x)) (again_at (mid_at x)) k (mid_is x k o ∙ or_right (awake_at (at x) k) _ w)
      (λ h. again_is x k o ∙ or_right (again_at (at x) k) _ (both (called_at x k) _ w (lt-ltb 0 (used_at (at x) k) h)))

  pend_fired : (x k : ℕ) → 1 ≤ k → end_at x ≡ true → linked d (high_at x) k ≡ true → pend_at (suc x) k ≡ true
  pend_fired x k o e l =
      pend_woken (awake_at (at (suc x))) (used_at (at (suc x))) (again_at (at (suc x))) k
      ((at_step x).awake k o ∙ after_fires (awake_at (mid_at x) k) (again_at (mid_at x) k) (end_at x) (eqb k (high_at x)) (linked d (high_at x) k) e l)
      (λ h. (at_step x).again k o ∙ late_fires (again_at (mid_at x) k) (end_at x) (eqb k (high_at x)) (linked d (high_at x) k) (ltb 0 (used_at (at (suc x)) k)) e l (lt-ltb 0 (used_at (at (suc x)) k) h))

  -- on the hold-on model a task that is part done is the one that runs, for there is but one
  abbrev pub Alone : ℕ → Type 0
  Alone x = (k k' : ℕ) → 1 ≤ k → k ≤ d.task_count → 1 ≤ k' → k' ≤ d.task_count → 0 < used_at (at x) k → 0 < used_at (at x) k' → k ≡ k'

  ran_part : pol ≡ HoldOn → (x : ℕ) → Alone x → (k : ℕ) → 1 ≤ k → k ≤ d.task_count → 0 < used_at (at x) k → high_at x ≡ k
  ran_part e x a k o p u = go (chosen pol d (mid_at x))
    where
      some : 0 < running pol d (mid_at x)
      some = omega (arith, ap (λ (o : Policy). running o d (mid_at x)) e, part_running d wf.fields.few_tasks (mid_at x) k o p (rw (mid_used x k) u))

      go : Anew pol d (mid_at x) ⊎ Kept pol d (mid_at x) → high_at x ≡ k
      go (inl c) = absurd (omega (arith, some, c.none))
      go (inr c) = c.is ∙ a (running pol d (mid_at x)) k some (running_le pol d (mid_at x)) o p (goes_on x some) u

  part_next : pol ≡ HoldOn → (x : ℕ) → Alone x → (k : ℕ) → 1 ≤ k → k ≤ d.task_count → 0 < used_at (at (suc x)) k → high_at x ≡ k
  part_next e x a k o p u = go (eqb k (high_at x)) refl
    where
      go : (b : Bool) → eqb k (high_at x) ≡ b → high_at x ≡ k
      go true f = sym (eqb-true k (high_at x) f)
      go false f = ran_part e x a k o p (rw (used_else x k o (eqb-false k (high_at x) f)) at u)

  pub alone : pol ≡ HoldOn → (x : ℕ) → Alone x
  unfolding state_at idle
  alone e zero k k' o p o' p' u u' = absurd (omega (arith, get_d_same {A = ℕ} 32 (k - 1) 0))
  alone e (suc x) k k' o p o' p' u u' = sym (part_next e x (alone e x) k o p u) ∙ part_next e x (alone e x) k' o' p' u'

  part_ran : pol ≡ HoldOn → (x k : ℕ) → 1 ≤ k → k ≤ d.task_count → 0 < used_at (at x) k → high_at x ≡ k
  part_ran e x = ran_part e x (alone e x)

  -- a link leads to a task
  link_some : (i k : ℕ) → linked d i k ≡ true → 1 ≤ k
  unfolding linked
  link_some i k e =
      let w : Found (λ l. eqb (link_at d l).from i && eqb (link_at d l).to k) 0 d.link_count = any_found _ 0 d.link_count e in
      let q : (link_at d w.at).to ≡ k = eqb-true (link_at d w.at).to k (and_right (eqb (link_at d w.at).from i) _ w.passes) in
      rw q at (wf.fields.link_to w.at (omega (arith, w.within))).0

  end_runs : (x : ℕ) → end_at x ≡ true → 0 < high_at x
  end_runs x e =
      let n : eqb (high_at x) 0 ≡ false = not-true (eqb (high_at x) 0) (and_left (not (eqb (high_at x) 0)) _ e) in
      let ne : high_at x ≡ 0 → ⊥ = eqb-false (high_at x) 0 n in
      omega arith

  end_full : (x : ℕ) → end_at x ≡ false → 0 < high_at x → suc (used_at (at x) (high_at x)) ≡ cond (leb (high_at x) d.task_count) (run_of d (high_at x)) 0 → ⊥
  end_full x e p q =
      let r : suc (used_at (at x) (high_at x)) ≡ run_of d (high_at x) = rw (le-leb (high_at x) d.task_count (high_low x)) at q in
      let n : not (eqb (high_at x) 0) ≡ true = rw (ne_eqb (high_at x) 0 (λ z. omega arith)) refl in
      not_both
      (both (not (eqb (high_at x) 0)) _ n (or_left _ (call_at ks x).finish (eq-eqb (used_at (at x) (high_at x) + 1) (run_of d (high_at x)) (omega arith))))
      e

  -- past the list nothing arrives
  pub marked_in : (x u : ℕ) → get_or (marks_at x) u false ≡ true → x < length ks
  marked_in x u e = go (cmp x (length ks))
    where
      late : length ks ≤ x → ⊥
      late h = not_both e (ap (λ (c : Call). get_or c.arrivals.marks u false) (get_or-eq_default ks quiet_call {n = x} h))

      go : Cmp x (length ks) → x < length ks
      go (less h) = h
      go (same h) = absurd (late (omega arith))
      go (more h) = absurd (late (omega arith))

  -- every tick is an accepted call at a tempo up to q, where the spacings are at least those of `gap`
  module _ (q : ℕ) (gap : ℕ → ℕ) (spaced : Spaced d q gap) (passed : (x : ℕ) → x < length ks → Passed d (tempo_at x) (at x) (marks_at x)) (slow : (x : ℕ) → x < length ks → tempo_at x ≤ q) where
    age_next : (x u : ℕ) → 33 ≤ u → u < 33 + d.source_count → age_at (at (suc x)) (u - 33) ≡ min (spacing_of d 200 u) (cond (get_or (marks_at x) (u - 33) false) 0 (age_at (at x) (u - 33)) + 1)
    age_next x u p q = let e : 33 + (u - 33) ≡ u = omega arith in rw e at ((at_step x).age (u - 33) (omega arith))

    pub tempo_low : (x : ℕ) → tempo_at x ≤ q
    tempo_low x = go (cmp x (length ks))
      where
        late : length ks ≤ x → tempo_at x ≤ q
        late h = rw (ap (λ (c : Call). c.tempo) (get_or-eq_default ks quiet_call {n = x} h)) (omega arith)

        go : Cmp x (length ks) → tempo_at x ≤ q
        go (less r) = slow x r
        go (same r) = late (omega arith)
        go (more r) = late (omega arith)

    -- no kept tempo is above q
    kept_low : (x v : ℕ) → v < 16 → fastest_at (at x) v ≤ q
    unfolding state_at idle
    kept_low zero v p = rw (get_d_same {A = ℕ} 16 v 0) (omega arith)
    kept_low (suc x) v p = rw ((at_step x).fastest v p) (go (get_or (marks_at x) v false) (eqb (fastest_at (at x) v) 0) (kept_low x v p) (tempo_low x))
      where
        go : (b c : Bool) → fastest_at (at x) v ≤ q → tempo_at x ≤ q → cond b (tempo_at x) (cond c 0 (max (fastest_at (at x) v) (tempo_at x))) ≤ q
        go true c f t = t
        go false true f t = omega arith
        go false false f t = omega arith

    ready : (x u : ℕ) → 33 ≤ u → u < 33 + d.source_count → get_or (marks_at x) (u - 33) false ≡ true → gap u ≤ age_at (at x) (u - 33)
    unfolding too_soon
    ready x u p r e =
        let h : x < length ks = marked_in x (u - 33) e in
        let fastest : ℕ = max (fastest_at (at x) (u - 33)) (tempo_at x) in
        let n : (get_or (marks_at x) (u - 33) false && ltb (age_at (at x) (u - 33)) (spacing_of d fastest (33 + (u - 33)))) ≡ false = none_any _ 0 d.source_count (passed x h).spaced (u - 33) (omega arith) (omega arith) in
        let l : ltb (age_at (at x) (u - 33)) (spacing_of d fastest (33 + (u - 33))) ≡ false = rw e at n in
        let b : spacing_of d fastest (33 + (u - 33)) ≤ age_at (at x) (u - 33) = ltb-false _ _ l in
        let y : 33 + (u - 33) ≡ u = omega arith in
        let k : 200 ≤ tempo_at x = (knob_known d (tempo_at x) (passed x h).judged).1 in
        let f : fastest ≤ q = omega (arith, kept_low x (u - 33) (omega (arith, wf.fields.few_sources)), slow x h) in
        let g : gap u ≤ spacing_of d fastest u = spaced.most u fastest p r (omega arith) f in
        omega (arith, rw y at b)

    pub schedule : Schedule (system d) gap
    unfolding system
    schedule = record {
      used = λ x k. used_at (at x) k;
      pending = pend_at;
      pending_mid = pend_mid;
      arr = λ x u. get_or (marks_at x) (u - 33) false;
      age = λ x u. age_at (at x) (u - 33);
      ran = high_at;
      over = end_at;
      unused_first = λ k o. unfold state_at idle in get_d_same 32 (k - 1) 0;
      pending_first = λ k o. or_false (awake_at (at 0) k && eqb (used_at (at 0) k) 0) _ (and_false_left (awake_at (at 0) k) _ (unfold state_at idle in get_d_same 32 (k - 1) false)) (unfold state_at idle in get_d_same 32 (k - 1) false);
      mid_kept = pend_keeps;
      mid_from = pend_mid_lem;
      mid_live = λ x u k p q e l. live_pending (used_at (at x)) (pend_mid x) k (pend_arrived x u k (link_some u k l) p q e l);
      ran_task = high_low;
      ran_live = λ x p. live_on (awake_at (mid_at x)) (used_at (at x)) (again_at (mid_at x)) (high_at x) (high_awake x (at_rests x) p);
      ran_begins = λ x z k p q. high_above x k (high_begins x z) p q;
      ran_none = λ x z k p q. high_above x k (high_none x z) (omega arith) q;
      over_ran = end_runs;
      over_full = end_full;
      used_next = λ x k o. (at_step x).used k o;
      next_kept = pend_kept;
      next_from = pend_from;
      next_live = λ x k e l. live_pending (used_at (at (suc x))) (pend_at (suc x)) k (pend_fired x k (link_some (high_at x) k l) e l);
      age_ready = ready;
      age_fired = λ x u p q e. rw (age_next x u p q, e) (omega arith);
      age_older = λ x u p q. rw (age_next x u p q) (older (get_or (marks_at x) (u - 33) false) (spacing_of d 200 u) (age_at (at x) (u - 33)));
      age_some = λ x u p r. rw (age_next x u p r) (omega (arith, spaced.some u p r, spaced.most u 200 p r (omega arith) spaced.low));
    }
      where
        older : (b : Bool) (m a : ℕ) → min m (cond b 0 a + 1) ≤ suc a
        older true m a = omega arith
        older false m a = omega arith

    -- an event is taken by the run begun next
    pub latched : Latches schedule
    unfolding schedule system
    latched = record {
      from_source_lem = λ i j x p q l e. pend_arrived x i j (link_some i j l) p q e l;
      from_task = λ i j x l e.
          let h : high_at x ≡ i = eqb-true (high_at x) i (and_left (eqb (high_at x) i) _ e) in
          pend_fired x j (link_some i j l) (and_right (eqb (high_at x) i) _ e) (rw h l);
    }

    pub preempts : pol ≡ Preemptive → Preempts schedule
    unfolding schedule system
    preempts e = record { above = λ x k p q. high_above x k (ap (λ (o : Policy). running o d (mid_at x)) e) p q }

    pub holds_on_lem : pol ≡ HoldOn → HoldsOn schedule
    unfolding schedule system
    holds_on_lem e = record { holds = part_ran e }

    -- the same run, read off the record
    pub schedule_arr : (x u : ℕ) → schedule.arr x u ≡ get_or (marks_at x) (u - 33) false
    unfolding schedule
    schedule_arr x u = refl

    pub schedule_begins : (j x : ℕ) → begins_at schedule j x ≡ (eqb (high_at x) j && eqb (used_at (at x) j) 0)
    unfolding schedule
    schedule_begins j x = refl

    pub schedule_ends : (j x : ℕ) → ends_at schedule j x ≡ (eqb (high_at x) j && end_at x)
    unfolding schedule
    schedule_ends j x = refl

    pub schedule_used : (x k : ℕ) → schedule.used x k ≡ used_at (at x) k
    unfolding schedule
    schedule_used x k = refl

    pub schedule_pending : (x k : ℕ) → schedule.pending x k ≡ pend_at x k
    unfolding schedule
    schedule_pending x k = refl

    -- nobody has used a whole run
    pub at_below : Shaped (system d) → (x k : ℕ) → 1 ≤ k → k ≤ d.task_count → used_at (at x) k < run_of d k
    unfolding schedule system
    at_below G x k o p =
        let h : used_at (at x) k < cond (leb k d.task_count) (run_of d k) 0 = below schedule G x k o p in
        rw (le-leb k d.task_count p) at h

-- a schedule's policy, from both
pub obeys : (pol : Policy) (d : Description) (wf : WellFormed d) (ks : List Call) (q : ℕ) (gap : ℕ → ℕ) (spaced : Spaced d q gap) (passed : (x : ℕ) → x < length ks → Passed d (tempo_at pol d wf ks x) (at pol d wf ks x) (marks_at pol d wf ks x)) (slow : (x : ℕ) → x < length ks → tempo_at pol d wf ks x ≤ q) → Obeys (schedule pol d wf ks q gap spaced passed slow) pol
obeys Preemptive d wf ks q gap spaced passed slow = preempts Preemptive d wf ks q gap spaced passed slow refl
obeys HoldOn d wf ks q gap spaced passed slow = holds_on_lem HoldOn d wf ks q gap spaced passed slow refl

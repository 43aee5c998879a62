-- A link's marks: from tick to tick, and what they say of its events (waiting: the last is unserved; late: besides, its task is part done in an earlier run).
-- Assumes nothing.
use Prim.Native.Nat.{ℕ, zero, suc, ◌+◌, ◌-◌, ◌≤◌, ◌<◌}
use mathlib.Core.Path.{◌≡◌, refl, sym, subst, ◌∙◌}
use mathlib.Core.Bool.{Bool, true, false, ◌||◌, ◌&&◌, not, cond}
use mathlib.Core.List.{List}
use mathlib.Core.Logic.{◌⊎◌, inl, inr}
use native.Mathlib.Omega.{arith}
use lib.ListN.{length, get_or}
use lib.Dec.{ltb, eqb}
use borrow.Author.Tests.{eqb-true, eq-eqb, ne_eqb, lt-ltb, ltb-true, le-ltb, not-true}
use Rattle.model.specs.declared.Policy.{Policy}
use Rattle.model.specs.declared.Description.{Description}
use Rattle.model.specs.Graph.{System, system, link_at, linked}
use Rattle.model.specs.Machine.{used_at, waiting_at, dropped_at, late_at, idle}
use Rattle.model.specs.History.{Call}
use Rattle.lemmas.proofs.Tests.{Cmp, less, same, more, cmp, not_both, false_of, and_left, and_right, and_false_left, and_false_right, both, or_left, or_right, or_new, or_else, or_false, or_false_left, or_false_right, or_cases, eqb_sym}
use Rattle.lemmas.proofs.Bools.{or_off, or_idle_right, or_assoc, and_on, and_off}
use Rattle.theory.proofs.WellFormed.{WellFormed, Loaded, IsTask, IsSource}
use Rattle.theory.proofs.Fielded.{linked_at}
use Rattle.assurance.proofs.Arriving.{comes}
use Rattle.assurance.proofs.Stepping.{set_after, late_after}
use Rattle.assurance.proofs.Schedule.{Schedule, begins_at, ends_at, ends_ran, ends_over, ends_of, used_other, used_over, used_on}
use Rattle.assurance.proofs.Events.{Unserved, new, later, Waits, came}
use Rattle.assurance.proofs.Machine.{Spaced, at, tempo_at, marks_at, high_at, end_at, at_step, high_low, schedule, schedule_ends, schedule_used}
use Rattle.assurance.proofs.Replay.{state_at, Passed}
use Rattle.lemmas.proofs.Table.{get_d_same}

-- ev: the ticks in which a link to task j gets an event; wa, la, dr: its marks before each tick. An event that finds j part done is late: it outlives the
-- end of that run.
pub record Marked {s : System} {gap : ℕ → ℕ} (S : Schedule s gap) (j : ℕ) (ev wa la dr : ℕ → Bool) : Type 0 where
  pub wa_first : wa 0 ≡ false
  pub la_first : la 0 ≡ false
  pub dr_first : dr 0 ≡ false
  pub wa_next : (x : ℕ) → wa (suc x) ≡ cond (ends_at S j x) (la x || (ev x && ltb 0 (S.used x j))) (wa x || ev x)
  pub la_next : (x : ℕ) → la (suc x) ≡ ((la x || (ev x && ltb 0 (S.used x j))) && not (ends_at S j x))
  pub dr_next : (x : ℕ) → dr (suc x) ≡ (dr x || (wa x && ev x))

-- every event is taken by the run begun next
abbrev pub never : ℕ → Bool
never x = false

module _ {s : System} {gap : ℕ → ℕ} (S : Schedule s gap) (j : ℕ) (is_task : 1 ≤ j) {ev wa la dr : ℕ → Bool} (M : Marked S j ev wa la dr) where
  -- the event of tick x is the last before tick y, and it is unserved; it is late only if its run has not begun
  pub record Open (y x : ℕ) : Type 0 where
    pub held : Waits S j ev never y x
    pub last : (z : ℕ) → x < z → z < y → ev z ≡ false
    pub unbegun : la y ≡ true → held.begun ≡ false

  -- an event came while the one before it was open
  pub record Drop (n : ℕ) : Type 0 where
    pub second : ℕ
    pub early : second < n
    pub comes_second : ev second ≡ true
    pub since : ℕ
    pub unserved : Open second since

  -- the link is late once the events of tick y have come
  abbrev late_mid : ℕ → Bool
  late_mid y = la y || (ev y && ltb 0 (S.used y j))

  -- who is part done does not begin, and is part done until it ends
  part_goes : (y : ℕ) → 0 < S.used y j → begins_at S j y ≡ false
  part_goes y h = false_of (begins_at S j y) (λ b. omega (arith, eqb-true (S.used y j) 0 (and_right (eqb (S.ran y) j) _ b)))

  part_stays : (y : ℕ) → ends_at S j y ≡ false → 0 < S.used y j → 0 < S.used (suc y) j
  part_stays y e h = go (cmp j (S.ran y))
    where
      other : (j ≡ S.ran y → ⊥) → 0 < S.used (suc y) j
      other ne = omega (arith, used_other S y j is_task ne)

      go : Cmp j (S.ran y) → 0 < S.used (suc y) j
      go (less r) = other (λ q. omega arith)
      go (same r) =
          let f : S.over y ≡ false = false_of (S.over y) (λ o. not_both (ends_of S j y (sym r) o) e) in
          omega (arith, used_on S y j is_task r f)
      go (more r) = other (λ q. omega arith)

  -- and if it did not begin it was so
  part_was : (y : ℕ) → begins_at S j y ≡ false → S.ran y ≡ j → 0 < S.used y j
  part_was y b r = go (cmp 0 (S.used y j))
    where
      go : Cmp 0 (S.used y j) → 0 < S.used y j
      go (less h) = h
      go (same h) =
          absurd (not_both (both (eqb (S.ran y) j) _ (eq-eqb (S.ran y) j r) (eq-eqb (S.used y j) 0 (sym h))) b)
      go (more h) = absurd (omega arith)

  part_back : (y : ℕ) → begins_at S j y ≡ false → 0 < S.used (suc y) j → 0 < S.used y j
  part_back y b h = go (cmp j (S.ran y))
    where
      go : Cmp j (S.ran y) → 0 < S.used y j
      go (less r) = omega (arith, used_other S y j is_task (λ q. omega arith))
      go (same r) = part_was y b (sym r)
      go (more r) = omega (arith, used_other S y j is_task (λ q. omega arith))

  -- what is late waits, for a task that is part done
  late_on : (y : ℕ) → la (suc y) ≡ true → (late_mid y ≡ true) × (ends_at S j y ≡ false)
  late_on y e =
      let on : (late_mid y && not (ends_at S j y)) ≡ true = sym (M.la_next y) ∙ e in
      (and_left (late_mid y) _ on, not-true (ends_at S j y) (and_right (late_mid y) _ on))

  part_mid : (y : ℕ) → (la y ≡ true → 0 < S.used y j) → late_mid y ≡ true → 0 < S.used y j
  part_mid y f e = or_cases (la y) _ e f (λ p. ltb-true 0 (S.used y j) (and_right (ev y) _ p))

  pub late_part : (y : ℕ) → la y ≡ true → 0 < S.used y j
  late_part zero e = absurd (not_both e M.la_first)
  late_part (suc y) e = part_stays y (late_on y e).1 (part_mid y (late_part y) (late_on y e).0)

  pub late_waits : (y : ℕ) → la y ≡ true → wa y ≡ true
  late_waits zero e = absurd (not_both e M.la_first)
  late_waits (suc y) e =
      M.wa_next y ∙ rw (late_on y e).1 (or_cases (la y) _ (late_on y e).0 (λ p. or_left (wa y) (ev y) (late_waits y p)) (λ p. or_right (wa y) (ev y) (and_left (ev y) _ p)))

  -- a tick that leaves it unserved, and the event's own
  open_step : (y x : ℕ) (o : Open y x) → ev y ≡ false → ((o.held.begun || begins_at S j y) && ends_at S j y) ≡ false → (la (suc y) ≡ true → (o.held.begun || begins_at S j y) ≡ false) → Open (suc y) x
  open_step y x o e f g = record {
    held = record { before = omega (arith, o.held.before); begun = o.held.begun || begins_at S j y; unserved = later o.held.unserved f };
    last = λ z p q. at z p (cmp z y) q;
    unbegun = g;
  }
    where
      at : (z : ℕ) → x < z → Cmp z y → z < suc y → ev z ≡ false
      at z p (less r) q = o.last z p r
      at z p (same r) q = rw r e
      at z p (more r) q = absurd (omega arith)

  open_new : (y : ℕ) → ev y ≡ true → (begins_at S j y && ends_at S j y) ≡ false → (la (suc y) ≡ true → begins_at S j y ≡ false) → Open (suc y) y
  open_new y e f g = record {
    held = record { before = omega arith; begun = begins_at S j y; unserved = later (new e) f };
    last = λ z p q. absurd (omega arith);
    unbegun = g;
  }

  pub waiting_open : (y : ℕ) → wa y ≡ true → (x : ℕ) × Open y x
  waiting_open zero e = absurd (not_both e M.wa_first)
  waiting_open (suc y) e = go (ev y) refl (ends_at S j y) refl (waiting_open y)
    where
      on : cond (ends_at S j y) (late_mid y) (wa y || ev y) ≡ true
      on = sym (M.wa_next y) ∙ e

      goes : late_mid y ≡ true → begins_at S j y ≡ false
      goes h = part_goes y (part_mid y (late_part y) h)

      go : (b : Bool) → ev y ≡ b → (c : Bool) → ends_at S j y ≡ c → (wa y ≡ true → (x : ℕ) × Open y x) → (x : ℕ) × Open (suc y) x
      go true f true q ih =
          let b : begins_at S j y ≡ false = goes (rw q at on) in
          (y, open_new y f (and_false_left (begins_at S j y) _ b) (λ h. b))
      go true f false q ih = (y, open_new y f (and_false_right (begins_at S j y) _ q) (λ h. goes (late_on y h).0))
      go false f true q ih =
          let h : late_mid y ≡ true = rw q at on in
          let t : la y ≡ true = or_else (la y) _ (and_false_left (ev y) _ f) h in
          let (x, o) = ih (late_waits y t) in
          let b : (o.held.begun || begins_at S j y) ≡ false = or_false o.held.begun _ (o.unbegun t) (goes h) in
          (x, open_step y x o f (and_false_left (o.held.begun || begins_at S j y) _ b) (λ k. b))
      go false f false q ih =
          let h : (wa y || ev y) ≡ true = rw q at on in
          let (x, o) = ih (or_else (wa y) (ev y) f h) in (
            x,
            open_step y x o f (and_false_right (o.held.begun || begins_at S j y) _ q) (λ k.
                or_false o.held.begun _ (o.unbegun (or_else (la y) _ (and_false_left (ev y) _ f) (late_on y k).0)) (goes (late_on y k).0)),
          )

  -- and back: what is unserved waits, and is late while its task is part done and its run has not begun
  waits_on : (y : ℕ) (b : Bool) → (wa y || ev y) ≡ true → (b ≡ false → 0 < S.used y j → late_mid y ≡ true) → ((b || begins_at S j y) && ends_at S j y) ≡ false → (wa (suc y) ≡ true) × ((b || begins_at S j y) ≡ false → 0 < S.used (suc y) j → la (suc y) ≡ true)
  waits_on y b w f u = go (ends_at S j y) refl
    where
      go : (c : Bool) → ends_at S j y ≡ c → (wa (suc y) ≡ true) × ((b || begins_at S j y) ≡ false → 0 < S.used (suc y) j → la (suc y) ≡ true)
      go true e =
          let n : (b || begins_at S j y) ≡ false = false_of (b || begins_at S j y) (λ t. not_both (both (b || begins_at S j y) _ t e) u) in
          let h : 0 < S.used y j = part_was y (or_false_right b _ n) (ends_ran S j y e) in
          (M.wa_next y ∙ rw e (f (or_false_left b _ n) h), λ p q. absurd (omega (arith, used_over S y j is_task (sym (ends_ran S j y e)) (ends_over S j y e))))
      go false e =
          (M.wa_next y ∙ rw e w, λ p q. M.la_next y ∙ rw e (both (late_mid y) true (f (or_false_left b _ p) (part_back y (or_false_right b _ p) q)) refl))

  waits_marked : {x y : ℕ} {b : Bool} → Unserved S j ev never x y b → x < y → (wa y ≡ true) × (b ≡ false → 0 < S.used y j → la y ≡ true)
  waits_marked (new e) p = absurd (omega arith)
  waits_marked (later {y = y} (new e) f) p =
      waits_on y false (or_right (wa y) (ev y) e) (λ a h. or_right (la y) _ (both (ev y) _ e (lt-ltb 0 (S.used y j) h))) f
  waits_marked (later {y = y} {b = b} (later u g) f) p =
      let ih = waits_marked (later u g) (omega (arith, (came S j u).1)) in
      waits_on y b (or_left (wa y) (ev y) ih.0) (λ a h. or_left (la y) _ (ih.1 a h)) f

  open_waiting : (y x : ℕ) → Waits S j ev never y x → wa y ≡ true
  open_waiting y x w = (waits_marked w.unserved w.before).0

  pub dropped_drop : (n : ℕ) → dr n ≡ true → Drop n
  dropped_drop zero e = absurd (not_both e M.dr_first)
  dropped_drop (suc n) e = go (dr n) refl (dropped_drop n)
    where
      on : (dr n || (wa n && ev n)) ≡ true
      on = sym (M.dr_next n) ∙ e

      go : (b : Bool) → dr n ≡ b → (dr n ≡ true → Drop n) → Drop (suc n)
      go true w ih =
          let k : Drop n = ih w in
          record { second = k.second; early = omega (arith, k.early); comes_second = k.comes_second; since = k.since; unserved = k.unserved }
      go false w ih =
          let f : (wa n && ev n) ≡ true = or_new (dr n) (wa n && ev n) w on in
          let (x, o) = waiting_open n (and_left (wa n) (ev n) f) in
          record { second = n; early = omega arith; comes_second = and_right (wa n) (ev n) f; since = x; unserved = o }

  pub drop-dropped : (n y x : ℕ) → y < n → Waits S j ev never y x → ev y ≡ true → dr n ≡ true
  drop-dropped zero y x p w e = absurd (omega arith)
  drop-dropped (suc n) y x p w e = M.dr_next n ∙ go (cmp y n) (λ r. drop-dropped n y x r w e)
    where
      go : Cmp y n → (y < n → dr n ≡ true) → (dr n || (wa n && ev n)) ≡ true
      go (less r) ih = or_left (dr n) _ (ih r)
      go (same r) ih = or_right (dr n) (wa n && ev n) (both (wa n) (ev n) (rw r at (open_waiting y x w)) (rw r at e))
      go (more r) ih = absurd (omega arith)

-- laws of tests
source_wait : (w t o e : Bool) → set_after w t o e false ≡ cond (e && o) t w
source_wait w t true true = or_off t
source_wait w t true false = or_off w
source_wait w t false true = or_off w
source_wait w t false false = or_off w

task_wait : (w t p o e f : Bool) → (e ≡ true → f ≡ true → ⊥) → set_after (w || false) (t || (false && p)) o e f ≡ cond (e && o) (t || ((f && o) && p)) (w || (f && o))
task_wait w t p o true true h = absurd (h refl refl)
task_wait w t p true true false h = or_off (t || false)
task_wait w t p false true false h = or_off (w || false)
task_wait w t p true false true h = or_assoc w false true
task_wait w t p true false false h = or_off (w || false)
task_wait w t p false false true h = or_off (w || false)
task_wait w t p false false false h = or_off (w || false)

source_late : (t o e u : Bool) → late_after t o e false u ≡ (t && not (e && o))
source_late t true true u = or_off (t && false)
source_late t true false u = or_off (t && true)
source_late t false true u = or_off (t && true)
source_late t false false u = or_off (t && true)

task_late : (t p o e f u : Bool) → (e ≡ true → f ≡ true → ⊥) → (e ≡ false → u ≡ p) → late_after (t || (false && p)) o e f u ≡ ((t || ((f && o) && p)) && not (e && o))
task_late t p o true true u h k = absurd (h refl refl)
task_late t p true true false u h k = or_off ((t || false) && false)
task_late t p false true false u h k = or_off ((t || false) && true)
task_late true p true false true u h k = refl
task_late false p true false true u h k = k refl ∙ sym (and_on p true refl)
task_late t p true false false u h k = or_off ((t || false) && true)
task_late t p false false true u h k = or_off ((t || false) && true)
task_late t p false false false u h k = or_off ((t || false) && true)

source_drop : (d k o : Bool) → (d || (k && (o && false))) ≡ d
source_drop d k true = sym (or_idle_right d k false refl)
source_drop d k false = sym (or_idle_right d k false refl)

task_drop : (d w t o e f : Bool) → (e ≡ true → f ≡ true → ⊥) → ((d || (w && false)) || (cond (o && e) t (w || false) && (o && f))) ≡ (d || (w && (f && o)))
task_drop d w t o true true h = absurd (h refl refl)
task_drop true w t o true false h = refl
task_drop false true t true true false h = and_off t
task_drop false true t false true false h = refl
task_drop false false t true true false h = and_off t
task_drop false false t false true false h = refl
task_drop true w t o false f h = refl
task_drop false true t true false true h = refl
task_drop false true t true false false h = refl
task_drop false true t false false true h = refl
task_drop false true t false false false h = refl
task_drop false false t true false f h = refl
task_drop false false t false false f h = refl

-- the marks of a link from one node to another after a tick of task h, o saying whether its run ended, p and u whether its own task is part done before the
-- tick and after it: by tests on numbers alone
module _ (marks : List Bool) (n from to h : ℕ) (low : h ≤ 32) (differ : from ≡ to → ⊥) where
  comes_task : from ≤ 32 → comes marks n from ≡ false
  unfolding comes
  comes_task p = rw (le-ltb 32 from p) refl

  comes_source : 33 ≤ from → from < 33 + n → comes marks n from ≡ get_or marks (from - 33) false
  unfolding comes
  comes_source p q = rw (lt-ltb 32 from p, lt-ltb (from - 33) n (omega arith)) refl

  apart : eqb to h ≡ true → eqb from h ≡ true → ⊥
  apart a b = differ (eqb-true from h b ∙ sym (eqb-true to h a))

  abbrev fires : Bool → Bool
  fires o = cond (ltb from 33) (eqb h from && o) (get_or marks (from - 33) false)

  waits_after : (w t p o : Bool) → (from ≤ 32) ⊎ ((33 ≤ from) × (from < 33 + n)) → set_after (w || comes marks n from) (t || (comes marks n from && p)) o (eqb to h) (eqb from h) ≡ cond (eqb h to && o) (t || (fires o && p)) (w || fires o)
  waits_after w t p o (inl q) =
      rw (comes_task q, lt-ltb from 33 (omega arith), eqb_sym h from, eqb_sym h to) (task_wait w t p o (eqb to h) (eqb from h) apart)
  waits_after w t p o (inr q) =
      rw (comes_source q.0 q.1, le-ltb from 33 q.0, eqb_sym h to, ne_eqb from h (λ e. omega (arith, q.0)))
      (source_wait (w || get_or marks (from - 33) false) (t || (get_or marks (from - 33) false && p)) o (eqb to h))

  late_after_lem : (t p o u : Bool) → (eqb to h ≡ false → u ≡ p) → (from ≤ 32) ⊎ ((33 ≤ from) × (from < 33 + n)) → late_after (t || (comes marks n from && p)) o (eqb to h) (eqb from h) u ≡ ((t || (fires o && p)) && not (eqb h to && o))
  late_after_lem t p o u k (inl q) =
      rw (comes_task q, lt-ltb from 33 (omega arith), eqb_sym h from, eqb_sym h to) (task_late t p o (eqb to h) (eqb from h) u apart k)
  late_after_lem t p o u k (inr q) =
      rw (comes_source q.0 q.1, le-ltb from 33 q.0, eqb_sym h to, ne_eqb from h (λ e. omega (arith, q.0)))
      (source_late (t || (get_or marks (from - 33) false && p)) o (eqb to h) u)

  drops_after : (d w t p o : Bool) → (from ≤ 32) ⊎ ((33 ≤ from) × (from < 33 + n)) → ((d || (w && comes marks n from)) || (cond (o && eqb to h) (t || (comes marks n from && p)) (w || comes marks n from) && (o && eqb from h))) ≡ (d || (w && fires o))
  drops_after d w t p o (inl q) =
      rw (comes_task q, lt-ltb from 33 (omega arith), eqb_sym h from) (task_drop d w (t || (false && p)) o (eqb to h) (eqb from h) apart)
  drops_after d w t p o (inr q) =
      rw (comes_source q.0 q.1, le-ltb from 33 q.0, ne_eqb from h (λ e. omega (arith, q.0)))
      (source_drop (d || (w && get_or marks (from - 33) false)) (cond (o && eqb to h) (t || (get_or marks (from - 33) false && p)) (w || get_or marks (from - 33) false)) o)

module _ (pol : Policy) (d : Description) (wf : WellFormed d) (L : Loaded (system d)) (ks : List Call) where
  -- node i fires in tick x; the run of j ends in it
  abbrev pub fires_in : ℕ → ℕ → Bool
  fires_in i x = cond (ltb i 33) (eqb (high_at pol d wf ks x) i && end_at pol d wf ks x) (get_or (marks_at pol d wf ks x) (i - 33) false)

  abbrev pub ends_in : ℕ → ℕ → Bool
  ends_in j x = eqb (high_at pol d wf ks x) j && end_at pol d wf ks x

  module _ (l : ℕ) (p : l < d.link_count) where
    abbrev from : ℕ
    from = (link_at d l).from

    abbrev to : ℕ
    to = (link_at d l).to

    pub link_here : linked d from to ≡ true
    link_here = linked_at d l p

    pub not_self : from ≡ to → ⊥
    unfolding system
    not_self e =
        let h : linked d from from ≡ true = subst (λ (k : ℕ). linked d from k ≡ true) (sym e) link_here in
        omega (arith, L.falls from from h)

    low : (x : ℕ) → high_at pol d wf ks x ≤ 32
    low x = omega (arith, high_low pol d wf ks x, wf.fields.few_tasks)

    pub kind : (from ≤ 32) ⊎ ((33 ≤ from) × (from < 33 + d.source_count))
    unfolding system
    kind = go (wf.fields.link_from l p)
      where
        go : IsTask (system d) from ⊎ IsSource (system d) from → (from ≤ 32) ⊎ ((33 ≤ from) × (from < 33 + d.source_count))
        go (inl q) = let h : from ≤ d.task_count = q.1 in inl (omega (arith, wf.fields.few_tasks))
        go (inr q) = inr q

    -- whether its task is part done before tick x
    abbrev part : ℕ → Bool
    part x = ltb 0 (used_at (at pol d wf ks x) to)

    waiting_next : (x : ℕ) → waiting_at (at pol d wf ks (suc x)) l ≡ cond (ends_in to x) (late_at (at pol d wf ks x) l || (fires_in from x && part x)) (waiting_at (at pol d wf ks x) l || fires_in from x)
    waiting_next x =
        (at_step pol d wf ks x).waiting l p ∙ waits_after (marks_at pol d wf ks x) d.source_count from to (high_at pol d wf ks x) (low x) not_self (waiting_at (at pol d wf ks x) l) (late_at (at pol d wf ks x) l) (part x) (end_at pol d wf ks x) kind

    late_next : (x : ℕ) → late_at (at pol d wf ks (suc x)) l ≡ ((late_at (at pol d wf ks x) l || (fires_in from x && part x)) && not (ends_in to x))
    late_next x =
        (at_step pol d wf ks x).late l p ∙ late_after_lem (marks_at pol d wf ks x) d.source_count from to (high_at pol d wf ks x) (low x) not_self (late_at (at pol d wf ks x) l) (part x) (end_at pol d wf ks x) (part (suc x)) (λ e. rw ((at_step pol d wf ks x).used to (wf.fields.link_to l p).0, e) refl) kind

    dropped_next : (x : ℕ) → dropped_at (at pol d wf ks (suc x)) l ≡ (dropped_at (at pol d wf ks x) l || (waiting_at (at pol d wf ks x) l && fires_in from x))
    dropped_next x =
        (at_step pol d wf ks x).dropped l p ∙ drops_after (marks_at pol d wf ks x) d.source_count from to (high_at pol d wf ks x) (low x) not_self (dropped_at (at pol d wf ks x) l) (waiting_at (at pol d wf ks x) l) (late_at (at pol d wf ks x) l) (part x) (end_at pol d wf ks x) kind

    -- the marks of the link at place l, over the schedule of accepted ticks
    module _ (q : ℕ) (gap : ℕ → ℕ) (spaced : Spaced d q gap) (passed : (x : ℕ) → x < length ks → Passed d (tempo_at pol d wf ks x) (at pol d wf ks x) (marks_at pol d wf ks x)) (slow : (x : ℕ) → x < length ks → tempo_at pol d wf ks x ≤ q) where
      pub link_marked : Marked (schedule pol d wf ks q gap spaced passed slow) to (fires_in from) (λ x. waiting_at (at pol d wf ks x) l) (λ x. late_at (at pol d wf ks x) l) (λ x. dropped_at (at pol d wf ks x) l)
      unfolding state_at idle
      link_marked = record {
        wa_first = get_d_same 256 l false;
        la_first = get_d_same 256 l false;
        dr_first = get_d_same 256 l false;
        wa_next = λ x. rw (schedule_ends pol d wf ks q gap spaced passed slow to x, schedule_used pol d wf ks q gap spaced passed slow x to) (waiting_next x);
        la_next = λ x. rw (schedule_ends pol d wf ks q gap spaced passed slow to x, schedule_used pol d wf ks q gap spaced passed slow x to) (late_next x);
        dr_next = dropped_next;
      }

-- Calls in which nothing comes, while no task is awake or while a run that has begun goes on: each is a tick that only counts. Assumes nothing.
use Prim.Native.Nat.{ℕ, zero, suc, ◌+◌, ◌-◌, ◌*◌, ◌/◌, ◌≤◌, ◌<◌}
use mathlib.Core.Path.{◌≡◌, refl, sym, ap, subst, ◌∙◌}
use mathlib.Core.Bool.{true, false}
use lib.Dec.{eqb}
use lib.Seq.{get_or-set_same}
use borrow.Author.Tests.{ne_eqb}
use mathlib.Core.List.{List}
use native.Mathlib.Omega.{arith}
use lib.ListN.{length, get_or, set, take}
use Rattle.model.specs.declared.Description.{Description}
use Rattle.model.specs.declared.Policy.{Policy}
use Rattle.model.specs.declared.Machine.{Machine}
use Rattle.model.specs.declared.Ticked.{Ticked}
use Rattle.model.specs.Refusals.{Outcome, Done, of_outcome}
use Rattle.model.specs.Header.{number_in}
use Rattle.model.specs.Graph.{run_of}
use Rattle.model.specs.File.{judge}
use Rattle.model.specs.Verdicts.{on_knob}
use Rattle.model.specs.Machine.{idle, age_all, stepped, plain_tick}
use Rattle.model.specs.History.{Call, left}
use Rattle.model.specs.Run.{marks_in, call_in, calls_in, page}
use Rattle.theory.proofs.WellFormed.{WellFormed}
use Rattle.words.specs.declared.Words.{Words}
use Rattle.sets.specs.Sets.{member}
use Rattle.words.specs.Words.{awake_in, Holds, Goes}
use Rattle.steps.specs.Steps.{Chosen, worked}
use Rattle.words.proofs.WordLaws.{SameMarks}
use Rattle.steps.proofs.MarkLaws.{marks_more}
use Rattle.steps.proofs.ChoiceLaws.{goes_more, goes_same}
use Rattle.steps.proofs.StepLaws.{work_none, work_on, passes, set_same}
use Rattle.lemmas.proofs.Tests.{within, or_false}
use Rattle.lemmas.proofs.Table.{set_twice}
use Rattle.machine.specs.Calls.{Tracks}
use Rattle.passing.specs.Passing.{later_by}
use Rattle.machine.proofs.CallLaws.{judged_at, rests_on, strangers_none, silent_known, silent_soon, silent_arrive, silent_keeps, end_none, tick_done, tracked, lawful_rules, going_awake, same_length}
use Rattle.runs.proofs.RunLaws.{calls_length, calls_at, run_left, run_code, kept}

module _ (pol : Policy) (d : Description) (g : WellFormed d) (j : judge d ≡ Done) (bytes since fastest : List ℕ) where
  abbrev cs : List Call
  cs = calls_in bytes

  abbrev before : ℕ → Machine
  before i = left pol d (idle d) (take i cs)

  -- in call i nothing comes, and no faster tempo is given than the fastest so far
  pub record QuietAt (peak i : ℕ) : Type 0 where
    pub within : i < length bytes / 6
    pub none : number_in bytes (6 * i) 2 ≡ 0
    pub least : 200 ≤ number_in bytes (6 * i + 2) 2
    pub most : number_in bytes (6 * i + 2) 2 ≤ peak

  -- one such call, by what steps 2 to 4 make of its words
  module _ (w w' : Words) (used used' : List ℕ) (i : ℕ) (q : QuietAt w.peak i) (R : Tracks pol d w used since fastest (before i)) (low : w'.low ≡ w.low) (peak : w'.peak ≡ w.peak) (goes : Goes pol w'.running used') (held : Holds d w' used' since (age_all d (worked pol d (call_in bytes i).finish (before i)))) where
    abbrev c : Call
    c = call_in bytes i

    abbrev mask : ℕ
    mask = number_in bytes (6 * i) 2

    on : on_knob c.tempo ≡ true
    on = rests_on c.tempo w.peak q.least q.most R.keeps.high

    done : record { outcome = Done; machine = stepped pol d c.tempo (marks_in mask) c.finish (before i) } ≡ plain_tick pol d c.tempo (before i) (record { marks = marks_in mask }) c.finish
    done = tick_done pol d c.tempo mask (before i) c.finish (judged_at d c.tempo j on) (kept pol d (take i cs) (before i) g refl) (sym (end_none d c.tempo mask (before i) (strangers_none d mask (silent_known d mask g q.none)) (silent_soon d c.tempo mask (before i) g q.none)))

    inside : i < length cs
    inside = omega (arith, q.within, calls_length bytes)

    pub silent_on : Tracks pol d w' used' since fastest (before (i + 1))
    silent_on =
        subst (λ (k : Machine). Tracks pol d w' used' since fastest k) (ap (λ (x : Ticked). x.machine) done ∙ run_left pol d cs (idle d) i c inside (calls_at bytes i q.within))
        (tracked pol d c.tempo mask c.finish w w w' used used' since since fastest fastest (before i) g (within 200 c.tempo 3000 on).1 R (silent_keeps c.tempo mask w fastest (before i) q.none R.keeps) low (omega (arith, q.most)) goes
        (subst (λ (k : Machine). Holds d w' used' since (age_all d (worked pol d c.finish k))) (silent_arrive d mask (before i) g q.none) held))

    pub silent_code : get_or (page pol d cs) i 0 ≡ 0
    silent_code =
        sym (ap (λ (o : Outcome). (of_outcome o).number) (ap (λ (x : Ticked). x.outcome) done) ∙ run_code pol d cs (idle d) i c inside (calls_at bytes i q.within))

  -- the task that goes on is awake
  going : (w : Words) (used : List ℕ) (i : ℕ) → Tracks pol d w used since fastest (before i) → 0 < w.running → awake_in w w.running ≡ true
  going w used i R = going_awake pol d w used since (before i) (lawful_rules pol d (before i) (kept pol d (take i cs) (before i) g refl)) R.goes R.holds

  later_same : (w : Words) → SameMarks w (later_by 1 w)
  later_same w = record { woken = refl; part = refl; fresh = refl; taken = refl; dropped = refl }

  -- so many ticks later, by the number
  abbrev pub at : Words → ℕ → Words
  at w n = record { woken = w.woken; part = w.part; running = w.running; fresh = w.fresh; taken = w.taken; dropped = w.dropped; tick = n; low = w.low; peak = w.peak }

  -- no task is awake
  module _ (used : List ℕ) where
    module _ (w : Words) (i : ℕ) (z : (k : ℕ) → awake_in w k ≡ false) (q : QuietAt w.peak i) (R : Tracks pol d w used since fastest (before i)) where
      idle_held : Holds d (later_by 1 w) used since (age_all d (worked pol d (call_in bytes i).finish (before i)))
      idle_held =
          passes d w (later_by 1 w) used since (worked pol d (call_in bytes i).finish (before i)) g (later_same w) refl (work_none pol d w used since (call_in bytes i).finish (before i) g (going w used i R) z R.goes R.holds)

      idle_on : Tracks pol d (later_by 1 w) used since fastest (before (i + 1))
      idle_on = silent_on w (later_by 1 w) used used i q R refl refl R.goes idle_held

      idle_code : get_or (page pol d cs) i 0 ≡ 0
      idle_code = silent_code w (later_by 1 w) used used i q R refl refl R.goes idle_held

    module _ (w : Words) (from : ℕ) (z : (k : ℕ) → awake_in w k ≡ false) (R : Tracks pol d w used since fastest (before from)) where
      pub idles_on : (k : ℕ) → ((i : ℕ) → from ≤ i → i < from + k → QuietAt w.peak i) → Tracks pol d (later_by k w) used since fastest (before (from + k))
      idles_on zero q =
          let a : from ≡ from + 0 = omega arith in
          let b : w.tick ≡ w.tick + 0 = omega arith in
          subst (λ n. Tracks pol d (at w n) used since fastest (before (from + 0))) b (subst (λ n. Tracks pol d w used since fastest (before n)) a R)
      idles_on (suc k) q =
          let a : from + k + 1 ≡ from + suc k = omega arith in
          let b : w.tick + k + 1 ≡ w.tick + suc k = omega arith in
          let ih : Tracks pol d (later_by k w) used since fastest (before (from + k)) = idles_on k (λ i x y. q i x (omega arith)) in
          subst (λ n. Tracks pol d (at w n) used since fastest (before (from + suc k))) b (subst (λ n. Tracks pol d (later_by 1 (later_by k w)) used since fastest (before n)) a (idle_on (later_by k w) (from + k) z (q (from + k) (omega arith) (omega arith)) ih))

      pub idles_code : (k : ℕ) → ((i : ℕ) → from ≤ i → i < from + k → QuietAt w.peak i) → (i : ℕ) → from ≤ i → i < from + k → get_or (page pol d cs) i 0 ≡ 0
      idles_code k q i x y =
          let n : ℕ = i - from in
          let a : from + n ≡ i = omega arith in
          idle_code (later_by n w) i z (q i x y) (subst (λ v. Tracks pol d (later_by n w) used since fastest (before v)) a (idles_on n (λ l u v. q l u (omega arith))))

  -- the task that runs has begun, and goes on
  module _ (w : Words) (awake h : ℕ) (set_is : (k : ℕ) → member awake k ≡ awake_in w k) (l : Chosen w.running awake h) (p : 1 ≤ h) (most : h ≤ 32) where
    abbrev spent : List ℕ → ℕ
    spent used = get_or used (h - 1) 0

    module _ (n : ℕ) (used : List ℕ) (i : ℕ) (q : QuietAt w.peak i) (f : get_or bytes (6 * i + 4) 0 ≡ 0) (some : 0 < spent used) (low : spent used + 1 < run_of d h) (R : Tracks pol d (at w n) used since fastest (before i)) where
      abbrev w₁ : Words
      w₁ = at w n

      abbrev used₁ : List ℕ
      used₁ = set used (h - 1) (spent used + 1)

      held : Holds d (later_by 1 w₁) used₁ since (age_all d (worked pol d (call_in bytes i).finish (before i)))
      held =
          passes d (at w n) (later_by 1 (at w n)) (set used (h - 1) (spent used + 1)) since (worked pol d (call_in bytes i).finish (before i)) g (later_same (at w n)) refl
          (work_on pol d (at w n) used since d.runs (call_in bytes i).finish (before i) g (λ k x. refl) (going (at w n) used i R) R.goes R.holds awake set_is h l p most (at w n)
          (marks_more d (at w n) (before i) h (spent used + 1) p most (omega (arith, some, ap (λ (us : List ℕ). get_or us (h - 1) 0) R.holds.same_used)) (omega arith) R.holds.marks) refl
          (or_false (eqb (spent used + 1) (run_of d h)) _ (ne_eqb (spent used + 1) (run_of d h) (λ e. omega (arith, low))) (rw f refl)))

      goes : Goes pol w.running used₁
      goes = goes_more pol w.running used h p most (same_length R.holds) l.goes R.goes w.running (spent used + 1) (omega arith) (goes_same pol w.running used h p most (same_length R.holds) l.goes R.goes some)

      on_one : Tracks pol d (at w (n + 1)) used₁ since fastest (before (i + 1))
      on_one = silent_on (at w n) (later_by 1 (at w n)) used used₁ i q R refl refl goes held

      on_code : get_or (page pol d cs) i 0 ≡ 0
      on_code = silent_code (at w n) (later_by 1 (at w n)) used used₁ i q R refl refl goes held

    module _ (used : List ℕ) (from : ℕ) (some : 0 < spent used) (R : Tracks pol d w used since fastest (before from)) where
      abbrev Passed : ℕ → Type 0
      Passed k = (i : ℕ) → from ≤ i → i < from + k → QuietAt w.peak i × (get_or bytes (6 * i + 4) 0 ≡ 0)

      many : h - 1 < length used
      many = omega (arith, same_length R.holds)

      pub runs_on : (k : ℕ) → spent used + k < run_of d h → Passed k → Tracks pol d (at w (w.tick + k)) (set used (h - 1) (spent used + k)) since fastest (before (from + k))
      runs_on zero low q =
          let a : from ≡ from + 0 = omega arith in
          let b : w.tick ≡ w.tick + 0 = omega arith in
          subst (λ n. Tracks pol d (at w n) (set used (h - 1) (spent used + 0)) since fastest (before (from + 0))) b (subst (λ n. Tracks pol d w (set used (h - 1) (spent used + 0)) since fastest (before n)) a (subst (λ (us : List ℕ). Tracks pol d w us since fastest (before from)) (set_same used (h - 1) (spent used + 0) many (omega arith)) R))
      runs_on (suc k) low q =
          let us : List ℕ = set used (h - 1) (spent used + k) in
          let e : get_or us (h - 1) 0 ≡ spent used + k = get_or-set_same used (h - 1) (spent used + k) 0 many in
          let a : from + k + 1 ≡ from + suc k = omega arith in
          let b : w.tick + k + 1 ≡ w.tick + suc k = omega arith in
          let x : spent used + k + 1 ≡ spent used + suc k = omega arith in
          let s = q (from + k) (omega arith) (omega arith) in
          let one : Tracks pol d (at w (w.tick + k + 1)) (set us (h - 1) (get_or us (h - 1) 0 + 1)) since fastest (before (from + k + 1)) = on_one (w.tick + k) us (from + k) s.0 s.1 (omega arith) (omega arith) (runs_on k (omega arith) (λ i u v. q i u (omega arith))) in
          let two : set us (h - 1) (get_or us (h - 1) 0 + 1) ≡ set used (h - 1) (spent used + suc k) = ap (λ y. set us (h - 1) (y + 1)) e ∙ set_twice used (h - 1) (spent used + k) (spent used + k + 1) ∙ ap (set used (h - 1)) x in
          subst (λ n. Tracks pol d (at w n) (set used (h - 1) (spent used + suc k)) since fastest (before (from + suc k))) b (subst (λ n. Tracks pol d (at w (w.tick + k + 1)) (set used (h - 1) (spent used + suc k)) since fastest (before n)) a (subst (λ (ys : List ℕ). Tracks pol d (at w (w.tick + k + 1)) ys since fastest (before (from + k + 1))) two one))

      pub runs_code : (k : ℕ) → spent used + k < run_of d h → Passed k → (i : ℕ) → from ≤ i → i < from + k → get_or (page pol d cs) i 0 ≡ 0
      runs_code k low q i x y =
          let n : ℕ = i - from in
          let us : List ℕ = set used (h - 1) (spent used + n) in
          let e : get_or us (h - 1) 0 ≡ spent used + n = get_or-set_same used (h - 1) (spent used + n) 0 many in
          let a : from + n ≡ i = omega arith in
          let s = q i x y in
          on_code (w.tick + n) us i s.0 s.1 (omega arith) (omega arith) (subst (λ v. Tracks pol d (at w (w.tick + n)) us since fastest (before v)) a (runs_on n (omega arith) (λ l u v. q l u (omega arith))))

-- the calls from i + 1 up to r are passed, no task being awake
pub passed_on : (pol : Policy) (d : Description) → WellFormed d → judge d ≡ Done → (bytes used since fastest : List ℕ) (w : Words) (i r : ℕ) → ((k : ℕ) → awake_in w k ≡ false) → i + 1 ≤ r → r ≤ length bytes / 6 → ((k : ℕ) → i + 1 ≤ k → k < r → (number_in bytes (6 * k) 2 ≡ 0) × (200 ≤ number_in bytes (6 * k + 2) 2) × (number_in bytes (6 * k + 2) 2 ≤ w.peak)) → Tracks pol d w used since fastest (left pol d (idle d) (take (i + 1) (calls_in bytes)))
    → Tracks pol d (later_by (r - i - 1) w) used since fastest (left pol d (idle d) (take r (calls_in bytes))) × ((k : ℕ) → i + 1 ≤ k → k < r → get_or (page pol d (calls_in bytes)) k 0 ≡ 0)
passed_on pol d g j bytes used since fastest w i r z h most q R =
    (subst (λ x. Tracks pol d (later_by n w) used since fastest (left pol d (idle d) (take x (calls_in bytes)))) to (idles_on pol d g j bytes since fastest used w (i + 1) z R n quiet), λ k a b. idles_code pol d g j bytes since fastest used w (i + 1) z R n quiet k a (omega (arith, to)))
  where
    n : ℕ
    n = r - i - 1

    to : i + 1 + n ≡ r
    to = omega arith

    quiet : (k : ℕ) → i + 1 ≤ k → k < i + 1 + n → QuietAt pol d g j bytes since fastest w.peak k
    quiet k a b = let s = q k a (omega (arith, to)) in record { within = omega (arith, to); none = s.0; least = s.1; most = s.2 }

-- and while a run that has begun goes on
pub passed_along : (pol : Policy) (d : Description) → WellFormed d → judge d ≡ Done → (bytes used since fastest : List ℕ) (w : Words) (awake h i r : ℕ) → ((k : ℕ) → member awake k ≡ awake_in w k) → Chosen w.running awake h → 1 ≤ h → h ≤ 32 → 0 < get_or used (h - 1) 0 → get_or used (h - 1) 0 + (r - i - 1) < run_of d h → i + 1 ≤ r → r ≤ length bytes / 6 → ((k : ℕ) → i + 1 ≤ k → k < r → (number_in bytes (6 * k) 2 ≡ 0) × (200 ≤ number_in bytes (6 * k + 2) 2) × (number_in bytes (6 * k + 2) 2 ≤ w.peak)) → ((k : ℕ) → i + 1 ≤ k → k < r → get_or bytes (6 * k + 4) 0 ≡ 0) → Tracks pol d w used since fastest (left pol d (idle d) (take (i + 1) (calls_in bytes)))
    → Tracks pol d (later_by (r - i - 1) w) (set used (h - 1) (get_or used (h - 1) 0 + (r - i - 1))) since fastest (left pol d (idle d) (take r (calls_in bytes))) × ((k : ℕ) → i + 1 ≤ k → k < r → get_or (page pol d (calls_in bytes)) k 0 ≡ 0)
passed_along pol d g j bytes used since fastest w awake h i r set_is l p high some low o most q f R =
    (subst (λ x. Tracks pol d (later_by n w) (set used (h - 1) (get_or used (h - 1) 0 + n)) since fastest (left pol d (idle d) (take x (calls_in bytes)))) to (runs_on pol d g j bytes since fastest w awake h set_is l p high used (i + 1) some R n low quiet), λ k a b. runs_code pol d g j bytes since fastest w awake h set_is l p high used (i + 1) some R n low quiet k a (omega (arith, to)))
  where
    n : ℕ
    n = r - i - 1

    to : i + 1 + n ≡ r
    to = omega arith

    quiet : (k : ℕ) → i + 1 ≤ k → k < i + 1 + n → QuietAt pol d g j bytes since fastest w.peak k × (get_or bytes (6 * k + 4) 0 ≡ 0)
    quiet k a b = let s = q k a (omega (arith, to)) in (record { within = omega (arith, to); none = s.0; least = s.1; most = s.2 }, f k a (omega (arith, to)))

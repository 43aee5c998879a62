-- The events for a task and the runs that take them: as long as an event is unserved, its run is in progress or pending. Assumes nothing.
use Prim.Native.Nat.{ℕ, zero, suc, ◌+◌, ◌≤◌, ◌<◌}
use mathlib.Core.Path.{◌≡◌, refl, sym, ◌∙◌}
use mathlib.Core.Bool.{Bool, true, false, ◌||◌, ◌&&◌}
use mathlib.Core.Logic.{◌⊎◌, inl, inr}
use native.Mathlib.Omega.{arith}
use lib.Dec.{eqb}
use borrow.Author.Tests.{eq-eqb, eqb-true}
use Rattle.model.specs.Graph.{System}
use Rattle.lemmas.proofs.Tests.{Cmp, less, same, more, cmp, at_or_not, not_both, false_of, both, and_left}
use Rattle.theory.proofs.WellFormed.{Loaded, Shaped}
use Rattle.assurance.proofs.Potential.{live, live_used, live_pending}
use Rattle.assurance.proofs.Schedule.{Schedule, live_mid, begins_at, ends_at, ends_ran, ends_of, used_other, used_on}

-- the run of j that takes an event, by whether it has begun: it is in progress, or else it is pending
pub record Held (us : ℕ → ℕ) (ps : ℕ → Bool) (j : ℕ) (begun : Bool) : Type 0 where
  pub runs : begun ≡ true → 0 < us j
  pub waits : begun ≡ false → ps j ≡ true

pub held_live : (us : ℕ → ℕ) (ps : ℕ → Bool) (j : ℕ) (b : Bool) → Held us ps j b → live us ps j ≡ true
held_live us ps j true h = live_used us ps j (h.runs refl)
held_live us ps j false h = live_pending us ps j (h.waits refl)

-- an event that its run has not begun to take
pub held_pending : (us : ℕ → ℕ) (ps : ℕ → Bool) (j : ℕ) → ps j ≡ true → Held us ps j false
held_pending us ps j e = record { runs = λ p. absurd (not_both p refl); waits = λ p. e }

module _ {s : System} {gap : ℕ → ℕ} (S : Schedule s gap) (j : ℕ) where
  -- ev says in which ticks the link gets an event, and taken whether the run that takes it has begun by then. The event of tick x is
  -- unserved before tick y, and the last argument says whether its run has begun.
  pub data Unserved (ev taken : ℕ → Bool) : (x y : ℕ) → Bool → Type 0 where
    new : {x : ℕ} → ev x ≡ true → Unserved ev taken x x (taken x)
    later : {x y : ℕ} {b : Bool} → Unserved ev taken x y b → ((b || begins_at S j y) && ends_at S j y) ≡ false → Unserved ev taken x (suc y) (b || begins_at S j y)

  -- the same of an event of an earlier tick
  pub record Waits (ev taken : ℕ → Bool) (y x : ℕ) : Type 0 where
    pub before : x < y
    pub begun : Bool
    pub unserved : Unserved ev taken x y begun

  module _ {ev taken : ℕ → Bool} where
    pub came : {x y : ℕ} {b : Bool} → Unserved ev taken x y b → (ev x ≡ true) × (x ≤ y)
    came (new e) = (e, omega arith)
    came (later u f) = ((came u).0, omega (arith, (came u).1))

    -- before its last tick it waited already, or it came in that tick
    pub waits_fresh : (y x : ℕ) → Waits ev taken (suc y) x → Waits ev taken y x ⊎ ((x ≡ y) × (ev y ≡ true))
    waits_fresh y x w = go w.unserved w.before
      where
        go : {x : ℕ} {b : Bool} → Unserved ev taken x (suc y) b → x < suc y → Waits ev taken y x ⊎ ((x ≡ y) × (ev y ≡ true))
        go (new e) p = absurd (omega arith)
        go {x} (later {b = b} u f) p = at (cmp x y)
          where
            at : Cmp x y → Waits ev taken y x ⊎ ((x ≡ y) × (ev y ≡ true))
            at (less r) = inl (record { before = r; begun = b; unserved = u })
            at (same r) = inr (r, rw r at (came u).0)
            at (more r) = absurd (omega arith)

module _ {s : System} {gap : ℕ → ℕ} (S : Schedule s gap) (j : ℕ) (is_task : 1 ≤ j) where
  held_mid : (y : ℕ) (b : Bool) → Held (S.used y) (S.pending y) j b → Held (S.used y) (S.pending_mid y) j b
  held_mid y b h = record { runs = h.runs; waits = λ e. S.mid_kept y j is_task (h.waits e) }

  -- a tick that does not serve the event
  pub held_tick : (y : ℕ) (b : Bool) → Held (S.used y) (S.pending_mid y) j b → ((b || begins_at S j y) && ends_at S j y) ≡ false → Held (S.used (suc y)) (S.pending (suc y)) j (b || begins_at S j y)
  held_tick y true h e = record {
    runs = λ p. at_or_not (λ k. k ≡ j → 0 < S.used (suc y) k) (S.ran y) j (λ q. on q) (λ ne q. omega (arith, used_other S y j is_task ne, h.runs refl)) refl;
    waits = λ p. absurd (not_both refl p);
  }
    where
      on : S.ran y ≡ j → 0 < S.used (suc y) (S.ran y)
      on q =
          let f : S.over y ≡ false = false_of (S.over y) (λ o. not_both (ends_of S j y q o) e) in
          omega (arith, used_on S y (S.ran y) (omega arith) refl f)
  held_tick y false h e = record { runs = runs; waits = waits }
    where
      runs : begins_at S j y ≡ true → 0 < S.used (suc y) j
      runs p =
          let q : S.ran y ≡ j = eqb-true (S.ran y) j (and_left (eqb (S.ran y) j) _ p) in
          let f : S.over y ≡ false = false_of (S.over y) (λ o. not_both (both (begins_at S j y) (ends_at S j y) p (ends_of S j y q o)) e) in
          omega (arith, used_on S y j is_task (sym q) f)

      waits : begins_at S j y ≡ false → S.pending (suc y) j ≡ true
      waits p = S.next_kept y j is_task (h.waits refl, λ q. go q (S.used y j) refl)
        where
          go : j ≡ S.ran y → (u : ℕ) → S.used y j ≡ u → 0 < S.used y j
          go q (suc u) z = omega arith
          go q zero z =
              absurd (not_both (both (eqb (S.ran y) j) (eqb (S.used y j) 0) (eq-eqb (S.ran y) j (sym q)) (eq-eqb (S.used y j) 0 z)) p)

  -- what an event of tick x, not served in it, finds after it; then its run is in progress or pending as long as it waits
  module _ {ev taken : ℕ → Bool} (enters : (x : ℕ) → ev x ≡ true → ((taken x || begins_at S j x) && ends_at S j x) ≡ false → Held (S.used (suc x)) (S.pending (suc x)) j (taken x || begins_at S j x)) where
    held_later : {x y : ℕ} {b : Bool} → Unserved S j ev taken x y b → x < y → Held (S.used y) (S.pending y) j b
    held_later (new e) p = absurd (omega arith)
    held_later (later (new e) f) p = enters _ e f
    held_later (later {y = y} {b = b} (later u g) f) p =
        held_tick y b (held_mid y b (held_later (later u g) (omega (arith, (came S j u).1)))) f

    pub waits_held : (y x : ℕ) (w : Waits S j ev taken y x) → Held (S.used y) (S.pending y) j w.begun
    waits_held y x w = held_later w.unserved w.before

-- How a machine takes events: whether the run that takes the event of a tick for a task has begun when it comes, and that it is then in
-- progress or pending. A source fires before the run of its tick, a task after it.
pub record Takes {s : System} {gap : ℕ → ℕ} (S : Schedule s gap) : Type 0 where
  pub taken : ℕ → ℕ → Bool
  pub from_source_lem : (i j x : ℕ) → 33 ≤ i → i < 33 + s.sources → s.link i j ≡ true → S.arr x i ≡ true → Held (S.used x) (S.pending_mid x) j (taken j x)
  pub from_task : (i j x : ℕ) → s.link i j ≡ true → ends_at S i x ≡ true → Held (S.used (suc x)) (S.pending (suc x)) j (taken j x || begins_at S j x)

module _ {s : System} (G : Shaped s) {gap : ℕ → ℕ} (S : Schedule s gap) (T : Takes S) (i j : ℕ) (linked : s.link i j ≡ true) where
  is_task : 1 ≤ j
  is_task = (G.to_task i j linked).0

  -- an event of source i, or of task i, that no run of j has served before tick y; while it waits, j is live
  abbrev pub SourceWaits : ℕ → ℕ → Type 0
  SourceWaits = Waits S j (λ x. S.arr x i) (T.taken j)

  abbrev pub TaskWaits : ℕ → ℕ → Type 0
  TaskWaits = Waits S j (ends_at S i) (T.taken j)

  pub source_held : 33 ≤ i → i < 33 + s.sources → (y x : ℕ) (w : SourceWaits y x) → Held (S.used y) (S.pending y) j w.begun
  source_held p q =
      waits_held S j is_task (λ x e f. held_tick S j is_task x (T.taken j x) (T.from_source_lem i j x p q linked e) f)

  pub source_live : 33 ≤ i → i < 33 + s.sources → (y x : ℕ) → SourceWaits (suc y) x → live_mid S y j ≡ true
  source_live p q y x w = go (waits_fresh S j y x w)
    where
      go : SourceWaits y x ⊎ ((x ≡ y) × (S.arr y i ≡ true)) → live_mid S y j ≡ true
      go (inl v) = held_live (S.used y) (S.pending_mid y) j v.begun (held_mid S j is_task y v.begun (source_held p q y x v))
      go (inr v) = held_live (S.used y) (S.pending_mid y) j (T.taken j y) (T.from_source_lem i j y p q linked v.1)

  pub task_live : (y x : ℕ) → TaskWaits y x → live_mid S y j ≡ true
  task_live y x w =
      held_live (S.used y) (S.pending_mid y) j w.begun (held_mid S j is_task y w.begun (waits_held S j is_task (λ z e f. T.from_task i j z linked e) y x w))

-- A machine whose tasks read their inputs when they begin: an event leaves its task pending, and the run begun next takes it.
module _ {s : System} {gap : ℕ → ℕ} (S : Schedule s gap) where
  pub record Latches : Type 0 where
    pub from_source_lem : (i j x : ℕ) → 33 ≤ i → i < 33 + s.sources → s.link i j ≡ true → S.arr x i ≡ true → S.pending_mid x j ≡ true
    pub from_task : (i j x : ℕ) → s.link i j ≡ true → ends_at S i x ≡ true → S.pending (suc x) j ≡ true

  -- no run of j begins in a tick in which another task's run ends
  pub other_begins : Loaded s → (i j x : ℕ) → s.link i j ≡ true → ends_at S i x ≡ true → begins_at S j x ≡ false
  other_begins L i j x linked e = false_of (begins_at S j x) (λ b.
      let q : j ≡ i = sym (eqb-true (S.ran x) j (and_left (eqb (S.ran x) j) _ b)) ∙ ends_ran S i x e in
      let h : s.link i i ≡ true = rw q at linked in
      omega (arith, L.falls i i h))

  unfoldable pub latches : Loaded s → Latches → Takes S
  latches L W = record {
    taken = λ j x. false;
    from_source_lem = λ i j x p q l e. held_pending (S.used x) (S.pending_mid x) j (W.from_source_lem i j x p q l e);
    from_task = λ i j x l e. rw (other_begins L i j x l e) (held_pending (S.used (suc x)) (S.pending (suc x)) j (W.from_task i j x l e));
  }

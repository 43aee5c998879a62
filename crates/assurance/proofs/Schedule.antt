-- A run of any of the machines by tick numbers: the laws of its schedule, whatever the policy. Assumes nothing.
use Prim.Native.Nat.{ℕ, zero, suc, ◌+◌, ◌≤◌, ◌<◌}
use mathlib.Core.Path.{◌≡◌, refl, ◌∙◌}
use mathlib.Core.Bool.{Bool, true, false, ◌&&◌, cond}
use mathlib.Core.Logic.{◌⊎◌}
use native.Mathlib.Omega.{arith}
use lib.Dec.{eqb}
use borrow.Author.Tests.{eq-eqb, ne_eqb, eqb-true, eqb-false}
use Rattle.model.specs.declared.Policy.{Policy}
use Rattle.model.specs.declared.Policy.TheVariants.{Preemptive, HoldOn}
use Rattle.model.specs.Graph.{System}
use Rattle.lemmas.proofs.Tests.{both, and_left, and_right}
use Rattle.lemmas.proofs.Range.{All, Found}
use Rattle.theory.proofs.WellFormed.{Shaped}
use Rattle.assurance.proofs.Potential.{live}

-- a run of k is pending and h's tick does not begin it
abbrev pub Left : (ℕ → ℕ) → (ℕ → Bool) → ℕ → ℕ → Type 0
Left us ps h k = (ps k ≡ true) × (k ≡ h → 0 < us k)

-- The columns: before tick x the ticks that the run of each task has used and whether a run not yet begun is owed to it, which is
-- "pending"; what is pending once the sources have fired; the sources that arrive, and their ages; the task that runs (0 for none)
-- and whether its run ends. A task is live if it has used something or is pending.
-- The laws hold for preemptive and hold-on machines. They also hold where tasks latch their inputs: an event for a task that is
-- part done may make it pending again, and this outlives the end of the run.
pub record Schedule (s : System) (gap : ℕ → ℕ) : Type 0 where
  pub used : ℕ → ℕ → ℕ
  pub pending : ℕ → ℕ → Bool
  pub pending_mid : ℕ → ℕ → Bool
  pub arr : ℕ → ℕ → Bool
  pub age : ℕ → ℕ → ℕ
  pub ran : ℕ → ℕ
  pub over : ℕ → Bool
  pub unused_first : (k : ℕ) → 1 ≤ k → used 0 k ≡ 0
  pub pending_first : (k : ℕ) → 1 ≤ k → pending 0 k ≡ false
  -- arrivals: they take nothing away, wake only over a link, and leave a task they have a link to live
  pub mid_kept : (x k : ℕ) → 1 ≤ k → pending x k ≡ true → pending_mid x k ≡ true
  pub mid_from : (x k : ℕ) → 1 ≤ k → pending_mid x k ≡ true → (pending x k ≡ true) ⊎ Found (λ u. arr x u && s.link u k) 33 s.sources
  pub mid_live : (x u k : ℕ) → 33 ≤ u → u < 33 + s.sources → arr x u ≡ true → s.link u k ≡ true → live (used x) (pending_mid x) k ≡ true
  -- the choice: a live task, if there is one, and a run begins only with nothing live above it
  pub ran_task : (x : ℕ) → ran x ≤ s.tasks
  pub ran_live : (x : ℕ) → 0 < ran x → live (used x) (pending_mid x) (ran x) ≡ true
  pub ran_begins : (x : ℕ) → used x (ran x) ≡ 0 → All (λ k. live (used x) (pending_mid x) k ≡ false) (suc (ran x)) s.tasks
  pub ran_none : (x : ℕ) → ran x ≡ 0 → All (λ k. live (used x) (pending_mid x) k ≡ false) 1 s.tasks
  -- the tick and the end of the run, which comes with its last tick or before
  pub over_ran : (x : ℕ) → over x ≡ true → 0 < ran x
  pub over_full : (x : ℕ) → over x ≡ false → 0 < ran x → suc (used x (ran x)) ≡ s.run (ran x) → ⊥
  pub used_next : (x k : ℕ) → 1 ≤ k → used (suc x) k ≡ cond (eqb k (ran x)) (cond (over x) 0 (suc (used x k))) (used x k)
  -- what is pending is left by the tick, or comes from the end's firing, which leaves a task that it has a link to live
  pub next_kept : (x k : ℕ) → 1 ≤ k → Left (used x) (pending_mid x) (ran x) k → pending (suc x) k ≡ true
  pub next_from : (x k : ℕ) → 1 ≤ k → pending (suc x) k ≡ true → Left (used x) (pending_mid x) (ran x) k ⊎ ((over x ≡ true) × (s.link (ran x) k ≡ true))
  pub next_live : (x k : ℕ) → over x ≡ true → s.link (ran x) k ≡ true → live (used (suc x)) (pending (suc x)) k ≡ true
  -- the age of a source says how far apart its arrivals are
  pub age_ready : (x u : ℕ) → 33 ≤ u → u < 33 + s.sources → arr x u ≡ true → gap u ≤ age x u
  pub age_fired : (x u : ℕ) → 33 ≤ u → u < 33 + s.sources → arr x u ≡ true → age (suc x) u ≤ 1
  pub age_older : (x u : ℕ) → 33 ≤ u → u < 33 + s.sources → age (suc x) u ≤ suc (age x u)
  pub age_some : (x u : ℕ) → 33 ≤ u → u < 33 + s.sources → 1 ≤ age (suc x) u

module _ {s : System} {gap : ℕ → ℕ} (S : Schedule s gap) where
  -- live before tick x, and once its sources have fired
  abbrev pub live_at : ℕ → ℕ → Bool
  live_at x k = live (S.used x) (S.pending x) k

  abbrev pub live_mid : ℕ → ℕ → Bool
  live_mid x k = live (S.used x) (S.pending_mid x) k

  -- a run of task j begins in tick x; one ends in it
  abbrev pub begins_at : ℕ → ℕ → Bool
  begins_at j x = eqb (S.ran x) j && eqb (S.used x j) 0

  abbrev pub ends_at : ℕ → ℕ → Bool
  ends_at j x = eqb (S.ran x) j && S.over x

  -- the two policies: nothing above the task that runs is live, or a task that is part done is the one that runs
  pub record Preempts : Type 0 where
    pub above : (x k : ℕ) → S.ran x < k → k ≤ s.tasks → live_mid x k ≡ false

  pub record HoldsOn : Type 0 where
    pub holds : (x k : ℕ) → 1 ≤ k → k ≤ s.tasks → 0 < S.used x k → S.ran x ≡ k

  abbrev pub Obeys : Policy → Type 0
  Obeys Preemptive = Preempts
  Obeys HoldOn = HoldsOn

  pub used_other : (x k : ℕ) → 1 ≤ k → (k ≡ S.ran x → ⊥) → S.used (suc x) k ≡ S.used x k
  used_other x k o ne = S.used_next x k o ∙ rw (ne_eqb k (S.ran x) ne)

  pub used_over : (x k : ℕ) → 1 ≤ k → k ≡ S.ran x → S.over x ≡ true → S.used (suc x) k ≡ 0
  used_over x k o e p = S.used_next x k o ∙ rw (eq-eqb k (S.ran x) e, p)

  pub used_on : (x k : ℕ) → 1 ≤ k → k ≡ S.ran x → S.over x ≡ false → S.used (suc x) k ≡ suc (S.used x k)
  used_on x k o e p = S.used_next x k o ∙ rw (eq-eqb k (S.ran x) e, p)

  pub ends_ran : (j x : ℕ) → ends_at j x ≡ true → S.ran x ≡ j
  ends_ran j x e = eqb-true (S.ran x) j (and_left (eqb (S.ran x) j) _ e)

  pub ends_over : (j x : ℕ) → ends_at j x ≡ true → S.over x ≡ true
  ends_over j x e = and_right (eqb (S.ran x) j) _ e

  pub ends_of : (j x : ℕ) → S.ran x ≡ j → S.over x ≡ true → ends_at j x ≡ true
  ends_of j x e o = both (eqb (S.ran x) j) (S.over x) (eq-eqb (S.ran x) j e) o

  -- no run has used all of its ticks
  pub below : Shaped s → (x : ℕ) → All (λ k. S.used x k < s.run k) 1 s.tasks
  below G zero k o p = omega (arith, S.unused_first k o, G.runs k o p)
  below G (suc x) k o p = go (eqb k (S.ran x)) refl (S.over x) refl (below G x k o p)
    where
      go : (b : Bool) → eqb k (S.ran x) ≡ b → (c : Bool) → S.over x ≡ c → S.used x k < s.run k → S.used (suc x) k < s.run k
      go true e true q h = omega (arith, used_over x k o (eqb-true k (S.ran x) e) q)
      go true e false q h =
          let y : k ≡ S.ran x = eqb-true k (S.ran x) e in
          let full : suc (S.used x k) ≡ s.run k → ⊥ = rw y (S.over_full x q (omega arith)) in
          omega (arith, used_on x k o y q)
      go false e c q h = omega (arith, used_other x k o (eqb-false k (S.ran x) e))

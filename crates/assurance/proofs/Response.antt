-- A link from a source on a preemptive machine: waits are at most the delay, so no event finds the one before it unserved. Assumes nothing.
use Prim.Native.Nat.{ℕ, ◌+◌, ◌*◌, ◌≤◌, ◌<◌}
use mathlib.Core.Path.{◌≡◌}
use mathlib.Core.Bool.{true}
use mathlib.Core.Logic.{◌⊎◌, inl, inr}
use native.Mathlib.Omega.{arith}
use native.Mathlib.Nat.{mul-le-mul_left}
use lib.Dec.{leb}
use borrow.Author.Tests.{leb-true, leb-false}
use Rattle.model.specs.declared.Policy.TheVariants.{Preemptive}
use Rattle.model.specs.Graph.{System}
use Rattle.model.specs.Loads.{added, load}
use Rattle.model.specs.Delays.{spacings, start_of, round_of}
use Rattle.lemmas.proofs.Tests.{not_both}
use Rattle.lemmas.proofs.Range.{le_sum_n, le_sum_to}
use Rattle.theory.proofs.WellFormed.{Loaded, Shaped}
use Rattle.theory.proofs.Rounds.{spacings_some}
use Rattle.assurance.proofs.Count.{Ages, count_spacings, apart}
use Rattle.assurance.proofs.Window.{Run, bounded}
use Rattle.assurance.proofs.Schedule.{Schedule, Preempts}
use Rattle.assurance.proofs.Moves.{phi, phi_first, phi_none, arrivals, falls, rests}
use Rattle.assurance.proofs.Events.{held_live, came, waits_fresh, Takes, SourceWaits, source_held, source_live}

pub ages : {s : System} {gap : ℕ → ℕ} (S : Schedule s gap) (u : ℕ) → 33 ≤ u → u < 33 + s.sources → Ages (gap u) (λ x. S.arr x u) (λ x. S.age x u)
ages S u p q = record {
  ready = λ x. S.age_ready x u p q;
  fired = λ x. S.age_fired x u p q;
  older = λ x. S.age_older x u p q;
  some = λ x. S.age_some x u p q;
}

module _ {s : System} (L : Loaded s) (G : Shaped s) {gap : ℕ → ℕ} (S : Schedule s gap) (T : Takes S) (spaced : (u : ℕ) → 33 ≤ u → u < 33 + s.sources → 1 ≤ gap u) (i j : ℕ) (is_source : 33 ≤ i) (isSource' : i < 33 + s.sources) (linked : s.link i j ≡ true) where
  is_task : 1 ≤ j
  is_task = (G.to_task i j linked).0

  is_task' : j ≤ s.tasks
  is_task' = (G.to_task i j linked).1

  abbrev waits : ℕ → ℕ → Type 0
  waits = SourceWaits G S T i j linked

  -- no event finds one unserved whose wait is at most the spacing
  pub kept_apart : (y x : ℕ) → waits y x → y < x + gap i → S.arr y i ≡ true → ⊥
  kept_apart y x w b e =
      omega
      (arith, apart (gap i) (λ z. S.arr z i) (λ z. S.age z i) (ages S i is_source isSource') x y (came S j w.unserved).0 e w.before)

  module _ (D : ℕ) (fixed : round_of Preemptive s gap j D ≡ D) where
    -- the D is at least a run of j
    pub delay_some : 1 ≤ D
    unfolding round_of load
    delay_some =
        omega
        (arith, fixed, le_sum_n (λ u. load s u j * spacings D (gap u)) 33 s.sources i is_source isSource', mul-le-mul_left (load s i j) (spacings_some D (gap i)), le_sum_to (added s i) j s.tasks j (omega arith) is_task', L.direct i j linked, L.whole j, G.runs j is_task is_task')

    module _ (P : Preempts S) where
      -- the schedule as j sees it
      run : Run (λ u. load s u j) gap 33 s.sources (start_of Preemptive s j) 0
      run = record {
        fire = λ u x. S.arr x u;
        phi = phi L G S j;
        busy = λ x. leb j (S.ran x);
        wait = waits;
        counted = λ u p q x n. count_spacings (gap u) (λ z. S.arr z u) (λ z. S.age z u) (spaced u p q) (ages S u p q) x n;
        starts = omega (arith, phi_first L G S j is_task);
        none = λ x w. omega (arith, w.before);
        falls = λ x b. omega (arith, falls L G S x j is_task (leb-true j (S.ran x) b), arrivals L G S x j is_task);
        idle = λ x b. omega (arith, rests L G S P x j is_task (leb-false j (S.ran x) b));
        fresh = λ y x w. fresh y x (waits_fresh S j y x w);
        clear = λ y x b w. not_both (source_live G S T i j linked is_source isSource' y x w) (P.above y j (leb-false j (S.ran y) b) is_task');
        done = λ y x z w. let p : phi L G S j y ≡ 0 = omega arith in not_both (held_live (S.used y) (S.pending y) j w.begun (source_held G S T i j linked is_source isSource' y x w)) (phi_none L G S j y is_task p j (omega arith) is_task');
      }
        where
          fresh : (y x : ℕ) → waits y x ⊎ ((x ≡ y) × (S.arr y i ≡ true)) → waits y x ⊎ (x ≡ y)
          fresh y x (inl v) = inl v
          fresh y x (inr v) = inr v.0

      pub wait_bound : (y x : ℕ) → waits y x → y < x + D
      unfolding round_of run
      wait_bound y x w = bounded (λ u. load s u j) gap 33 s.sources (start_of Preemptive s j) 0 D delay_some fixed run y x w

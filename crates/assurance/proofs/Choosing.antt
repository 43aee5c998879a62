-- The task that a tick runs: the one that goes on, or else the highest awake. Assumes nothing.
use Prim.Native.Nat.{ℕ, zero, suc, ◌-◌, ◌≤◌, ◌<◌}
use mathlib.Core.Path.{◌≡◌, refl, sym, ap, ◌∙◌}
use mathlib.Core.Bool.{true, false}
use mathlib.Core.List.{List}
use mathlib.Core.Logic.{◌⊎◌, inl, inr}
use native.Mathlib.Omega.{arith}
use lib.ListN.{get_or}
use lib.Dec.{ltb, eqb}
use borrow.Author.Tests.{lt-ltb, ltb-true, ne_eqb}
use Rattle.model.specs.declared.Description.{Description}
use Rattle.model.specs.declared.Machine.{Machine}
use Rattle.model.specs.declared.Policy.{Policy}
use Rattle.model.specs.declared.Policy.TheVariants.{Preemptive, HoldOn}
use Rattle.model.specs.Basics.{tab}
use Rattle.model.specs.Machine.{used_at, highest_in, highest, running, choose}
use Rattle.lemmas.proofs.Tests.{Cmp, less, same, more, cmp, not_both}
use Rattle.lemmas.proofs.Table.{get_d_tab}
use Rattle.assurance.proofs.Ending.{highest_le, highest_above, highest_awake}

-- what is chosen: none goes on and it is the highest awake, or some goes on and it is that one
pub record Anew (pol : Policy) (d : Description) (m : Machine) : Type 0 where
  pub none : running pol d m ≡ 0
  pub is : choose pol d m ≡ highest d m

pub record Kept (pol : Policy) (d : Description) (m : Machine) : Type 0 where
  pub some : 0 < running pol d m
  pub is : choose pol d m ≡ running pol d m

pub chosen : (pol : Policy) (d : Description) (m : Machine) → Anew pol d m ⊎ Kept pol d m
unfolding choose
chosen pol d m = go (running pol d m) refl
  where
    go : (r : ℕ) → running pol d m ≡ r → Anew pol d m ⊎ Kept pol d m
    go zero e = inl (record { none = e; is = rw e refl })
    go (suc r) e = inr (record { some = omega arith; is = rw (ne_eqb (running pol d m) 0 (λ z. omega arith)) refl })

pub running_le : (pol : Policy) (d : Description) (m : Machine) → running pol d m ≤ d.task_count
running_le Preemptive d m = omega arith
running_le HoldOn d m = highest_le _ d.task_count

pub chosen_le : (pol : Policy) (d : Description) (m : Machine) → choose pol d m ≤ d.task_count
chosen_le pol d m = go (chosen pol d m)
  where
    go : Anew pol d m ⊎ Kept pol d m → choose pol d m ≤ d.task_count
    go (inl c) = rw c.is (highest_le m.awake d.task_count)
    go (inr c) = rw c.is (running_le pol d m)

module _ (d : Description) (few : d.task_count ≤ 32) (m : Machine) where
  -- who goes on is part done
  part : (k : ℕ) → k < 32 → get_or (tab 32 (λ i. ltb 0 (get_or m.used i 0))) k false ≡ ltb 0 (get_or m.used k 0)
  part k h = get_d_tab 32 (λ i. ltb 0 (get_or m.used i 0)) false k h

  pub running_part : (pol : Policy) → 0 < running pol d m → 0 < used_at m (running pol d m)
  running_part Preemptive p = absurd (omega arith)
  running_part HoldOn p =
      let r : ℕ = running HoldOn d m in
      ltb-true 0 (used_at m r) (sym (part (r - 1) (omega (arith, running_le HoldOn d m, few))) ∙ highest_awake _ d.task_count p)

  -- and where a task is part done, one goes on
  pub part_running : (k : ℕ) → 1 ≤ k → k ≤ d.task_count → 0 < used_at m k → 0 < running HoldOn d m
  part_running k o p u = go (cmp 0 (running HoldOn d m))
    where
      go : Cmp 0 (running HoldOn d m) → 0 < running HoldOn d m
      go (less r) = r
      go (same r) =
          absurd (not_both (lt-ltb 0 (used_at m k) u) (sym (part (k - 1) (omega (arith, few))) ∙ highest_above (tab 32 (λ i. ltb 0 (get_or m.used i 0))) d.task_count k (omega arith) p))
      go (more r) = absurd (omega arith)

-- who goes on is told by what tasks have used
pub running_used : (pol : Policy) (d : Description) (m m' : Machine) → m.used ≡ m'.used → running pol d m ≡ running pol d m'
running_used Preemptive d m m' e = refl
running_used HoldOn d m m' e = ap (λ (us : List ℕ). highest_in (tab 32 (λ i. ltb 0 (get_or us i 0))) d.task_count) e

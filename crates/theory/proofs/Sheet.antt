-- The load sheet: what its places hold, 0 for absent nodes and tasks and beside a refusal. Assumes nothing.
use Prim.Native.Nat.{ℕ, suc, ◌-◌, ◌≤◌, ◌<◌}
use mathlib.Core.Path.{◌≡◌, ap, ◌∙◌}
use native.Mathlib.Omega.{arith}
use lib.ListN.{get_or}
use Rattle.model.specs.declared.Row.{Row}
use Rattle.model.specs.declared.Description.{Description}
use Rattle.model.specs.declared.Refusal.{Refusal}
use Rattle.model.specs.Refusals.{Done, Refused}
use Rattle.model.specs.Graph.{system}
use Rattle.model.specs.Basics.{tab}
use Rattle.model.specs.Loads.{load, sheet, no_row}
use Rattle.model.specs.File.{judge, load_sheet}
use Rattle.lemmas.proofs.Table.{get_d_tab, get_d_same}
use Rattle.theory.proofs.WellFormed.{WellFormed, IsTask, IsSource}
use Rattle.theory.proofs.Fielded.{shaped}
use Rattle.theory.proofs.LoadLaws.{absent_load, past_load}
use Rattle.theory.proofs.RecordLaws.{Widths}
use Rattle.theory.proofs.FileLaws.{judge_well_formed}

-- the place of node i and task j
abbrev pub entry_of : Description → ℕ → ℕ → ℕ
entry_of d i j = get_or (get_or (load_sheet d).rows (i - 1) no_row).loads (j - 1) 0

-- a number that no node of the file has
abbrev pub Absent : Description → ℕ → Type 0
Absent d i = (IsTask (system d) i → ⊥) × (IsSource (system d) i → ⊥)

-- "a row for each node and a column for each task"
pub sheet_load : (d : Description) → judge d ≡ Done → (i j : ℕ) → 1 ≤ i → i ≤ 48 → 1 ≤ j → j ≤ 32 → entry_of d i j ≡ load (system d) i j
unfolding load_sheet sheet
sheet_load d e i j a b p q =
    let r : suc (i - 1) ≡ i = omega arith in
    let c : suc (j - 1) ≡ j = omega arith in
    rw (e, get_d_tab 48 (λ k. record { loads = tab 32 (λ m. load (system d) (suc k) (suc m)) }) no_row (i - 1) (omega arith))
    (get_d_tab 32 (λ m. load (system d) (suc (i - 1)) (suc m)) 0 (j - 1) (omega arith) ∙ rw (r, c))

-- "places for absent nodes and tasks hold 0"
pub absent_node : (d : Description) → WellFormed d → (i j : ℕ) → Absent d i → load (system d) i j ≡ 0
absent_node d w i j a = absent_load (system d) (shaped d w) i j a.0 a.1

pub absent_task : (d : Description) (i j : ℕ) → d.task_count < j → load (system d) i j ≡ 0
unfolding system
absent_task d i j h = past_load (system d) i j h

pub sheet_absent_node : (d : Description) → Widths d → judge d ≡ Done → (i j : ℕ) → 1 ≤ i → i ≤ 48 → 1 ≤ j → j ≤ 32 → Absent d i → entry_of d i j ≡ 0
sheet_absent_node d w e i j a b p q h = sheet_load d e i j a b p q ∙ absent_node d (judge_well_formed d w e) i j h

pub sheet_absent_task : (d : Description) → judge d ≡ Done → (i j : ℕ) → 1 ≤ i → i ≤ 48 → 1 ≤ j → j ≤ 32 → d.task_count < j → entry_of d i j ≡ 0
sheet_absent_task d e i j a b p q h = sheet_load d e i j a b p q ∙ absent_task d i j h

-- "a sheet returned beside a refusal has 0 for every entry"
pub sheet_refused : (d : Description) (r : Refusal) (place : ℕ) → judge d ≡ Refused r place → (i j : ℕ) → entry_of d i j ≡ 0
unfolding load_sheet
sheet_refused d r place e i j =
    rw e (ap (λ (x : Row). get_or x.loads (j - 1) 0) (get_d_same 48 (i - 1) no_row) ∙ get_d_same 32 (j - 1) 0)

-- The four ways that the last checks end, the loads of a description that passes, and what a caller reads off. Assumes nothing.
use Rattle.std.specs.Prelude.{Ok, Err}
use Prim.Native.Nat.{ℕ, suc, ◌-◌, ◌<◌}
use mathlib.Core.Path.{◌≡◌, refl, sym, ap, ◌∙◌}
use mathlib.Core.Bool.{true, false}
use mathlib.Core.List.{List, []}
use native.Mathlib.Omega.{arith}
use lib.ListN.{get_or}
use lib.Dec.{ltb}
use borrow.Author.Tests.{eq-eqb, ne_eqb}
use Rattle.model.specs.declared.Description.{Description}
use Rattle.model.specs.declared.Refusal.{Refusal}
use Rattle.model.specs.declared.Row.{Row}
use Rattle.model.specs.declared.Refusal.TheVariants.{NoTask, Loop, TooHeavy}
use Rattle.model.specs.Refusals.{Outcome, Done, Refused}
use Rattle.model.specs.Graph.{system, cyclic}
use Rattle.model.specs.Basics.{tab}
use Rattle.model.specs.Loads.{load, too_heavy, sheet, no_row}
use Rattle.model.specs.File.{last_checks, judge, load_sheet}
use Rattle.lemmas.proofs.Tests.{same_test}
use Rattle.lemmas.proofs.Range.{Found, any_at, any_found}
use Rattle.lemmas.proofs.Table.{is_tab}
use Rattle.theory.proofs.WellFormed.{Fielded}
use Rattle.paths.specs.Rows.{SuccessorsOf, Closed, graph, self_in}
use Rattle.works.specs.Works.{Ready, WorksOf, SetsOf, Scaled, load_by}
use Rattle.loads.specs.Tables.{heavy_by, LoadsOf, SheetBy, RowsAre, checked_loads}
use Rattle.refusals.specs.Beside.{refused_sheet}
use Rattle.paths.proofs.Tabled.{sets_cyclic, sets_load}
use Rattle.works.proofs.Bringing.{self_cyclic, load_by_lem}

-- how the last checks end
module _ (d : Description) where
  pub ends_empty : d.task_count ≡ 0 → last_checks d ≡ Refused NoTask 0
  unfolding last_checks
  ends_empty e = rw (eq-eqb d.task_count 0 e)

  module _ (some : d.task_count ≡ 0 → ⊥) where
    pub ends_loop : cyclic (system d) ≡ true → last_checks d ≡ Refused Loop 0
    unfolding last_checks
    ends_loop e = rw (ne_eqb d.task_count 0 some, e)

    pub ends_heavy : cyclic (system d) ≡ false → too_heavy (system d) ≡ true → last_checks d ≡ Refused TooHeavy 0
    unfolding last_checks
    ends_heavy e f = rw (ne_eqb d.task_count 0 some, e, f)

    pub ends_done : cyclic (system d) ≡ false → too_heavy (system d) ≡ false → last_checks d ≡ Done
    unfolding last_checks
    ends_done e f = rw (ne_eqb d.task_count 0 some, e, f)

-- sets and works that are found along a description's links give its loads
module _ (d : Description) (F : Fielded d) (succ : List ℕ) (M : SuccessorsOf d succ) where
  pub self_is : (rows : List ℕ) → Closed succ d.task_count rows → self_in rows d.task_count ≡ cyclic (system d)
  self_is rows C = self_cyclic succ d.runs d.task_count rows C ∙ sets_cyclic d succ d.runs F M

  module _ (acyclic : cyclic (system d) ≡ false) where
    pub links_ready : Ready succ d.runs d.task_count
    links_ready = record { few = F.few_tasks; run_most = F.run_most; no_cycle = sets_cyclic d succ d.runs F M ∙ acyclic }

    pub loads_of : (brings works : List ℕ) → WorksOf (graph succ d.runs d.task_count) works × Scaled works × SetsOf succ d.task_count brings → LoadsOf d brings works
    loads_of brings works W =
        record {
          by_sets = λ i j N p. load_by_lem succ d.runs d.task_count links_ready.no_cycle brings works W.2 W.0 i j N p ∙ sets_load d succ F M i j;
          scaled = W.1;
        }

pub heavy_is : (d : Description) (brings works : List ℕ) → LoadsOf d brings works → heavy_by brings works d.task_count ≡ too_heavy (system d)
unfolding heavy_by too_heavy
heavy_is d brings works L = same_test _ _ there back
  where
    row : (r : ℕ) → r < 48 → load_by (get_or brings r 0) works d.task_count 1 ≡ load (system d) (suc r) 1
    row r p = let e : suc r - 1 ≡ r = omega arith in rw e at (L.by_sets (suc r) 1 (omega arith, omega arith) (omega arith))

    there : heavy_by brings works d.task_count ≡ true → too_heavy (system d) ≡ true
    there e =
        let f : Found (λ r. ltb 1000000000 (load_by (get_or brings r 0) works d.task_count 1)) 0 48 = any_found _ 0 48 e in
        any_at (λ i. ltb 1000000000 (load (system d) i 1)) 1 48 (suc f.at) (omega arith) (omega (arith, f.within)) (ap (ltb 1000000000) (sym (row f.at f.within)) ∙ f.passes)

    back : too_heavy (system d) ≡ true → heavy_by brings works d.task_count ≡ true
    back e =
        let f : Found (λ i. ltb 1000000000 (load (system d) i 1)) 1 48 = any_found _ 1 48 e in
        let q : suc (f.at - 1) ≡ f.at = omega (arith, f.from) in
        any_at (λ r. ltb 1000000000 (load_by (get_or brings r 0) works d.task_count 1)) 0 48 (f.at - 1) (omega arith) (omega (arith, f.from, f.within)) (ap (ltb 1000000000) (row (f.at - 1) (omega (arith, f.from, f.within)) ∙ ap (λ i. load (system d) i 1) q) ∙ f.passes)

-- rows that hold a sheet are the rows of the answer
pub rows_are : (d : Description) (brings works : List ℕ) (t : List (List ℕ)) (rows : List Row) → LoadsOf d brings works → SheetBy brings works d.task_count t → RowsAre t rows → rows ≡ sheet (system d)
unfolding sheet
rows_are d brings works t rows L S R =
    is_tab
    no_row
    48
    (λ r. record { loads = tab 32 (λ c. load (system d) (suc r) (suc c)) })
    rows
    R.0
    (λ k p. R.1 k p ∙ ap row (is_tab 0 32 (λ c. load (system d) (suc k) (suc c)) (get_or t k []) (S.1 k p).0 (λ c q. (S.1 k p).1 c q ∙ at k c p)))
  where
    row : List ℕ → Row
    row l = record { loads = l }

    at : (k c : ℕ) → k < 48 → load_by (get_or brings k 0) works d.task_count (suc c) ≡ load (system d) (suc k) (suc c)
    at k c p = let e : suc k - 1 ≡ k = omega arith in rw e at (L.by_sets (suc k) (suc c) (omega arith, omega arith) (omega arith))

pub sheet_refused : (d : Description) (why : Refusal) (place : ℕ) → last_checks d ≡ Refused why place → checked_loads d ≡ refused_sheet why place
unfolding checked_loads
sheet_refused d why place e = rw e

pub sheet_done : (d : Description) → last_checks d ≡ Done → checked_loads d ≡ record { outcome = Done; rows = sheet (system d) }
unfolding checked_loads
sheet_done d e = rw e

-- what a caller reads off the answer
pub checked_outcome : (d : Description) → (checked_loads d).outcome ≡ last_checks d
unfolding checked_loads
checked_outcome d = go (last_checks d) refl
  where
    go : (o : Outcome) → last_checks d ≡ o → (checked_loads d).outcome ≡ last_checks d
    go (Ok tt) e = rw e
    go (Err x) e = rw e

pub checked_rows : (d : Description) → last_checks d ≡ Done → (checked_loads d).rows ≡ sheet (system d)
unfolding checked_loads
checked_rows d e = rw e

-- where the judging of a record comes to the last checks, the answer is its load sheet
pub checked_sheet : (d : Description) → judge d ≡ last_checks d → load_sheet d ≡ checked_loads d
unfolding checked_loads load_sheet
checked_sheet d e = rw e

-- The shape of a description whose fields are checked. Assumes nothing.
use Prim.Native.Nat.{ℕ, ◌≤◌, ◌<◌}
use mathlib.Core.Path.{◌≡◌, refl}
use mathlib.Core.Bool.{Bool, true, false, cond, ◌&&◌}
use native.Mathlib.Omega.{arith}
use lib.Dec.{eqb, leb}
use borrow.Author.Tests.{eqb-true, eq-eqb, leb-true, le-leb}
use Rattle.model.specs.declared.Description.{Description}
use Rattle.model.specs.Graph.{system, linked, run_of, link_at}
use Rattle.lemmas.proofs.Tests.{and_left, and_right, both}
use Rattle.lemmas.proofs.Range.{Found, any_found, any_at}
use Rattle.theory.proofs.WellFormed.{Fielded, WellFormed, Shaped}

-- the place of a link that exists
pub record Place (d : Description) (i j : ℕ) : Type 0 where
  pub at : ℕ
  pub within : at < d.link_count
  pub from_is : (link_at d at).from ≡ i
  pub to_is : (link_at d at).to ≡ j

pub link_place : (d : Description) (i j : ℕ) → linked d i j ≡ true → Place d i j
unfolding linked
link_place d i j e =
    let f : Found (λ l. eqb (link_at d l).from i && eqb (link_at d l).to j) 0 d.link_count = any_found _ 0 _ e in
    record {
      at = f.at;
      within = omega (arith, f.within);
      from_is = eqb-true _ _ (and_left (eqb (link_at d f.at).from i) (eqb (link_at d f.at).to j) f.passes);
      to_is = eqb-true _ _ (and_right (eqb (link_at d f.at).from i) (eqb (link_at d f.at).to j) f.passes);
    }

-- and a link at a place exists
pub linked_at : (d : Description) (l : ℕ) → l < d.link_count → linked d (link_at d l).from (link_at d l).to ≡ true
unfolding linked
linked_at d l h =
    any_at _ 0 d.link_count l (omega arith) (omega arith)
    (both (eqb (link_at d l).from (link_at d l).from) _ (eq-eqb (link_at d l).from (link_at d l).from refl) (eq-eqb (link_at d l).to (link_at d l).to refl))

pub link_at_lem : (d : Description) (l : ℕ) → l < d.link_count → (system d).link (link_at d l).from (link_at d l).to ≡ true
unfolding system
link_at_lem d l h = linked_at d l h

-- the run of a task of the file
pub run_is : (d : Description) (k : ℕ) → k ≤ d.task_count → (system d).run k ≡ run_of d k
unfolding system
run_is d k p = rw (le-leb k d.task_count p)

-- no run is longer than its field allows; an absent task has none
pub run_bound : (d : Description) → Fielded d → (k : ℕ) → 1 ≤ k → (system d).run k ≤ 10000000
unfolding system
run_bound d w k p = go (leb k d.task_count) refl
  where
    go : (b : Bool) → leb k d.task_count ≡ b → cond (leb k d.task_count) (run_of d k) 0 ≤ 10000000
    go true e = rw e (w.run_most k p (leb-true k d.task_count e))
    go false e = rw e (omega arith)

pub shaped_fields : (d : Description) → Fielded d → Shaped (system d)
unfolding system
shaped_fields d w =
    record {
      few = w.few_tasks;
      runs = λ k p q. rw (le-leb k d.task_count q) (w.run_some k p q);
      to_task = λ i j e. let l = link_place d i j e in rw l.to_is at (w.link_to l.at l.within);
      from_node = λ i j e. let l = link_place d i j e in rw l.from_is at (w.link_from l.at l.within);
    }

pub shaped : (d : Description) → WellFormed d → Shaped (system d)
shaped d w = shaped_fields d w.fields

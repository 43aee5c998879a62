-- The graph that sets and a table of runs stand for. Assumes nothing.
use Prim.Native.Nat.{ℕ, ◌+◌, ◌-◌, ◌≤◌}
use mathlib.Core.Path.{◌≡◌, refl, sym, ap, ◌∙◌}
use mathlib.Core.Bool.{Bool, true, false, ◌&&◌, ◌||◌}
use mathlib.Core.List.{List}
use mathlib.Core.Logic.{⊎_elim}
use native.Mathlib.Omega.{arith}
use native.Mathlib.Decide.{ℕ_discrete}
use lib.ListN.{length, get_or, set}
use lib.Seq.{get_or-set_same, get_or-set_other}
use lib.Dec.{leb, eqb}
use borrow.Author.Tests.{leb-true, le-leb, eqb-true, eq-eqb}
use Rattle.model.specs.declared.Description.{Description}
use Rattle.model.specs.Basics.{any_n}
use Rattle.model.specs.Graph.{system, linked, link_at, cyclic}
use Rattle.model.specs.Loads.{load}
use Rattle.lemmas.proofs.Tests.{false_of, same_test, and_left, and_right, both}
use Rattle.lemmas.proofs.Range.{any_more}
use Rattle.theory.proofs.WellFormed.{Loaded}
use Rattle.theory.proofs.WellFormed.{Fielded}
use Rattle.theory.proofs.Fielded.{shaped_fields}
use Rattle.theory.proofs.Rank.{Ends}
use Rattle.theory.proofs.LoadLaws.{loaded_ends}
use Rattle.theory.proofs.Alike.{SameLinks, same_cyclic, same_load}
use Rattle.sets.specs.Sets.{member}
use Rattle.theory.proofs.Links.{Linkable, linked_to}
use Rattle.paths.specs.Rows.{SuccessorsOf, link_by, row_of, graph, NodeOf, TaskOf}
use Rattle.lemmas.proofs.Bools.{or_none}

module _ (succ : List ℕ) (n : ℕ) where
  -- a link of the graph is a member of a set, within the nodes and the tasks
  pub link_is : (i j : ℕ) → NodeOf i → TaskOf n j → link_by succ n i j ≡ member (row_of succ i) (j - 1)
  unfolding link_by
  link_is i j p q = rw (le-leb 1 i p.0, le-leb i 48 p.1, le-leb 1 j q.0, le-leb j n q.1)

  pub link_inside : (i j : ℕ) → link_by succ n i j ≡ true → NodeOf i × TaskOf n j
  unfolding link_by
  link_inside i j e =
      let e1 = and_right (leb 1 i) (leb i 48 && (leb 1 j && (leb j n && member (row_of succ i) (j - 1)))) e in
      let e2 = and_right (leb i 48) (leb 1 j && (leb j n && member (row_of succ i) (j - 1))) e1 in
      let e3 = and_right (leb 1 j) (leb j n && member (row_of succ i) (j - 1)) e2 in
      ((leb-true 1 i (and_left (leb 1 i) _ e), leb-true i 48 (and_left (leb i 48) _ e1)), (leb-true 1 j (and_left (leb 1 j) _ e2), leb-true j n (and_left (leb j n) _ e3)))

module _ (succ : List ℕ) (runs : List ℕ) (n : ℕ) where
  pub ends : Ends (graph succ runs n)
  unfolding graph
  ends i j e = (link_inside succ n i j e).1

  pub run_is : (j : ℕ) → j ≤ n → (graph succ runs n).run j ≡ get_or runs (j - 1) 0
  unfolding graph
  run_is j p = rw (le-leb j n p)

  -- equation 9 holds of the loads of a graph without a cycle
  pub graph_loaded : cyclic (graph succ runs n) ≡ false → Loaded (graph succ runs n)
  graph_loaded = loaded_ends (graph succ runs n) ends

-- the graph of a description's own tables has its links
pub sets_links : (d : Description) (succ runs : List ℕ) → Fielded d → SuccessorsOf d succ → SameLinks (graph succ runs d.task_count) (system d)
unfolding graph system
sets_links d succ runs F M =
    record {
      tasks = refl;
      link = λ i j. same_test _ _ (λ e. to i j (link_inside succ d.task_count i j e) e) (λ e. from i j (inside i j e) e);
    }
  where
    inside : (i j : ℕ) → linked d i j ≡ true → NodeOf i × TaskOf d.task_count j
    inside i j e =
        let S = shaped_fields d F in
        (⊎_elim (λ t. (t.0, omega (arith, t.1, F.few_tasks))) (λ u. (omega (arith, u.0), omega (arith, u.1, F.few_sources))) (S.from_node i j e), S.to_task i j e)

    to : (i j : ℕ) → NodeOf i × TaskOf d.task_count j → link_by succ d.task_count i j ≡ true → linked d i j ≡ true
    to i j p e =
        sym (M i j (p.0.0, p.0.1, p.1.0, omega (arith, p.1.1, F.few_tasks)))
        ∙ (sym (link_is succ d.task_count i j p.0 p.1) ∙ e)

    from : (i j : ℕ) → NodeOf i × TaskOf d.task_count j → linked d i j ≡ true → link_by succ d.task_count i j ≡ true
    from i j p e =
        link_is succ d.task_count i j p.0 p.1
        ∙ (M i j (p.0.0, p.0.1, p.1.0, omega (arith, p.1.1, F.few_tasks)) ∙ e)

pub sets_cyclic : (d : Description) (succ runs : List ℕ) → Fielded d → SuccessorsOf d succ → cyclic (graph succ runs d.task_count) ≡ cyclic (system d)
sets_cyclic d succ runs F M = same_cyclic (graph succ runs d.task_count) (system d) (sets_links d succ runs F M)

pub sets_load : (d : Description) (succ : List ℕ) → Fielded d → SuccessorsOf d succ → (i j : ℕ) → load (graph succ d.runs d.task_count) i j ≡ load (system d) i j
unfolding graph system
sets_load d succ F M i j =
    same_load (graph succ d.runs d.task_count) (system d) (sets_links d succ d.runs F M) (λ k. refl) i j

-- one more link of the description is put into the sets
pub sets_more : (d : Description) (succ : List ℕ) (l r : ℕ) → length succ ≡ 48 → Linkable (link_at d l).from (link_at d l).to → ((k : ℕ) → member r k ≡ (member (row_of succ (link_at d l).from) k || eqb k ((link_at d l).to - 1))) → ((i j : ℕ) → Linkable i j → member (row_of succ i) (j - 1) ≡ linked_to d l i j) → (i j : ℕ) → Linkable i j → member (row_of (set succ ((link_at d l).from - 1) r) i) (j - 1) ≡ linked_to d (l + 1) i j
unfolding linked_to
sets_more d succ l r len p new all i j q = go (ℕ_discrete i (link_at d l).from)
  where
    here : ℕ → Bool
    here k = eqb (link_at d k).from i && eqb (link_at d k).to j

    index : eqb (j - 1) ((link_at d l).to - 1) ≡ true → j ≡ (link_at d l).to
    index e = let f = eqb-true (j - 1) ((link_at d l).to - 1) e in omega (arith, p, q)

    tested : i ≡ (link_at d l).from → eqb (j - 1) ((link_at d l).to - 1) ≡ here l
    tested f =
        same_test _ _
        (λ e. both _ _ (eq-eqb (link_at d l).from i (sym f)) (eq-eqb (link_at d l).to j (sym (index e))))
        (λ e. let g = eqb-true (link_at d l).to j (and_right (eqb (link_at d l).from i) (eqb (link_at d l).to j) e) in eq-eqb (j - 1) ((link_at d l).to - 1) (omega arith))

    go : Dec (i ≡ (link_at d l).from) → member (row_of (set succ ((link_at d l).from - 1) r) i) (j - 1) ≡ any_n here 0 (l + 1)
    go (yes f) =
        ap (λ k. member (get_or (set succ ((link_at d l).from - 1) r) (k - 1) 0) (j - 1)) f
        ∙ ap (λ x. member x (j - 1)) (get_or-set_same succ ((link_at d l).from - 1) r 0 (omega (arith, len, p)))
        ∙ new (j - 1)
        ∙ ap (λ k. member (row_of succ k) (j - 1) || eqb (j - 1) ((link_at d l).to - 1)) (sym f)
        ∙ ap (λ b. b || eqb (j - 1) ((link_at d l).to - 1)) (all i j q)
        ∙ ap (λ b. any_n here 0 l || b) (tested f)
        ∙ sym (any_more here l)
    go (no f) =
        ap (λ x. member x (j - 1)) (get_or-set_other succ ((link_at d l).from - 1) (i - 1) r 0 (λ e. f (omega (arith, p, q))))
        ∙ all i j q
        ∙ sym (any_more here l ∙ or_none _ _ (false_of _ (λ e. f (sym (eqb-true (link_at d l).from i (and_left (eqb (link_at d l).from i) (eqb (link_at d l).to j) e))))))

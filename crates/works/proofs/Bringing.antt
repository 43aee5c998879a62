-- What nodes bring in along links: the cycle test, added loads, and the loads that are sums over the sets. Assumes nothing.
use Prim.Native.Nat.{ℕ, zero, suc, ◌-◌, ◌≤◌, ◌<◌}
use mathlib.Core.Path.{◌≡◌, refl, sym, ap, ◌∙◌}
use mathlib.Core.Bool.{Bool, true, false}
use mathlib.Core.List.{List, []}
use native.Mathlib.Omega.{arith}
use lib.ListN.{get_or}
use Rattle.model.specs.Basics.{given}
use Rattle.model.specs.Graph.{Reaches, cyclic}
use Rattle.model.specs.Graph.Reaches.{one as link, more as on}
use Rattle.model.specs.Loads.{work, added, load}
use Rattle.lemmas.proofs.Tests.{not_both, false_of, true_of, same_test}
use Rattle.lemmas.proofs.Range.{Found, any_at, any_found, top_to-le, given_le, sum_to-cong}
use Rattle.theory.proofs.Rank.{rank_of, ends_fall, reach_falls, cycle_is}
use Rattle.theory.proofs.LoadLaws.{added_le, along}
use Rattle.theory.proofs.Alike.{same_cyclic}
use Rattle.sets.specs.Sets.{member}
use Rattle.paths.specs.Paths.{Through}
use Rattle.paths.specs.Paths.Through.{one, more}
use Rattle.paths.specs.Rows.{link_by, row_of, graph, NodeOf, TaskOf, Brought, Closed, self_in}
use Rattle.works.specs.Works.{WorksOf, SetsOf, load_by}
use Rattle.paths.proofs.PathLaws.{lowest}
use Rattle.paths.proofs.Tabled.{link_inside, ends, graph_loaded}

module _ (succ : List ℕ) (runs : List ℕ) (n : ℕ) where
  through_reaches : (v : ℕ) {i j : ℕ} → Through (link_by succ n) v i j → Reaches (graph succ runs n) i j
  unfolding graph
  through_reaches v (one e) = link e
  through_reaches v (more e p t) = on e (through_reaches v t)

  reaches_through : {i j : ℕ} → Reaches (graph succ runs n) i j → Through (link_by succ n) 0 i j
  unfolding graph
  reaches_through (link e) = one e
  reaches_through (on {i = i} {k = k} e p) = more e (omega (arith, (link_inside succ n i k e).1.0)) (reaches_through p)

  reaches_task : {i j : ℕ} → Reaches (graph succ runs n) i j → TaskOf n j
  unfolding graph
  reaches_task (link {i = i} {j = j} e) = (link_inside succ n i j e).1
  reaches_task (on e p) = reaches_task p

  module _ (acyclic : cyclic (graph succ runs n) ≡ false) where
    -- the rank falls along a path
    pub through_falls : (v : ℕ) {i j : ℕ} → Through (link_by succ n) v i j → rank_of (graph succ runs n) j < rank_of (graph succ runs n) i
    through_falls v t =
        reach_falls (graph succ runs n) (rank_of (graph succ runs n)) (ends_fall (graph succ runs n) (ends succ runs n) acyclic) (through_reaches v t)

    -- a node adds the work of a task that it brings in
    added_at : (j : ℕ) {i m : ℕ} → Through (link_by succ n) j i m → m ≡ j → added (graph succ runs n) i j ≡ work (graph succ runs n) j
    unfolding graph
    added_at j {i} (one e) q = (graph_loaded succ runs n acyclic).direct i j (rw q at e)
    added_at j {i} (more {k = k} e p t) q =
        let L = graph_loaded succ runs n acyclic in
        omega (arith, added_at j t q, along (graph succ runs n) L i k j e p (link_inside succ n i k e).1.1, added_le (graph succ runs n) L i j)

    pub added_in : (j : ℕ) {i : ℕ} → Through (link_by succ n) j i j → added (graph succ runs n) i j ≡ work (graph succ runs n) j
    added_in j t = added_at j t refl

    -- and nothing of any other
    added_out_by : (r i j : ℕ) → rank_of (graph succ runs n) i < r → (Through (link_by succ n) j i j → ⊥) → added (graph succ runs n) i j ≡ 0
    unfolding graph
    added_out_by zero i j p none = absurd (omega arith)
    added_out_by (suc r) i j p none =
        let below =
        top_to-le (λ k. given (link_by succ n i k) (added (graph succ runs n) k j)) (suc j) n 0
        (λ k q t.
        given_le (link_by succ n i k) (added (graph succ runs n) k j) 0
        (λ e. omega (arith, added_out_by r k j (omega (arith, through_falls 0 (one {i = i} {j = k} e))) (λ t. none (more e q t))))) in
        omega (arith, (graph_loaded succ runs n acyclic).through i j (false_of _ (λ e. none (one e))), below)

    pub added_out : (i j : ℕ) → (Through (link_by succ n) j i j → ⊥) → added (graph succ runs n) i j ≡ 0
    added_out i j none = added_out_by (suc (rank_of (graph succ runs n) i)) i j (omega arith) none

    -- what a node adds, by its set
    pub added_by : (i j set : ℕ) → TaskOf n j → Brought succ n i set → added (graph succ runs n) i j ≡ given (member set (j - 1)) (work (graph succ runs n) j)
    added_by i j set T B = go (member set (j - 1)) refl
      where
        go : (b : Bool) → member set (j - 1) ≡ b → added (graph succ runs n) i j ≡ given b (work (graph succ runs n) j)
        go true e = added_in j (B.only j T e)
        go false e = added_out i j (λ t. not_both (B.all j T t) e)

    -- loads by sets and works are the loads of the links
    pub load_by_lem : (brings works : List ℕ) → SetsOf succ n brings → WorksOf (graph succ runs n) works → (i j : ℕ) → NodeOf i → 1 ≤ j → load_by (row_of brings i) works n j ≡ load (graph succ runs n) i j
    unfolding load_by load graph
    load_by_lem brings works B W i j N p =
        sum_to-cong
        (λ k. given (member (row_of brings i) (k - 1)) (get_or works (k - 1) 0))
        (added (graph succ runs n) i)
        j
        n
        (λ k q t.
        let T : TaskOf n k = (omega arith, t) in
        ap (given (member (row_of brings i) (k - 1))) (W k T) ∙ sym (added_by i k (row_of brings i) T (B i N)))

    -- the runs make no cycle
    pub cycle_free : cyclic (graph succ [] n) ≡ false
    unfolding graph
    cycle_free = same_cyclic (graph succ [] n) (graph succ runs n) (record { tasks = refl; link = λ i j. refl }) ∙ acyclic

  -- a task brings itself in exactly if the links contain a cycle
  pub self_cyclic : (rows : List ℕ) → Closed succ n rows → self_in rows n ≡ cyclic (graph succ runs n)
  unfolding self_in
  self_cyclic rows C = same_test _ _ there back
    where
      there : self_in rows n ≡ true → cyclic (graph succ runs n) ≡ true
      there e =
          let f : Found (λ i. member (get_or rows i 0) i) 0 n = any_found _ 0 n e in
          let q : suc f.at - 1 ≡ f.at = omega arith in
          let T : TaskOf n (suc f.at) = omega (arith, f.within) in
          let t = (C (suc f.at) T).only (suc f.at) T (rw q f.passes) in
          true_of (cyclic (graph succ runs n)) (λ a. omega (arith, through_falls a (suc f.at) t))

      back : cyclic (graph succ runs n) ≡ true → self_in rows n ≡ true
      back e =
          let c = cycle_is (graph succ runs n) e in
          let T = reaches_task c.1 in
          let u = lowest (link_by succ n) c.0 0 c.0 (omega arith) T.0 (reaches_through c.1) in
          let U : TaskOf n u.0 = omega (arith, T, u.1, u.2) in
          any_at (λ i. member (get_or rows i 0) i) 0 n (u.0 - 1) (omega arith) (omega (arith, U)) ((C u.0 U).all u.0 U u.3)

-- Two systems with the same tasks, runs and links have the same cycles, loads and ways back, whatever their sources. Assumes nothing.
use Rattle.std.specs.Prelude.{is_none, None}
use Prim.Native.Nat.{ℕ, zero, suc, ◌+◌, ◌-◌, ◌*◌}
use mathlib.Core.Path.{◌≡◌, refl, sym, ap, ◌∙◌}
use mathlib.Core.Bool.{Bool, true, false, ◌&&◌, cond}
use lib.Dec.{ltb, eqb}
use lib.ListN.{get_or, replicate}
use Rattle.model.specs.declared.Walk.{Walk}
use Rattle.model.specs.Basics.{sum_to, given}
use Rattle.model.specs.Graph.{System, walks, cyclic}
use Rattle.model.specs.Loads.{work_f, added_f, work, added, load}
use Rattle.model.specs.Order.{fail_at, meet, visit, walk, in_order}
use Rattle.lemmas.proofs.Range.{any_cong, sum_to-cong, top_to-cong, up_to-alike}
use Rattle.theory.proofs.LoadLaws.{added_f_direct, added_f_through}

-- a system by its parts
abbrev pub system_of : ℕ → ℕ → (ℕ → ℕ) → (ℕ → ℕ → Bool) → System
system_of n sources run link = record { tasks = n; sources = sources; run = run; link = link }

-- the same number of tasks and the same links
pub record SameLinks (s t : System) : Type 0 where
  pub tasks : s.tasks ≡ t.tasks
  pub link : (i j : ℕ) → s.link i j ≡ t.link i j

links_path : (s t : System) → SameLinks s t → s ≡ system_of t.tasks s.sources s.run t.link
links_path s t S = λ x. system_of (S.tasks x) s.sources s.run (λ i j. S.link i j x)

runs_path : (s t : System) → SameLinks s t → ((j : ℕ) → s.run j ≡ t.run j) → s ≡ system_of t.tasks s.sources t.run t.link
runs_path s t S run = λ x. system_of (S.tasks x) s.sources (λ j. run j x) (λ i j. S.link i j x)

-- neither sources nor runs bear on walks, nor on the walk back
module _ (n : ℕ) (link : ℕ → ℕ → Bool) (a b : ℕ) (r q : ℕ → ℕ) where
  walks_alike : (l i : ℕ) → walks (system_of n a r link) l i ≡ walks (system_of n b q link) l i
  unfolding walks
  walks_alike zero i = refl
  walks_alike (suc l) i = any_cong _ _ 1 n (λ k p u. ap (λ w. link i k && w) (walks_alike l k))

  cyclic_alike : cyclic (system_of n a r link) ≡ cyclic (system_of n b q link)
  unfolding cyclic
  cyclic_alike = any_cong _ _ 1 n (λ k p u. walks_alike n k)

  visit_alike : (f j x : ℕ) (w : Walk) → visit f (system_of n a r link) j x w ≡ visit f (system_of n b q link) j x w
  unfolding visit
  visit_alike zero j x w = refl
  visit_alike (suc f) j x w =
      ap (λ v. cond (ltb 32 x) (fail_at x w) (cond (get_or w.met (x - 1) false) (fail_at x w) (cond (ltb x j) (meet x w) v)))
      (up_to-alike 48 _ _ (meet x w) (λ i p v. ap (λ z. elim (link (suc i) x) [ false ↦ v | true ↦ elim (is_none v.failed) [ false ↦ v | true ↦ z ] ]) (visit_alike f j (suc i) v)))

  order_alike : (i j : ℕ) → in_order (system_of n a r link) i j ≡ in_order (system_of n b q link) i j
  unfolding in_order walk
  order_alike i j = ap (λ (w : Walk). is_none w.failed) (visit_alike 34 j i (record { failed = None; met = replicate 32 false }))

pub same_cyclic : (s t : System) → SameLinks s t → cyclic s ≡ cyclic t
same_cyclic s t S =
    ap cyclic (links_path s t S) ∙ cyclic_alike t.tasks t.link s.sources t.sources s.run t.run

pub same_order : (s t : System) → SameLinks s t → (i j : ℕ) → in_order s i j ≡ in_order t i j
same_order s t S i j =
    ap (λ x. in_order x i j) (links_path s t S) ∙ order_alike t.tasks t.link s.sources t.sources s.run t.run i j

-- sources do not bear on loads
module _ (n : ℕ) (run : ℕ → ℕ) (link : ℕ → ℕ → Bool) (a b : ℕ) where
  loads_alike : (f : ℕ) → ((j : ℕ) → work_f f (system_of n a run link) j ≡ work_f f (system_of n b run link) j) × ((i j : ℕ) → added_f f (system_of n a run link) i j ≡ added_f f (system_of n b run link) i j)
  unfolding work_f added_f
  loads_alike zero = (λ j. refl, λ i j. refl)
  loads_alike (suc f) = (λ j. on_work j (loads_alike f).1, λ i j. on_added i j (link i j) refl (loads_alike f))
    where
      s : System
      s = system_of n a run link

      t : System
      t = system_of n b run link

      on_work : (j : ℕ) → ((i k : ℕ) → added_f f s i k ≡ added_f f t i k) → run j + sum_to (added_f f s j) (suc j) n ≡ run j + sum_to (added_f f t j) (suc j) n
      on_work j ih = ap (λ x. run j + x) (sum_to-cong _ _ (suc j) n (λ k u v. ih j k))

      on_added : (i j : ℕ) → (b : Bool) → link i j ≡ b → ((j : ℕ) → work_f f s j ≡ work_f f t j) × ((i j : ℕ) → added_f f s i j ≡ added_f f t i j) → added_f (suc f) s i j ≡ added_f (suc f) t i j
      on_added i j true l ih = added_f_direct f s i j l ∙ (ih.0 j ∙ sym (added_f_direct f t i j l))
      on_added i j false l ih =
          added_f_through f s i j l ∙ (top_to-cong _ _ (suc j) n (λ k u v. ap (given (link i k)) (ih.1 k j)) ∙ sym (added_f_through f t i j l))

  work_alike : (j : ℕ) → work (system_of n a run link) j ≡ work (system_of n b run link) j
  unfolding work
  work_alike j = (loads_alike (2 * n + 4)).0 j

  added_alike : (i j : ℕ) → added (system_of n a run link) i j ≡ added (system_of n b run link) i j
  unfolding added
  added_alike i j = (loads_alike (2 * n + 4)).1 i j

  load_alike : (i j : ℕ) → load (system_of n a run link) i j ≡ load (system_of n b run link) i j
  unfolding load
  load_alike i j = sum_to-cong _ _ j n (λ k u v. added_alike i k)

module _ (s t : System) (S : SameLinks s t) (run : (j : ℕ) → s.run j ≡ t.run j) where
  pub same_work : (j : ℕ) → work s j ≡ work t j
  same_work j =
      ap (λ x. work x j) (runs_path s t S run) ∙ work_alike t.tasks t.run t.link s.sources t.sources j

  pub same_added : (i j : ℕ) → added s i j ≡ added t i j
  same_added i j =
      ap (λ x. added x i j) (runs_path s t S run) ∙ added_alike t.tasks t.run t.link s.sources t.sources i j

  pub same_load : (i j : ℕ) → load s i j ≡ load t i j
  same_load i j =
      ap (λ x. load x i j) (runs_path s t S run) ∙ load_alike t.tasks t.run t.link s.sources t.sources i j

-- Loads of a system without a cycle: equation 9 holds, more depth changes nothing, and the laws that later proofs go by. Assumes nothing.
use Prim.Native.Nat.{ℕ, zero, suc, ◌+◌, ◌-◌, ◌*◌, ◌≤◌, ◌<◌}
use mathlib.Core.Path.{◌≡◌, refl, sym, ap, ◌∙◌}
use mathlib.Core.Bool.{Bool, true, false}
use mathlib.Core.Logic.{⊎_elim}
use native.Mathlib.Omega.{arith}
use Rattle.model.specs.Basics.{sum_n, sum_to, top_to, given}
use Rattle.model.specs.Graph.{System, cyclic}
use Rattle.model.specs.Loads.{work_f, added_f, work, added, load}
use Rattle.lemmas.proofs.Tests.{not_both, false_of}
use Rattle.lemmas.proofs.Range.{All, sum_to-cong, sum_to-zero, le_sum_to, top_to-cong, top_to-le, le_top_to, given_le, le_given, given_cong}
use Rattle.theory.proofs.WellFormed.{IsTask, IsSource, Shaped, Loaded}
use Rattle.theory.proofs.Rank.{Ends, rank_of, ends_fall, rank_most}

-- one step of each definition
pub work_f_step : (f : ℕ) (s : System) (j : ℕ) → work_f (suc f) s j ≡ s.run j + sum_to (added_f f s j) (suc j) s.tasks
unfolding work_f
work_f_step f s j = refl

pub added_f_direct : (f : ℕ) (s : System) (i j : ℕ) → s.link i j ≡ true → added_f (suc f) s i j ≡ work_f f s j
unfolding added_f
added_f_direct f s i j l = rw (l, added_f)

pub added_f_through : (f : ℕ) (s : System) (i j : ℕ) → s.link i j ≡ false → added_f (suc f) s i j ≡ top_to (λ k. given (s.link i k) (added_f f s k j)) (suc j) s.tasks
unfolding added_f
added_f_through f s i j l = rw (l, added_f)

module _ (s : System) (rank : ℕ → ℕ) (falls : (i k : ℕ) → s.link i k ≡ true → rank k < rank i) where
  -- one more depth changes nothing, once there are two for each rank
  pub depth_both : (f : ℕ) → ((j : ℕ) → 2 * rank j + 1 < f → work_f (suc f) s j ≡ work_f f s j) × ((i j : ℕ) → 2 * rank i < f → added_f (suc f) s i j ≡ added_f f s i j)
  depth_both zero = (λ j p. absurd (omega arith), λ i j p. absurd (omega arith))
  depth_both (suc f) = (λ j p. on_work j p (depth_both f).1, λ i j p. on_added i j p (s.link i j) refl (depth_both f))
    where
      on_work : (j : ℕ) → 2 * rank j + 1 < suc f → ((i k : ℕ) → 2 * rank i < f → added_f (suc f) s i k ≡ added_f f s i k) → work_f (suc (suc f)) s j ≡ work_f (suc f) s j
      on_work j p ih =
          rw (work_f_step (suc f) s j, work_f_step f s j)
          (ap (λ x. s.run j + x) (sum_to-cong _ _ (suc j) s.tasks (λ k q r. ih j k (omega arith))))

      on_added : (i j : ℕ) → 2 * rank i < suc f → (b : Bool) → s.link i j ≡ b → ((j : ℕ) → 2 * rank j + 1 < f → work_f (suc f) s j ≡ work_f f s j) × ((i j : ℕ) → 2 * rank i < f → added_f (suc f) s i j ≡ added_f f s i j) → added_f (suc (suc f)) s i j ≡ added_f (suc f) s i j
      on_added i j p true l ih =
          rw (added_f_direct (suc f) s i j l, added_f_direct f s i j l) (ih.0 j (omega (arith, falls i j l)))
      on_added i j p false l ih =
          rw (added_f_through (suc f) s i j l, added_f_through f s i j l)
          (top_to-cong _ _ (suc j) s.tasks (λ k q r. given_cong (s.link i k) _ _ (λ x. ih.1 k j (omega (arith, falls i k x)))))

-- equation 9 holds of the loads as defined
pub loaded_ends : (s : System) → Ends s → cyclic s ≡ false → Loaded s
unfolding work added
loaded_ends s ends acyclic =
    record {
      rank = rank_of s;
      falls = falls;
      rank_most = rank_most s;
      whole = λ j. sym (enough.0 j (omega (arith, rank_most s j))) ∙ work_f_step depth s j;
      direct = λ i j l. sym (enough.1 i j (omega (arith, rank_most s i))) ∙ added_f_direct depth s i j l;
      through = λ i j l. sym (enough.1 i j (omega (arith, rank_most s i))) ∙ added_f_through depth s i j l;
    }
  where
    falls : (i k : ℕ) → s.link i k ≡ true → rank_of s k < rank_of s i
    falls = ends_fall s ends acyclic

    depth : ℕ
    depth = 2 * s.tasks + 4

    enough : ((j : ℕ) → 2 * rank_of s j + 1 < depth → work_f (suc depth) s j ≡ work_f depth s j) × ((i j : ℕ) → 2 * rank_of s i < depth → added_f (suc depth) s i j ≡ added_f depth s i j)
    enough = depth_both s (rank_of s) falls depth

pub loaded : (s : System) → Shaped s → cyclic s ≡ false → Loaded s
loaded s S = loaded_ends s S.to_task

module _ (s : System) (L : Loaded s) where
  -- L1: no node adds more of a task than a whole run of it brings
  added_le_by : (r i k : ℕ) → L.rank i < r → added s i k ≤ work s k
  added_le_by zero i k p = absurd (omega arith)
  added_le_by (suc r) i k p = go (s.link i k) refl (λ m q. added_le_by r m k (omega arith))
    where
      go : (b : Bool) → s.link i k ≡ b → ((m : ℕ) → L.rank m < L.rank i → added s m k ≤ work s k) → added s i k ≤ work s k
      go true l ih = omega (arith, L.direct i k l)
      go false l ih =
          rw (L.through i k l)
          (top_to-le _ (suc k) s.tasks (work s k) (λ m q t. given_le (s.link i m) _ _ (λ x. ih m (L.falls i m x))))

  pub added_le : (i k : ℕ) → added s i k ≤ work s k
  added_le i k = added_le_by (suc (L.rank i)) i k (omega arith)

  -- L2: what a successor above k adds of k, the node adds too
  pub along : (i m k : ℕ) → s.link i m ≡ true → k < m → m ≤ s.tasks → added s m k ≤ added s i k
  along i m k l p q = go (s.link i k) refl
    where
      go : (b : Bool) → s.link i k ≡ b → added s m k ≤ added s i k
      go true d = omega (arith, L.direct i k d, added_le m k)
      go false d =
          rw (L.through i k d)
          (omega (
            arith,
            le_top_to (λ x. given (s.link i x) (added s x k)) (suc k) s.tasks m p q,
            le_given (s.link i m) (added s m k) l,
          ))

  -- L3: a node adds nothing of one that does not lie below it in rank
  back_by : (r m h : ℕ) → L.rank m < r → L.rank m ≤ L.rank h → added s m h ≡ 0
  back_by zero m h p q = absurd (omega arith)
  back_by (suc r) m h p q = go (s.link m h) refl (λ k t. back_by r k h (omega arith) (omega arith))
    where
      go : (b : Bool) → s.link m h ≡ b → ((k : ℕ) → L.rank k < L.rank m → added s k h ≡ 0) → added s m h ≡ 0
      go true l ih = absurd (omega (arith, L.falls m h l))
      go false l ih =
          rw (L.through m h l)
          (omega (
            arith,
            top_to-le
                _
                (suc h)
                s.tasks
                0
                (λ k t u. given_le (s.link m k) (added s k h) 0 (λ x. omega (arith, ih k (L.falls m k x)))),
          ))

  pub back : (m h : ℕ) → L.rank m ≤ L.rank h → added s m h ≡ 0
  back m h q = back_by (suc (L.rank m)) m h (omega arith) q

  -- L4: a whole run of h holds its own run and what it adds above
  pub run_whole : (j : ℕ) → s.run j ≤ work s j
  run_whole j = omega (arith, L.whole j)

  pub above_whole : (h x : ℕ) → x ≤ s.run h → sum_to (added s h) (suc h) s.tasks ≤ work s h - x
  above_whole h x p = omega (arith, L.whole h)

  -- a link brings at least a whole run of its task
  pub load_direct : Shaped s → (i j : ℕ) → s.link i j ≡ true → work s j ≤ load s i j
  unfolding load
  load_direct S i j l =
      omega (arith, L.direct i j l, le_sum_to (added s i) j s.tasks j (omega arith) (S.to_task i j l).1)

-- L5: a node without a link to a task from j on has no load there
no_link-added : (s : System) (i j : ℕ) → All (λ k. s.link i k ≡ false) j s.tasks → (k : ℕ) → j ≤ k → k ≤ s.tasks → added s i k ≡ 0
unfolding added
no_link-added s i j none k p q =
    let e : 2 * s.tasks + 4 ≡ suc (2 * s.tasks + 3) = omega arith in
    ap (λ f. added_f f s i k) e
    ∙ added_f_through (2 * s.tasks + 3) s i k (none k p q)
    ∙ omega (
      arith,
      top_to-le
          (λ m. given (s.link i m) (added_f (2 * s.tasks + 3) s m k))
          (suc k)
          s.tasks
          0
          (λ m t u. given_le (s.link i m) _ 0 (λ x. absurd (not_both x (none m (omega arith) u)))),
    )

pub no_link-load : (s : System) (i j : ℕ) → All (λ k. s.link i k ≡ false) j s.tasks → load s i j ≡ 0
unfolding load
no_link-load s i j none = sum_to-zero (added s i) j s.tasks (no_link-added s i j none)

-- a number that no node has has no load
pub absent_load : (s : System) → Shaped s → (i j : ℕ) → (IsTask s i → ⊥) → (IsSource s i → ⊥) → load s i j ≡ 0
absent_load s S i j t u =
    no_link-load s i j (λ k p q. false_of (s.link i k) (λ e. ⊎_elim t u (S.from_node i k e)))

-- and there is none at a number above the tasks
pub past_load : (s : System) (i j : ℕ) → s.tasks < j → load s i j ≡ 0
unfolding load sum_n
past_load s i j h = let e : suc s.tasks - j ≡ 0 = omega arith in rw (e, sum_n)

-- A link between tasks with an exclusive neighbourhood: at most one token is under way, so none finds another unserved. Assumes nothing.
use Prim.Native.Nat.{ℕ, zero, suc, ◌≤◌, ◌<◌}
use mathlib.Core.Path.{◌≡◌, refl, sym, ◌∙◌}
use mathlib.Core.Bool.{true, false, ◌&&◌}
use mathlib.Core.Logic.{◌⊎◌, inl, inr}
use native.Mathlib.Omega.{arith}
use lib.Dec.{ltb}
use borrow.Author.Tests.{ltb-true}
use Rattle.model.specs.Graph.{System}
use Rattle.model.specs.Order.{Set, Neighbourhood}
use Rattle.lemmas.proofs.Tests.{Cmp, less, same, more, cmp, at_or_not, not_both, or_cases, and_right}
use Rattle.lemmas.proofs.Range.{Found}
use Rattle.theory.proofs.WellFormed.{Shaped}
use Rattle.assurance.proofs.Potential.{live_used, live_pending}
use Rattle.assurance.proofs.Schedule.{Left, Schedule, live_at, live_mid, Preempts, ends_at, ends_ran, ends_over, used_other, used_over}

-- wait y x: the event of tick x is unserved before tick y; an event comes with an end of i's run
module _ {s : System} (G : Shaped s) {gap : ℕ → ℕ} (S : Schedule s gap) (i : ℕ) (F N : Set) (H : Neighbourhood s i F N) (wait : ℕ → ℕ → Type 0) where
  pub record Link : Type 0 where
    pub none : (x : ℕ) → wait 0 x → ⊥
    pub fresh : (y x : ℕ) → wait (suc y) x → wait y x ⊎ (ends_at S i y ≡ true)

  -- when a task of the frontier runs, no task of the interior is live and nothing on the link is unserved
  pub record Quiet : Type 0 where
    pub empty : (x k : ℕ) → F (S.ran x) ≡ true → N k ≡ true → live_mid S x k ≡ false
    pub clear : (x z : ℕ) → F (S.ran x) ≡ true → wait x z → ⊥

  -- no source wakes a task of the interior
  no_source_lem : (x k : ℕ) → N k ≡ true → Found (λ u. S.arr x u && s.link u k) 33 s.sources → ⊥
  no_source_lem x k m w =
      or_cases (F w.at) (N w.at) (H.c2 w.at k m (and_right (S.arr x w.at) _ w.passes)) (λ f. omega (arith, (H.frontier_tasks w.at f).1, G.few, w.from)) (λ f. omega (arith, (H.interior_tasks w.at f).1, G.few, w.from))

  pending_now : (x k : ℕ) → N k ≡ true → S.pending_mid x k ≡ true → S.pending x k ≡ true
  pending_now x k m e = go (S.mid_from x k (H.interior_tasks k m).0 e)
    where
      go : (S.pending x k ≡ true) ⊎ Found (λ u. S.arr x u && s.link u k) 33 s.sources → S.pending x k ≡ true
      go (inl p) = p
      go (inr w) = absurd (no_source_lem x k m w)

  pub live_now : (x k : ℕ) → N k ≡ true → live_mid S x k ≡ true → live_at S x k ≡ true
  live_now x k m e =
      or_cases (ltb 0 (S.used x k)) (S.pending_mid x k) e (λ p. live_used (S.used x) (S.pending x) k (ltb-true 0 (S.used x k) p)) (λ p. live_pending (S.used x) (S.pending x) k (pending_now x k m p))

  -- at most one task of the interior is live, and a task of it that is part done is not pending again
  record One (x : ℕ) : Type 0 where
    one : (k k' : ℕ) → N k ≡ true → N k' ≡ true → live_at S x k ≡ true → live_at S x k' ≡ true → k ≡ k'
    single : (k : ℕ) → N k ≡ true → 0 < S.used x k → S.pending x k ≡ true → ⊥

  -- live after a tick: it was so, and did not end its run; or the task that ended one has a link to it
  record Stayed (x k : ℕ) : Type 0 where
    was : live_at S x k ≡ true
    went_on : S.over x ≡ true → k ≡ S.ran x → ⊥

  record Woken (x k : ℕ) : Type 0 where
    ended : S.over x ≡ true
    by : s.link (S.ran x) k ≡ true

  next_live : (x k : ℕ) → One x → N k ≡ true → live_at S (suc x) k ≡ true → Stayed x k ⊎ Woken x k
  next_live x k g m e =
      or_cases (ltb 0 (S.used (suc x) k)) (S.pending (suc x) k) e (λ p. inl (running (ltb-true 0 (S.used (suc x) k) p))) (λ p. go (S.next_from x k o p))
    where
      o : 1 ≤ k
      o = (H.interior_tasks k m).0

      running : 0 < S.used (suc x) k → Stayed x k
      running p = record {
        was = at_or_not (λ h. h ≡ k → live_at S x k ≡ true) (S.ran x) k (λ q. live_now x k m (rw q at (S.ran_live x (omega (arith, o))))) (λ ne q. live_used (S.used x) (S.pending x) k (omega (arith, used_other S x k o ne))) refl;
        went_on = λ v q. omega (arith, used_over S x k o q v);
      }

      go : Left (S.used x) (S.pending_mid x) (S.ran x) k ⊎ ((S.over x ≡ true) × (s.link (S.ran x) k ≡ true)) → Stayed x k ⊎ Woken x k
      go (inl w) =
          let p : S.pending x k ≡ true = pending_now x k m w.0 in
          inl (record { was = live_pending (S.used x) (S.pending x) k p; went_on = λ v q. g.single k m (w.1 q) p })
      go (inr w) = inr (record { ended = w.0; by = w.1 })

  ran_now : (x : ℕ) → S.over x ≡ true → N (S.ran x) ≡ true → live_at S x (S.ran x) ≡ true
  ran_now x o m = live_now x (S.ran x) m (S.ran_live x (S.over_ran x o))

  -- two successors in the interior are one
  only : (p k k' : ℕ) → N k ≡ true → N k' ≡ true → s.link p k ≡ true → s.link p k' ≡ true → k ≡ k'
  only p k k' m m' l l' = go (cmp p i)
    where
      other : (p ≡ i → ⊥) → k ≡ k'
      other ne = H.c3_only p k k' (H.c2 p k m l) ne m l m' l'

      go : Cmp p i → k ≡ k'
      go (less r) = other (λ e. omega arith)
      go (same r) = absurd (H.c3_none k m (rw r at l))
      go (more r) = other (λ e. omega arith)

  module _ (K : Link) (Q : Quiet) where
    -- a task of the interior that stays live, and a run that ends with a link into the interior
    mixed : (x k k' : ℕ) → One x → N k ≡ true → N k' ≡ true → live_at S x k ≡ true → (k ≡ S.ran x → ⊥) → Woken x k' → ⊥
    mixed x k k' g m m' e ne v =
        or_cases (F (S.ran x)) (N (S.ran x)) (H.c2 (S.ran x) k' m' v.by) (λ f. not_both (mid_of e) (Q.empty x k f m)) (λ f. ne (g.one k (S.ran x) m f e (ran_now x v.ended f)))
      where
        mid_of : live_at S x k ≡ true → live_mid S x k ≡ true
        mid_of l =
            or_cases (ltb 0 (S.used x k)) (S.pending x k) l (λ p. live_used (S.used x) (S.pending_mid x) k (ltb-true 0 (S.used x k) p)) (λ p. live_pending (S.used x) (S.pending_mid x) k (S.mid_kept x k (H.interior_tasks k m).0 p))

    one_step : (x : ℕ) → One x → One (suc x)
    one_step x g = record {
      one = λ k k' m m' e e'. meet k k' m m' (next_live x k g m e) (next_live x k' g m' e');
      single = λ k m p e. alone k m p (S.next_from x k (H.interior_tasks k m).0 e);
    }
      where
        meet : (k k' : ℕ) → N k ≡ true → N k' ≡ true → Stayed x k ⊎ Woken x k → Stayed x k' ⊎ Woken x k' → k ≡ k'
        meet k k' m m' (inl p) (inl q) = g.one k k' m m' p.was q.was
        meet k k' m m' (inl p) (inr q) = absurd (mixed x k k' g m m' p.was (p.went_on q.ended) q)
        meet k k' m m' (inr p) (inl q) = absurd (mixed x k' k g m' m q.was (q.went_on p.ended) p)
        meet k k' m m' (inr p) (inr q) = only (S.ran x) k k' m m' p.by q.by

        alone : (k : ℕ) → N k ≡ true → 0 < S.used (suc x) k → Left (S.used x) (S.pending_mid x) (S.ran x) k ⊎ ((S.over x ≡ true) × (s.link (S.ran x) k ≡ true)) → ⊥
        alone k m p (inl w) =
            let o : 1 ≤ k = (H.interior_tasks k m).0 in
            let u : 0 < S.used x k = at_or_not (λ h. h ≡ k → 0 < S.used x k) (S.ran x) k (λ q. w.1 (sym q)) (λ ne q. omega (arith, used_other S x k o ne)) refl in
            g.single k m u (pending_now x k m w.0)
        alone k m p (inr w) =
            let o : 1 ≤ k = (H.interior_tasks k m).0 in
            let ne : k ≡ S.ran x → ⊥ = λ q. omega (arith, used_over S x k o q w.0) in
            mixed x k k g m m (live_used (S.used x) (S.pending x) k (omega (arith, used_other S x k o ne))) ne (record { ended = w.0; by = w.1 })

    one : (x : ℕ) → One x
    one zero = record {
      one = λ k k' m m' e e'. absurd (not_both e (rw (S.unused_first k (H.interior_tasks k m).0, S.pending_first k (H.interior_tasks k m).0) refl));
      single = λ k m p e. omega (arith, S.unused_first k (H.interior_tasks k m).0);
    }
    one (suc x) = one_step x (one x)

    -- while an event of i waits and i is of the interior, nothing in the interior is live
    empty : (y x : ℕ) → wait y x → N i ≡ true → (k : ℕ) → N k ≡ true → live_at S y k ≡ true → ⊥
    empty zero x w m k n e = K.none x w
    empty (suc y) x w m k n e = go (K.fresh y x w) (next_live y k (one y) n e) (λ v. empty y x v m)
      where
        go : wait y x ⊎ (ends_at S i y ≡ true) → Stayed y k ⊎ Woken y k → (wait y x → (h : ℕ) → N h ≡ true → live_at S y h ≡ true → ⊥) → ⊥
        go (inl v) (inl p) ih = ih v k n p.was
        go (inl v) (inr p) ih =
            or_cases (F (S.ran y)) (N (S.ran y)) (H.c2 (S.ran y) k n p.by) (λ f. Q.clear y x f v) (λ f. ih v (S.ran y) f (ran_now y p.ended f))
        go (inr v) (inl p) ih =
            let r : S.ran y ≡ i = ends_ran S i y v in
            let here : live_at S y i ≡ true = rw r at (ran_now y (ends_over S i y v) (rw r m)) in
            p.went_on (ends_over S i y v) ((one y).one k i n m p.was here ∙ sym r)
        go (inr v) (inr p) ih = H.c3_none k n (rw (ends_ran S i y v) at p.by)

    -- i does not end again while an event of it is unserved
    pub token_kept : (y x : ℕ) → wait y x → ends_at S i y ≡ true → ⊥
    token_kept y x w e =
        let r : S.ran y ≡ i = ends_ran S i y e in
        or_cases (F i) (N i) H.c1 (λ f. Q.clear y x (rw r f) w) (λ f. empty y x w f i f (rw r at (ran_now y (ends_over S i y e) (rw r f))))

  -- a preemptive machine runs a task of the frontier only when nothing above it is live, and so neither the interior nor j
  pub preempts_quiet : Preempts S → (j : ℕ) → j ≤ s.tasks → ((k : ℕ) → F k ≡ true → k < j) → ((y x : ℕ) → wait y x → live_mid S y j ≡ true) → Quiet
  preempts_quiet P j p front live = record {
    empty = λ x k f m. P.above x k (H.c4 (S.ran x) k f m) (H.interior_tasks k m).1;
    clear = λ x z f w. not_both (live x z w) (P.above x j (front (S.ran x) f) p);
  }

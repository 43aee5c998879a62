-- How the potential of a schedule moves in a tick: by arrivals, by the tick of the task that runs, and by the end of its run. Assumes nothing.
use Prim.Native.Nat.{ℕ, zero, suc, ◌+◌, ◌-◌, ◌≤◌, ◌<◌}
use mathlib.Core.Path.{◌≡◌, refl, sym, ◌∙◌}
use mathlib.Core.Bool.{Bool, true, false, ◌&&◌, not, cond}
use mathlib.Core.Logic.{◌⊎◌, inl, inr}
use native.Mathlib.Omega.{arith}
use lib.Dec.{ltb, eqb}
use borrow.Author.Tests.{eq-eqb, ne_eqb, eqb-true, ltb-true}
use Rattle.model.specs.Basics.{sum_n, sum_to, given}
use Rattle.model.specs.Graph.{System}
use Rattle.model.specs.Loads.{work, added, load}
use Rattle.model.specs.declared.Policy.TheVariants.{Preemptive}
use Rattle.model.specs.Delays.{start_of}
use Rattle.lemmas.proofs.Tests.{not_both, false_of, or_cases, and_left, and_right, both}
use Rattle.lemmas.proofs.Range.{All, Found, sum_n-add, sum_n-zero, le_sum_n, le_given, sum_n-cong, le_top_to}
use Rattle.theory.proofs.WellFormed.{Loaded, Shaped}
use Rattle.theory.proofs.LoadLaws.{along, run_whole}
use Rattle.assurance.proofs.Potential.{live_used, live_pending, Owed, Brings, firing, none_owed, owed_none, Ticks, ticking, ticking_above, Ends, ending, ending_above}
use Rattle.assurance.proofs.Schedule.{Left, Schedule, live_at, live_mid, Preempts, used_other, used_over, used_on, below}

-- sums over a table, by rows and by columns
sum-swap : (f : ℕ → ℕ → ℕ) (a n b m : ℕ) → sum_n (λ k. sum_n (λ u. f u k) a n) b m ≡ sum_n (λ u. sum_n (f u) b m) a n
unfolding sum_n
sum-swap f a n b zero = sym (sum_n-zero _ a n (λ k p q. refl))
sum-swap f a n b (suc m) =
    omega (arith, sum-swap f a n b m, sum_n-add (λ u. sum_n (f u) b m) (λ u. f u (b + m)) a n)

given_sum : (c : Bool) (f : ℕ → ℕ) (b m : ℕ) → sum_n (λ k. given c (f k)) b m ≡ given c (sum_n f b m)
given_sum true f b m = refl
given_sum false f b m = sum_n-zero _ b m (λ k p q. refl)

module _ {s : System} (L : Loaded s) (G : Shaped s) {gap : ℕ → ℕ} (S : Schedule s gap) where
  -- what is owed at j before tick x, and once its sources have fired
  unfoldable pub phi : ℕ → ℕ → ℕ
  phi j x = Owed s (S.used x) (S.pending x) j

  unfoldable pub phi_mid : ℕ → ℕ → ℕ
  phi_mid j x = Owed s (S.used x) (S.pending_mid x) j

  -- what the arriving sources bring to task k
  abbrev brought : ℕ → ℕ → ℕ
  brought x k = sum_n (λ u. given (S.arr x u) (added s u k)) 33 s.sources

  woken : (x k : ℕ) → 1 ≤ k → S.pending x k ≡ false → S.pending_mid x k ≡ true → Found (λ u. S.arr x u && s.link u k) 33 s.sources
  woken x k o p q = go (S.mid_from x k o q)
    where
      go : (S.pending x k ≡ true) ⊎ Found (λ u. S.arr x u && s.link u k) 33 s.sources → Found (λ u. S.arr x u && s.link u k) 33 s.sources
      go (inl e) = absurd (not_both e p)
      go (inr w) = w

  le_brought : (x k u c : ℕ) → 33 ≤ u → u < 33 + s.sources → S.arr x u ≡ true → c ≤ added s u k → c ≤ brought x k
  le_brought x k u c p q e h =
      omega
      (arith, le_sum_n (λ v. given (S.arr x v) (added s v k)) 33 s.sources u p q, le_given (S.arr x u) (added s u k) e)

  brings : (x : ℕ) → Brings s L (S.pending x) (S.pending_mid x) (brought x)
  brings x = record {
    itself = λ k o p e f.
        let w : Found (λ u. S.arr x u && s.link u k) 33 s.sources = woken x k o e f in
        le_brought x k w.at (work s k) w.from w.within (and_left (S.arr x w.at) _ w.passes)
        (omega (arith, L.direct w.at k (and_right (S.arr x w.at) _ w.passes)));
    above = λ k m o p q e f.
        let w : Found (λ u. S.arr x u && s.link u m) 33 s.sources = woken x m (omega arith) e f in
        le_brought x k w.at (added s m k) w.from w.within (and_left (S.arr x w.at) _ w.passes)
        (along s L w.at m k (and_right (S.arr x w.at) _ w.passes) p q);
  }

  -- each arrival raises it by at most its load
  pub arrivals : (x j : ℕ) → 1 ≤ j → phi_mid j x ≤ phi j x + sum_n (λ u. given (S.arr x u) (load s u j)) 33 s.sources
  unfolding phi phi_mid load
  arrivals x j o =
      omega
      (arith, firing s L (S.used x) _ _ (brought x) (brings x) j o, sum-swap (λ u k. given (S.arr x u) (added s u k)) 33 s.sources j (suc s.tasks - j), sum_n-cong _ (λ u. given (S.arr x u) (sum_to (added s u) j s.tasks)) 33 s.sources (λ u p q. given_sum (S.arr x u) (added s u) j (suc s.tasks - j)))

  -- between a tick of the task that runs and the end of its run: one tick more used, and a run that began no longer pending
  used_ran : ℕ → ℕ → ℕ
  used_ran x k = cond (eqb k (S.ran x)) (suc (S.used x k)) (S.used x k)

  pending_ran : ℕ → ℕ → Bool
  pending_ran x k = S.pending_mid x k && not (eqb k (S.ran x) && eqb (S.used x k) 0)

  used_ran_lem : (x : ℕ) → used_ran x (S.ran x) ≡ suc (S.used x (S.ran x))
  unfolding used_ran
  used_ran_lem x = rw (eq-eqb (S.ran x) (S.ran x) refl)

  used_else : (x k : ℕ) → (k ≡ S.ran x → ⊥) → used_ran x k ≡ S.used x k
  unfolding used_ran
  used_else x k ne = rw (ne_eqb k (S.ran x) ne)

  left_ran : (x k : ℕ) → pending_ran x k ≡ true → Left (S.used x) (S.pending_mid x) (S.ran x) k
  unfolding pending_ran
  left_ran x k e = (and_left (S.pending_mid x k) _ e, λ q. go q (S.used x k) refl)
    where
      go : k ≡ S.ran x → (u : ℕ) → S.used x k ≡ u → 0 < S.used x k
      go q (suc u) z = omega arith
      go q zero z =
          let f : not (eqb k (S.ran x) && eqb (S.used x k) 0) ≡ true = and_right (S.pending_mid x k) _ e in
          absurd (not_both f (rw (eq-eqb k (S.ran x) q, z) refl))

  ran_left : (x k : ℕ) → Left (S.used x) (S.pending_mid x) (S.ran x) k → pending_ran x k ≡ true
  unfolding pending_ran
  ran_left x k w = both (S.pending_mid x k) _ w.0 (rw (off (eqb k (S.ran x)) refl) refl)
    where
      off : (b : Bool) → eqb k (S.ran x) ≡ b → (eqb k (S.ran x) && eqb (S.used x k) 0) ≡ false
      off true e = rw (e, ne_eqb (S.used x k) 0 (λ z. omega (arith, w.1 (eqb-true k (S.ran x) e)))) refl
      off false e = rw e refl

  room : (x : ℕ) → 0 < S.ran x → S.used x (S.ran x) < s.run (S.ran x)
  room x p = below S G x (S.ran x) p (S.ran_task x)

  ticks_of : (x : ℕ) (vs : ℕ → ℕ) (qs : ℕ → Bool) → 0 < S.ran x → vs (S.ran x) ≡ suc (S.used x (S.ran x)) → ((k : ℕ) → 1 ≤ k → (k ≡ S.ran x → ⊥) → vs k ≡ S.used x k) → ((k : ℕ) → 1 ≤ k → qs k ≡ true → Left (S.used x) (S.pending_mid x) (S.ran x) k) → Ticks s L (S.ran x) (S.used x) vs (S.pending_mid x) qs
  ticks_of x vs qs r one others left = record {
    task = (r, S.ran_task x);
    runs = S.ran_live x r;
    room = omega (arith, room x r, run_whole s L (S.ran x));
    one_more = one;
    others = others;
    fewer = λ k o e. (left k o e).0;
    begins = λ z. false_of (qs (S.ran x)) (λ e. omega (arith, (left (S.ran x) r e).1 refl));
    alone = λ z. S.ran_begins x z;
  }

  -- a tick whose run goes on leaves no more than what the tick left
  on_left : (x k : ℕ) → 1 ≤ k → S.over x ≡ false → S.pending (suc x) k ≡ true → Left (S.used x) (S.pending_mid x) (S.ran x) k
  on_left x k o e q = go (S.next_from x k o q)
    where
      go : Left (S.used x) (S.pending_mid x) (S.ran x) k ⊎ ((S.over x ≡ true) × (s.link (S.ran x) k ≡ true)) → Left (S.used x) (S.pending_mid x) (S.ran x) k
      go (inl w) = w
      go (inr w) = absurd (not_both w.0 e)

  on_ticks : (x : ℕ) → 0 < S.ran x → S.over x ≡ false → Ticks s L (S.ran x) (S.used x) (S.used (suc x)) (S.pending_mid x) (S.pending (suc x))
  on_ticks x r e =
      ticks_of x (S.used (suc x)) (S.pending (suc x)) r (used_on S x (S.ran x) r refl e) (used_other S x) (λ k o. on_left x k o e)

  over_ticks : (x : ℕ) → 0 < S.ran x → Ticks s L (S.ran x) (S.used x) (used_ran x) (S.pending_mid x) (pending_ran x)
  over_ticks x r = ticks_of x (used_ran x) (pending_ran x) r (used_ran_lem x) (λ k o ne. used_else x k ne) (λ k o. left_ran x k)

  over_ends : (x : ℕ) → S.over x ≡ true → Ends s L (S.ran x) (used_ran x) (S.used (suc x)) (pending_ran x) (S.pending (suc x))
  over_ends x e =
      let r : 0 < S.ran x = S.over_ran x e in
      record {
        task = (r, S.ran_task x);
        some = omega (arith, used_ran_lem x);
        whole = omega (arith, used_ran_lem x, room x r);
        zeroed = used_over S x (S.ran x) r refl e;
        rest = λ k o ne. used_other S x k o ne ∙ sym (used_else x k ne);
        wakes = λ k o p f g. go k f (S.next_from x k o g);
      }
    where
      go : (k : ℕ) → pending_ran x k ≡ false → Left (S.used x) (S.pending_mid x) (S.ran x) k ⊎ ((S.over x ≡ true) × (s.link (S.ran x) k ≡ true)) → s.link (S.ran x) k ≡ true
      go k f (inl w) = absurd (not_both (ran_left x k w) f)
      go k f (inr w) = w.1

  -- a tick and its end lower it by 1 at every j up to the task that runs
  pub falls : (x j : ℕ) → 1 ≤ j → j ≤ S.ran x → phi j (suc x) + 1 ≤ phi_mid j x
  unfolding phi phi_mid
  falls x j o p = go (S.over x) refl
    where
      go : (b : Bool) → S.over x ≡ b → phi j (suc x) + 1 ≤ phi_mid j x
      go true e =
          omega
          (arith, ticking s L (S.ran x) _ _ _ _ (over_ticks x (omega arith)) j o p, ending s L (S.ran x) _ _ _ _ (over_ends x e) j o p)
      go false e = ticking s L (S.ran x) _ _ _ _ (on_ticks x (omega arith) e) j o p

  -- what is live after a tick that ends no run was live before it
  live_on : (x k : ℕ) → 1 ≤ k → S.ran x ≡ 0 → S.over x ≡ false → live_at S (suc x) k ≡ true → live_mid S x k ≡ true
  live_on x k o n e l =
      or_cases (ltb 0 (S.used (suc x) k)) (S.pending (suc x) k) l
      (λ y. live_used (S.used x) (S.pending_mid x) k (omega (arith, ltb-true 0 (S.used (suc x) k) y, used_other S x k o (λ q. omega arith))))
      (λ y. live_pending (S.used x) (S.pending_mid x) k (on_left x k o e y).0)

  none_over : (x : ℕ) → S.ran x ≡ 0 → S.over x ≡ false
  none_over x n = false_of (S.over x) (λ e. omega (arith, S.over_ran x e))

  -- above the task that runs only the end of its run raises it, by at most its load
  pub rises : (x j : ℕ) → S.ran x < j → phi j (suc x) ≤ phi_mid j x + given (S.over x) (load s (S.ran x) j)
  unfolding phi phi_mid
  rises x j p = go (S.over x) refl (S.ran x) refl
    where
      go : (b : Bool) → S.over x ≡ b → (h : ℕ) → S.ran x ≡ h → phi j (suc x) ≤ phi_mid j x + given (S.over x) (load s (S.ran x) j)
      go true e h q =
          rw e
          (omega
          (arith, ticking_above s L (S.ran x) _ _ _ _ (over_ticks x (S.over_ran x e)) j p, ending_above s L (S.ran x) _ _ _ _ (over_ends x e) j p))
      go false e zero q =
          rw e
          (omega
          (arith, none_owed s L (S.used (suc x)) (S.pending (suc x)) j (λ k a b. false_of (live_at S (suc x) k) (λ y. not_both (live_on x k (omega arith) q e y) (S.ran_none x q k (omega arith) b)))))
      go false e (suc h) q =
          rw e (omega (arith, ticking_above s L (S.ran x) _ _ _ _ (on_ticks x (omega arith) e) j p))

  pub phi_first : (j : ℕ) → 1 ≤ j → phi j 0 ≡ 0
  unfolding phi
  phi_first j o =
      none_owed s L _ _ j (λ k p q. rw (S.unused_first k (omega arith), S.pending_first k (omega arith)) refl)

  -- nothing is owed at j exactly if no task at or above it is live
  pub phi_none : (j x : ℕ) → 1 ≤ j → phi j x ≡ 0 → All (λ k. live_at S x k ≡ false) j s.tasks
  unfolding phi
  phi_none j x o z =
      owed_none s L _ _ j (λ m a b. omega (arith, below S G x m (omega arith) b, run_whole s L m)) z

  pub none_phi_mid : (j x : ℕ) → All (λ k. live_mid S x k ≡ false) j s.tasks → phi_mid j x ≡ 0
  unfolding phi_mid
  none_phi_mid j x h = none_owed s L _ _ j h

  -- on a preemptive machine it starts anew where no task at or above j runs
  pub rests : Preempts S → (x j : ℕ) → 1 ≤ j → S.ran x < j → phi j (suc x) ≤ start_of Preemptive s j
  unfolding start_of
  rests P x j o p = go (S.over x) refl
    where
      none : phi_mid j x ≡ 0
      none = none_phi_mid j x (λ k q t. P.above x k (omega arith) t)

      go : (b : Bool) → S.over x ≡ b → phi j (suc x) ≤ start_of Preemptive s j
      go true e =
          let r : phi j (suc x) ≤ phi_mid j x + load s (S.ran x) j = rw e at (rises x j p) in
          omega (arith, none, le_top_to (λ k. load s k j) 1 (j - 1) (S.ran x) (S.over_ran x e) (omega arith))
      go false e =
          let r : phi j (suc x) ≤ phi_mid j x + 0 = rw e at (rises x j p) in
          omega (arith, none)

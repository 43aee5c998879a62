-- Hold-on schedules: the window of a link from a source, with the slack 1, and frontiers that are quiet. Assumes nothing.
use Prim.Native.Nat.{ℕ, zero, suc, ◌+◌, ◌-◌, ◌*◌, ◌≤◌, ◌<◌}
use mathlib.Core.Path.{◌≡◌, refl, sym}
use mathlib.Core.Bool.{Bool, true, false, ◌||◌, ◌&&◌}
use mathlib.Core.Logic.{◌⊎◌, inl, inr}
use native.Mathlib.Omega.{arith}
use lib.Dec.{ltb, leb, eqb}
use borrow.Author.Tests.{leb-true, leb-false, ltb-true, ltb-false, lt-ltb, le-leb, eq-eqb, eqb-true}
use Rattle.model.specs.Basics.{sum_n, given}
use Rattle.model.specs.Graph.{System}
use Rattle.model.specs.Loads.{load}
use Rattle.model.specs.Delays.{spacings}
use Rattle.model.specs.Order.{Set, Neighbourhood}
use Rattle.lemmas.proofs.Tests.{Cmp, less, same, more, cmp, at_or_not, not_both, false_of, or_cases, or_false_left, or_false_right, and_left, and_right, both}
use Rattle.lemmas.proofs.Range.{All, given_off}
use Rattle.theory.proofs.WellFormed.{Loaded, Shaped}
use Rattle.assurance.proofs.Potential.{live_pending}
use Rattle.assurance.proofs.Count.{count_spacings}
use Rattle.assurance.proofs.Window.{Run, bounded}
use Rattle.assurance.proofs.Schedule.{Left, Schedule, live_at, live_mid, HoldsOn, begins_at, ends_at, ends_over, used_other, used_over, used_on, below}
use Rattle.assurance.proofs.Moves.{phi, phi_mid, phi_first, arrivals, falls, rises, none_phi_mid}
use Rattle.assurance.proofs.Events.{Unserved, new, later, came, Takes, SourceWaits, source_held, source_live}
use Rattle.assurance.proofs.Response.{ages}
use Rattle.assurance.proofs.Token.{Link, Quiet, live_now}

module _ {s : System} (L : Loaded s) (G : Shaped s) {gap : ℕ → ℕ} (S : Schedule s gap) (O : HoldsOn S) where
  -- a task that is part done after a tick ran in it, and its run did not end
  part_ran : (x k : ℕ) → 1 ≤ k → k ≤ s.tasks → 0 < S.used (suc x) k → (k ≡ S.ran x) × (S.over x ≡ false)
  part_ran x k o p u =
      at_or_not (λ h. h ≡ k → (k ≡ S.ran x) × (S.over x ≡ false)) (S.ran x) k
      (λ q. (sym q, on (S.over x) refl (sym q)))
      (λ ne q. absurd (ne (sym (O.holds x k o p (omega (arith, used_other S x k o ne))))))
      refl
    where
      on : (b : Bool) → S.over x ≡ b → k ≡ S.ran x → S.over x ≡ false
      on true e q = absurd (omega (arith, used_over S x k o q e))
      on false e q = e

  module _ (j : ℕ) (is_task : 1 ≤ j) (is_task' : j ≤ s.tasks) (start : ℕ) (most : All (λ k. s.run k + load s k (suc j) ≤ start) 1 j) where
    -- what a run of h up to j still takes and brings above j, once it has used u
    due : ℕ → ℕ → ℕ
    due h u = given ((ltb 0 h && leb h j) && ltb 0 u) (s.run h - u + load s h (suc j))

    debt : ℕ → ℕ
    debt x = due (S.ran x) (S.used x (S.ran x))

    debt_part : (x : ℕ) → 0 < S.ran x → S.ran x ≤ j → 0 < S.used x (S.ran x) → debt x ≡ s.run (S.ran x) - S.used x (S.ran x) + load s (S.ran x) (suc j)
    unfolding debt due
    debt_part x r p u = rw (lt-ltb 0 (S.ran x) r, le-leb (S.ran x) j p, lt-ltb 0 (S.used x (S.ran x)) u) refl

    debt_on : (x : ℕ) → 0 < S.ran x → S.ran x ≤ j → S.over x ≡ false → debt (suc x) ≡ s.run (S.ran x) - suc (S.used x (S.ran x)) + load s (S.ran x) (suc j)
    debt_on x r p e =
        let u : S.used (suc x) (S.ran x) ≡ suc (S.used x (S.ran x)) = used_on S x (S.ran x) r refl e in
        let h : S.ran (suc x) ≡ S.ran x = O.holds (suc x) (S.ran x) r (S.ran_task x) (omega arith) in
        let v : 0 < S.used (suc x) (S.ran (suc x)) = rw h (omega arith) in
        rw (h, u) at (debt_part (suc x) (omega arith) (omega arith) v)

    debt_off : (x : ℕ) → ((0 < S.ran x) → S.ran x ≤ j → S.over x ≡ false → ⊥) → debt (suc x) ≡ 0
    unfolding debt due
    debt_off x n =
        given_off _ _ (false_of ((ltb 0 (S.ran (suc x)) && leb (S.ran (suc x)) j) && ltb 0 (S.used (suc x) (S.ran (suc x)))) (λ e. go e))
      where
        go : ((ltb 0 (S.ran (suc x)) && leb (S.ran (suc x)) j) && ltb 0 (S.used (suc x) (S.ran (suc x)))) ≡ true → ⊥
        go e =
            let a : (ltb 0 (S.ran (suc x)) && leb (S.ran (suc x)) j) ≡ true = and_left _ (ltb 0 (S.used (suc x) (S.ran (suc x)))) e in
            let u : 0 < S.used (suc x) (S.ran (suc x)) = ltb-true 0 _ (and_right (ltb 0 (S.ran (suc x)) && leb (S.ran (suc x)) j) _ e) in
            let b : 0 < S.ran (suc x) = ltb-true 0 _ (and_left (ltb 0 (S.ran (suc x))) _ a) in
            let c : S.ran (suc x) ≤ j = leb-true _ j (and_right (ltb 0 (S.ran (suc x))) _ a) in
            let w = part_ran x (S.ran (suc x)) b (S.ran_task (suc x)) u in
            let q : S.ran (suc x) ≡ S.ran x = w.0 in
            n (omega arith) (omega arith) w.1

    -- a task above j runs, or one in progress up to j
    busy : ℕ → Bool
    busy x = leb (suc j) (S.ran x) || (ltb 0 (S.ran x) && ltb 0 (S.used x (S.ran x)))

    -- it lowers what is owed above j and by a run up to j
    abbrev Falls : ℕ → Type 0
    Falls x = phi L G S (suc j) (suc x) + debt (suc x) + 1 ≤ phi L G S (suc j) x + debt x + sum_n (λ u. given (S.arr x u) (load s u (suc j))) 33 s.sources

    room : (x : ℕ) → 0 < S.ran x → S.used x (S.ran x) < s.run (S.ran x)
    room x p = below S G x (S.ran x) p (S.ran_task x)

    rise_on : (x : ℕ) → S.ran x ≤ j → S.over x ≡ false → phi L G S (suc j) (suc x) ≤ phi_mid L G S (suc j) x
    rise_on x p e =
        let r : phi L G S (suc j) (suc x) ≤ phi_mid L G S (suc j) x + 0 = rw e at (rises L G S x (suc j) (omega arith)) in
        omega arith

    rise_over : (x : ℕ) → S.ran x ≤ j → S.over x ≡ true → phi L G S (suc j) (suc x) ≤ phi_mid L G S (suc j) x + load s (S.ran x) (suc j)
    rise_over x p e = rw e at (rises L G S x (suc j) (omega arith))

    holds_falls : (x : ℕ) → busy x ≡ true → Falls x
    unfolding busy
    holds_falls x b =
        or_cases (leb (suc j) (S.ran x)) _ b (λ e. high (leb-true (suc j) (S.ran x) e))
        (λ e. split (cmp j (S.ran x)) (ltb-true 0 (S.ran x) (and_left (ltb 0 (S.ran x)) _ e)) (ltb-true 0 _ (and_right (ltb 0 (S.ran x)) _ e)))
      where
        high : suc j ≤ S.ran x → Falls x
        high p =
            omega (arith, falls L G S x (suc j) (omega arith) p, arrivals L G S x (suc j) (omega arith), debt_off x (λ a c e. omega arith))

        low : 0 < S.ran x → S.ran x ≤ j → 0 < S.used x (S.ran x) → (c : Bool) → S.over x ≡ c → Falls x
        low r p u true e =
            omega (arith, rise_over x p e, arrivals L G S x (suc j) (omega arith), debt_off x (λ a c f. not_both e f), debt_part x r p u, room x r)
        low r p u false e =
            omega (arith, rise_on x p e, arrivals L G S x (suc j) (omega arith), debt_on x r p e, debt_part x r p u, room x r)

        split : Cmp j (S.ran x) → 0 < S.ran x → 0 < S.used x (S.ran x) → Falls x
        split (less q) r u = high q
        split (same q) r u = low r (omega arith) u (S.over x) refl
        split (more q) r u = low r (omega arith) u (S.over x) refl

    -- where a tick is not busy: none runs, or a run of a task up to j begins
    not_busy : (x : ℕ) → busy x ≡ false → (S.ran x ≡ 0) ⊎ ((0 < S.ran x) × (S.ran x ≤ j) × (S.used x (S.ran x) ≡ 0))
    unfolding busy
    not_busy x b = go (cmp 0 (S.ran x))
      where
        low : S.ran x < suc j
        low = leb-false (suc j) (S.ran x) (or_false_left (leb (suc j) (S.ran x)) _ b)

        go : Cmp 0 (S.ran x) → (S.ran x ≡ 0) ⊎ ((0 < S.ran x) × (S.ran x ≤ j) × (S.used x (S.ran x) ≡ 0))
        go (less r) =
            let f : (ltb 0 (S.ran x) && ltb 0 (S.used x (S.ran x))) ≡ false = or_false_right (leb (suc j) (S.ran x)) _ b in
            let z : S.used x (S.ran x) ≤ 0 = ltb-false 0 (S.used x (S.ran x)) (rw (lt-ltb 0 (S.ran x) r) at f) in
            inr (r, omega (arith, low), omega arith)
        go (same r) = inl (sym r)
        go (more r) = absurd (omega arith)

    start_some : 1 ≤ start
    start_some = omega (arith, most j is_task (omega arith), G.runs j is_task is_task')

    holds_idle : (x : ℕ) → busy x ≡ false → phi L G S (suc j) (suc x) + debt (suc x) + 1 ≤ start
    holds_idle x b = go (not_busy x b) (S.over x) refl
      where
        go : (S.ran x ≡ 0) ⊎ ((0 < S.ran x) × (S.ran x ≤ j) × (S.used x (S.ran x) ≡ 0)) → (c : Bool) → S.over x ≡ c → phi L G S (suc j) (suc x) + debt (suc x) + 1 ≤ start
        go (inl z) true e = absurd (omega (arith, S.over_ran x e))
        go (inl z) false e =
            omega (arith, rise_on x (omega arith) e, none_phi_mid L G S (suc j) x (λ k p q. S.ran_none x z k (omega arith) q), debt_off x (λ a c f. omega arith), start_some)
        go (inr w) true e =
            omega (arith, rise_over x w.1 e, none_phi_mid L G S (suc j) x (λ k p q. S.ran_begins x w.2 k (omega (arith, w.1)) q), debt_off x (λ a c f. not_both e f), most (S.ran x) w.0 w.1, G.runs (S.ran x) w.0 (S.ran_task x))
        go (inr w) false e =
            omega (arith, rise_on x w.1 e, none_phi_mid L G S (suc j) x (λ k p q. S.ran_begins x w.2 k (omega (arith, w.1)) q), debt_on x w.0 w.1 e, w.2, most (S.ran x) w.0 w.1, G.runs (S.ran x) w.0 (S.ran_task x))

    debt_first : debt 0 ≡ 0
    unfolding debt due
    debt_first = given_off _ _ (false_of _ (λ e.
        let a : (ltb 0 (S.ran 0) && leb (S.ran 0) j) ≡ true = and_left _ (ltb 0 (S.used 0 (S.ran 0))) e in
        let u : 0 < S.used 0 (S.ran 0) = ltb-true 0 _ (and_right (ltb 0 (S.ran 0) && leb (S.ran 0) j) _ e) in
        let b : 0 < S.ran 0 = ltb-true 0 _ (and_left (ltb 0 (S.ran 0)) _ a) in
        omega (arith, S.unused_first (S.ran 0) b)))

    module _ (T : Takes S) (spaced : (u : ℕ) → 33 ≤ u → u < 33 + s.sources → 1 ≤ gap u) (i : ℕ) (is_source : 33 ≤ i) (isSource' : i < 33 + s.sources) (linked : s.link i j ≡ true) (D : ℕ) (fixed : start + sum_n (λ u. load s u (suc j) * spacings D (gap u)) 33 s.sources ≡ D) where
      -- an event whose run has not begun before tick y
      record Unbegun (y x : ℕ) : Type 0 where
        waits : SourceWaits G S T i j linked y x
        yet : waits.begun ≡ false

      unbegun_fresh : (y x : ℕ) → Unbegun (suc y) x → Unbegun y x ⊎ (x ≡ y)
      unbegun_fresh y x w = go w.waits.unserved w.yet w.waits.before
        where
          go : {x : ℕ} {b : Bool} → Unserved S j (λ z. S.arr z i) (T.taken j) x (suc y) b → b ≡ false → x < suc y → Unbegun y x ⊎ (x ≡ y)
          go (new e) f p = absurd (omega arith)
          go {x} (later {b = b} u g) f p = at (cmp x y)
            where
              at : Cmp x y → Unbegun y x ⊎ (x ≡ y)
              at (less r) = inl (record { waits = record { before = r; begun = b; unserved = u }; yet = or_false_left b _ f })
              at (same r) = inr r
              at (more r) = absurd (omega arith)

      not_begins : (y x : ℕ) → Unbegun (suc y) x → begins_at S j y ≡ false
      not_begins y x w = go w.waits.unserved w.yet w.waits.before
        where
          go : {x : ℕ} {b : Bool} → Unserved S j (λ z. S.arr z i) (T.taken j) x (suc y) b → b ≡ false → x < suc y → begins_at S j y ≡ false
          go (new e) f p = absurd (omega arith)
          go (later {b = b} u g) f p = or_false_right b _ f

      run : Run (λ u. load s u (suc j)) gap 33 s.sources start 1
      run = record {
        fire = λ u x. S.arr x u;
        phi = λ x. phi L G S (suc j) x + debt x;
        busy = busy;
        wait = Unbegun;
        counted = λ u p q x n. count_spacings (gap u) (λ z. S.arr z u) (λ z. S.age z u) (spaced u p q) (ages S u p q) x n;
        starts = omega (arith, phi_first L G S (suc j) (omega arith), debt_first, start_some);
        none = λ x w. omega (arith, w.waits.before);
        falls = holds_falls;
        idle = holds_idle;
        fresh = unbegun_fresh;
        clear = λ y x b w. clear y x w (not_busy y b);
        done = λ y x z w. omega arith;
      }
        where
          clear : (y x : ℕ) → Unbegun (suc y) x → (S.ran y ≡ 0) ⊎ ((0 < S.ran y) × (S.ran y ≤ j) × (S.used y (S.ran y) ≡ 0)) → ⊥
          clear y x w (inl z) = not_both (source_live G S T i j linked is_source isSource' y x w.waits) (S.ran_none y z j is_task is_task')
          clear y x w (inr v) = at (cmp (S.ran y) j)
            where
              at : Cmp (S.ran y) j → ⊥
              at (less r) = not_both (source_live G S T i j linked is_source isSource' y x w.waits) (S.ran_begins y v.2 j r is_task')
              at (same r) = not_both (both (eqb (S.ran y) j) (eqb (S.used y j) 0) (eq-eqb (S.ran y) j r) (eq-eqb (S.used y j) 0 (rw r at v.2))) (not_begins y x w)
              at (more r) = omega (arith, v.1)

      -- its run begins within D ticks of the event, the event's own counted
      begins_within : (y x : ℕ) → Unbegun y x → y < x + D
      unfolding run
      begins_within y x w = bounded (λ u. load s u (suc j)) gap 33 s.sources start 1 D (omega (arith, start_some, fixed)) fixed run y x w

      -- and then goes on without a break
      begun_most : {x y : ℕ} {b : Bool} → Unserved S j (λ z. S.arr z i) (T.taken j) x y b → x < y → b ≡ true → y < x + D + S.used y j
      begun_most (new e) p q = absurd (omega arith)
      begun_most {x} (later {y = y} {b = b} u f) p q = go (cmp x y) (λ r t. begun_most u r t)
        where
          on : S.ran y ≡ j → S.used (suc y) j ≡ suc (S.used y j)
          on r =
              used_on S y j is_task (sym r) (false_of (S.over y) (λ o. not_both (both (b || begins_at S j y) (ends_at S j y) q (both (eqb (S.ran y) j) (S.over y) (eq-eqb (S.ran y) j r) o)) f))

          begins : begins_at S j y ≡ true → S.ran y ≡ j
          begins t = eqb-true (S.ran y) j (and_left (eqb (S.ran y) j) _ t)

          some : 1 ≤ D
          some = omega (arith, start_some, fixed)

          -- in the event's own tick
          own : x ≡ y → suc y < x + D + S.used (suc y) j
          own r =
              or_cases b (begins_at S j y) q (λ t. omega (arith, some, on (O.holds y j is_task is_task' (found r t)))) (λ t. omega (arith, some, on (begins t)))
            where
              found : x ≡ y → b ≡ true → 0 < S.used y j
              found r t = first u r t
                where
                  first : {x y : ℕ} {b : Bool} → Unserved S j (λ z. S.arr z i) (T.taken j) x y b → x ≡ y → b ≡ true → 0 < S.used y j
                  first (new e) r t = (T.from_source_lem i j _ is_source isSource' linked e).runs t
                  first (later u g) r t = absurd (omega (arith, (came S j u).1))

          go : Cmp x y → (x < y → b ≡ true → y < x + D + S.used y j) → suc y < x + D + S.used (suc y) j
          go (less r) ih =
              or_cases b (begins_at S j y) q
              (λ t. omega (arith, ih r t, on (O.holds y j is_task is_task' ((source_held G S T i j linked is_source isSource' y x (record { before = r; begun = b; unserved = u })).runs t))))
              (λ t. early b refl r t)
            where
              early : (c : Bool) → b ≡ c → x < y → begins_at S j y ≡ true → suc y < x + D + S.used (suc y) j
              early true e r t = omega (arith, ih r e, on (begins t))
              early false e r t =
                  omega (arith, begins_within y x (record { waits = record { before = r; begun = b; unserved = u }; yet = e }), on (begins t))
          go (same r) ih = own r
          go (more r) ih = absurd (omega (arith, (came S j u).1))

      -- so it is served in less than D and its longest run together
      pub served_within : (y x : ℕ) → SourceWaits G S T i j linked y x → y < x + (D + s.run j - 1)
      served_within y x w = go w.begun refl
        where
          go : (b : Bool) → w.begun ≡ b → y < x + (D + s.run j - 1)
          go true e = omega (arith, begun_most w.unserved w.before e, below S G y j is_task is_task')
          go false e = omega (arith, begins_within y x (record { waits = w; yet = e }), G.runs j is_task is_task')

  -- while a task of the frontier runs, the interior and the link stay as its beginning found them
  module _ (i : ℕ) (F N : Set) (H : Neighbourhood s i F N) (wait : ℕ → ℕ → Type 0) (K : Link G S i F N H wait) (j : ℕ) (is_task' : j ≤ s.tasks) (front : (k : ℕ) → F k ≡ true → k < j) (awaits : (y x : ℕ) → wait y x → live_mid S y j ≡ true) where
    record Still (x : ℕ) : Type 0 where
      empty : (k : ℕ) → N k ≡ true → live_mid S x k ≡ false
      clear : (z : ℕ) → wait x z → ⊥

    begins_still : (x : ℕ) → F (S.ran x) ≡ true → S.used x (S.ran x) ≡ 0 → Still x
    begins_still x f z = record {
      empty = λ k m. S.ran_begins x z k (H.c4 (S.ran x) k f m) (H.interior_tasks k m).1;
      clear = λ y w. not_both (awaits x y w) (S.ran_begins x z j (front (S.ran x) f) is_task');
    }

    next_still : (x : ℕ) → F (S.ran x) ≡ true → S.over x ≡ false → Still x → Still (suc x)
    next_still x f e g = record {
      empty = λ k m. false_of (live_mid S (suc x) k) (λ l. not_both (was k m (live_now G S i F N H wait (suc x) k m l)) (g.empty k m));
      clear = λ z w. go z (K.fresh x z w);
    }
      where
        go : (z : ℕ) → wait x z ⊎ (ends_at S i x ≡ true) → ⊥
        go z (inl w) = g.clear z w
        go z (inr w) = not_both (ends_over S i x w) e

        was : (k : ℕ) → N k ≡ true → live_at S (suc x) k ≡ true → live_mid S x k ≡ true
        was k m l =
            or_cases (ltb 0 (S.used (suc x) k)) (S.pending (suc x) k) l
            (λ p. let w = part_ran x k (H.interior_tasks k m).0 (H.interior_tasks k m).1 (ltb-true 0 (S.used (suc x) k) p) in absurd (H.disjoint k (rw w.0 f) m))
            (λ p. old (S.next_from x k (H.interior_tasks k m).0 p))
          where
            old : Left (S.used x) (S.pending_mid x) (S.ran x) k ⊎ ((S.over x ≡ true) × (s.link (S.ran x) k ≡ true)) → live_mid S x k ≡ true
            old (inl w) = live_pending (S.used x) (S.pending_mid x) k w.0
            old (inr w) = absurd (not_both w.0 e)

    still : (x : ℕ) → F (S.ran x) ≡ true → Still x
    still zero f = begins_still 0 f (S.unused_first (S.ran 0) (H.frontier_tasks (S.ran 0) f).0)
    still (suc x) f = go (S.used (suc x) (S.ran (suc x))) refl (still x)
      where
        go : (u : ℕ) → S.used (suc x) (S.ran (suc x)) ≡ u → (F (S.ran x) ≡ true → Still x) → Still (suc x)
        go zero z ih = begins_still (suc x) f z
        go (suc u) z ih =
            let w = part_ran x (S.ran (suc x)) (H.frontier_tasks (S.ran (suc x)) f).0 (S.ran_task (suc x)) (omega arith) in
            let f' : F (S.ran x) ≡ true = rw w.0 at f in
            next_still x f' w.1 (ih f')

    pub holds_quiet : Quiet G S i F N H wait
    holds_quiet = record { empty = λ x k f m. (still x f).empty k m; clear = λ x z f w. (still x f).clear z w }

-- A task link is held by the walk exactly if some exclusive neighbourhood has all its frontier below j. Assumes nothing.
use Rattle.std.specs.Prelude.{None}
use Prim.Native.Nat.{ℕ, zero, suc, ◌-◌, ◌≤◌, ◌<◌}
use mathlib.Core.Path.{◌≡◌, refl, sym, ap, subst, ◌∙◌}
use mathlib.Core.Bool.{Bool, true, false, ◌||◌, ◌&&◌}
use mathlib.Core.Logic.{◌⊎◌, inl, inr, ◌↔◌}
use native.Mathlib.Omega.{arith}
use lib.ListN.{get_or, replicate, length-replicate, get_or-replicate, get_or-eq_default}
use lib.Dec.{ltb, leb}
use borrow.Author.Tests.{ltb-true, lt-ltb, leb-true, le-leb}
use Rattle.model.specs.declared.Walk.{Walk}
use Rattle.model.specs.Basics.{up_to}
use Rattle.model.specs.Graph.{System}
use Rattle.model.specs.Order.{Set, InOrder, meet, visit, walk, in_order}
use Rattle.lemmas.proofs.Tests.{Cmp, less, same, more, cmp, at_or_not, not_both, false_of, or_left, or_right, or_cases, and_left, and_right, both}
use Rattle.theory.proofs.WellFormed.{Shaped, Loaded, IsTask, IsSource}
use Rattle.theory.proofs.Walk.{M, Sized, meet_sized, meet_at, meet_other, met_place, step_to, visit_low, visit_high, step_skip, step_into, place_of, Up, Grown, Part, part, grown, none_is, is_none_true}

-- the walk's start: nothing has been met
abbrev fresh : Walk
fresh = record { failed = None; met = replicate 32 false }

fresh_none : (k : ℕ) → M fresh k ≡ false
fresh_none zero = refl
fresh_none (suc k) = go (cmp k 32)
  where
    go : Cmp k 32 → get_or (replicate 32 false) k false ≡ false
    go (less p) = get_or-replicate 32 k false false p
    go (same p) = get_or-eq_default (replicate 32 false) false {n = k} (omega (arith, length-replicate 32 false))
    go (more p) = get_or-eq_default (replicate 32 false) false {n = k} (omega (arith, length-replicate 32 false))

module _ (s : System) (sh : Shaped s) (few : s.sources ≤ 16) (i j : ℕ) where
  -- the tasks met below j, and from j on
  abbrev low : Walk → Set
  low v k = M v k && ltb k j

  abbrev high : Walk → Set
  high v k = M v k && leb j k

  low_of : (v : Walk) (k : ℕ) → low v k ≡ true → (M v k ≡ true) × (k < j)
  low_of v k e = (and_left (M v k) _ e, ltb-true k j (and_right (M v k) _ e))

  high_of : (v : Walk) (k : ℕ) → high v k ≡ true → (M v k ≡ true) × (j ≤ k)
  high_of v k e = (and_left (M v k) _ e, leb-true j k (and_right (M v k) _ e))

  is_high : (v : Walk) (k : ℕ) → M v k ≡ true → j ≤ k → high v k ≡ true
  is_high v k e h = both (M v k) _ e (le-leb j k h)

  -- whatever is met is in one of the two, and only that is
  met_in : (v : Walk) (k : ℕ) → M v k ≡ true → (low v k || high v k) ≡ true
  met_in v k e = go (cmp k j)
    where
      go : Cmp k j → (low v k || high v k) ≡ true
      go (less p) = or_left (low v k) _ (both (M v k) _ e (lt-ltb k j p))
      go (same p) = or_right (low v k) _ (is_high v k e (omega arith))
      go (more p) = or_right (low v k) _ (is_high v k e (omega arith))

  in_met : (v : Walk) (k : ℕ) → (low v k || high v k) ≡ true → M v k ≡ true
  in_met v k e = or_cases (low v k) (high v k) e (λ f. (low_of v k f).0) (λ f. (high_of v k f).0)

  -- what the walk met is a neighbourhood
  found : (v : Walk) → IsTask s i → Grown s j i fresh v → InOrder s i j
  found v t g =
      record {
        F = low v;
        N = high v;
        hood = record {
          frontier_tasks = λ k e. task k (low_of v k e).0;
          interior_tasks = λ k e. task k (high_of v k e).0;
          disjoint = λ k e f. omega (arith, (low_of v k e).1, (high_of v k f).1);
          c1 = met_in v i g.root.1;
          c2 = λ p k e l. let h = high_of v k e in met_in v p (g.closed p k (fresh_none k, h.0) h.1 l).1;
          c3_one = λ k e ne. let (m, n, a, l) = g.upward k (fresh_none k, in_met v k e) ne in (m, is_high v m n.1 a, l);
          c3_only = λ k m m' e ne f l f' l'.
              let h = high_of v m f in
              let h' = high_of v m' f' in
              g.single k m m' (fresh_none m, h.0) h.1 l (fresh_none m', h'.0) h'.1 l';
          c3_none = λ m e l. let h = high_of v m e in g.apart m (fresh_none m, h.0) h.1 l;
          c4 = λ k m e f. omega (arith, (low_of v k e).1, (high_of v m f).1);
        };
        below = λ k e. (low_of v k e).1;
      }
    where
      node : (k : ℕ) → k ≤ 32 → IsTask s k ⊎ IsSource s k → IsTask s k
      node k p (inl x) = x
      node k p (inr x) = absurd (omega (arith, x.0))

      task : (k : ℕ) → M v k ≡ true → IsTask s k
      task k e = at_or_not (λ y. M v y ≡ true → IsTask s y) i k (λ f. t)
          (λ ne f. let (m, n, a, l) = g.upward k (fresh_none k, f) ne in node k (met_place v k g.sized f).1 (sh.from_node k m l)) e

  pub walk_order : IsTask s i → in_order s i j ≡ true → InOrder s i j
  unfolding in_order walk
  walk_order t e =
      found _ t (grown s j sh few 34 i fresh t.0 (length-replicate 32 false) refl (is_none_true _ e))

  -- the other way: with a neighbourhood whose frontier is below j, the walk does not fail
  module _ (rank : ℕ → ℕ) (falls : (p k : ℕ) → s.link p k ≡ true → rank k < rank p) (most : (p : ℕ) → rank p ≤ s.tasks) (o : InOrder s i j) where
    -- a task at or above j that is in the neighbourhood is interior
    interior : (k : ℕ) → (o.F k || o.N k) ≡ true → j ≤ k → o.N k ≡ true
    interior k e h = or_cases (o.F k) (o.N k) e (λ f. absurd (omega (arith, o.below k f))) (λ f. f)

    inside_task : (k : ℕ) → (o.F k || o.N k) ≡ true → IsTask s k
    inside_task k e = or_cases (o.F k) (o.N k) e (o.hood.frontier_tasks k) (o.hood.interior_tasks k)

    -- a successor of k at or above j that has been met
    abbrev MetUp : Walk → ℕ → Type 0
    MetUp w k = (m : ℕ) × (M w m ≡ true) × (j ≤ m) × (s.link k m ≡ true)

    -- where a visit of x may begin
    record Ready (x : ℕ) (w : Walk) : Type 0 where
      sized : Sized w
      fine : w.failed ≡ None
      unmet : M w x ≡ false
      inside : (k : ℕ) → M w k ≡ true → (o.F k || o.N k) ≡ true
      here : (o.F x || o.N x) ≡ true
      ups : (k : ℕ) → M w k ≡ true → (k ≡ i → ⊥) → MetUp w k
      up_x : (x ≡ i → ⊥) → MetUp w x
      first : (x ≡ i) ⊎ (M w i ≡ true)

    -- what it comes to
    record Fine (v : Walk) : Type 0 where
      fine : v.failed ≡ None
      inside : (k : ℕ) → M v k ≡ true → (o.F k || o.N k) ≡ true

    abbrev Visits : ℕ → Type 0
    Visits n = (x : ℕ) (w : Walk) → s.tasks - rank x < n → Ready x w → Fine (visit n s j x w)

    module _ (n x : ℕ) (w : Walk) (g : Ready x w) (h : j ≤ x) (fuel : s.tasks - rank x ≤ n) (ih : Visits n) where
      t : IsTask s x
      t = inside_task x g.here

      x_in : o.N x ≡ true
      x_in = interior x g.here h

      abbrev b : Walk
      b = meet x w

      small : x ≤ 32
      small = omega (arith, t.1, sh.few)

      b_sized : Sized b
      b_sized = meet_sized x w g.sized

      on_b : M b x ≡ true
      on_b = meet_at x w t.0 small g.sized

      from_b : {C : Type 0} (k : ℕ) → M b k ≡ true → (k ≡ x → C) → (M w k ≡ true → C) → C
      from_b {C} k e f q = at_or_not (λ y. M (meet x w) y ≡ true → (y ≡ x → C) → (M w y ≡ true → C) → C) x k (λ e f q. f refl) (λ ne e f q. q (sym (meet_other x w k t.0 ne) ∙ e)) e f q

      to_b : (k : ℕ) → M w k ≡ true → M b k ≡ true
      to_b k e = at_or_not (λ y. M w y ≡ true → M (meet x w) y ≡ true) x k (λ f. meet_at x w t.0 small g.sized) (λ ne f. meet_other x w k t.0 ne ∙ f) e

      -- a predecessor of x in turn has not been met before it
      module _ (R : ℕ) (v : Walk) (p : Part s j x R b v) (f : Fine v) (l : s.link (suc R) x ≡ true) where
        pred_in : (o.F (suc R) || o.N (suc R)) ≡ true
        pred_in = o.hood.c2 (suc R) x x_in l

        not_first : suc R ≡ i → ⊥
        not_first e = o.hood.c3_none x x_in (rw e at l)

        -- the only interior successor of that predecessor is x
        only_x : (m : ℕ) → M v m ≡ true → j ≤ m → s.link (suc R) m ≡ true → m ≡ x
        only_x m e a q = o.hood.c3_only (suc R) m x pred_in not_first (interior m (f.inside m e) a) q x_in l

        met_no : M v (suc R) ≡ true → ⊥
        met_no e = go (M b (suc R)) refl
          where
            new : Up s j b v (suc R) ⊎ ((s.link (suc R) x ≡ true) × (suc R ≤ R)) → ⊥
            new (inl (m, q, a, c)) = not_both on_b (rw (only_x m q.1 a c) at q.0)
            new (inr (q, c)) = omega arith

            old : M w (suc R) ≡ true → ⊥
            old q = let (m, c, a, d) = g.ups (suc R) q not_first in not_both (rw (only_x m (p.keeps m (to_b m c)) a d) at c) g.unmet

            go : (a : Bool) → M b (suc R) ≡ a → ⊥
            go true q = from_b (suc R) q (λ c. omega (arith, falls (suc R) x l, ap rank c)) old
            go false q = new (p.upward (suc R) (q, e))

        ready : Ready (suc R) v
        ready =
            record {
              sized = p.sized;
              fine = f.fine;
              unmet = false_of (M v (suc R)) met_no;
              inside = f.inside;
              here = pred_in;
              ups = λ k e ne. up k e ne (M b k) refl;
              up_x = λ ne. (x, p.keeps x on_b, h, l);
              first = inr (p.keeps i (root g.first));
            }
          where
            root : (x ≡ i) ⊎ (M w i ≡ true) → M b i ≡ true
            root (inl e) = subst (λ (y : ℕ). M b y ≡ true) e on_b
            root (inr e) = to_b i e

            carry : (k : ℕ) → MetUp w k → MetUp v k
            carry k (m, e, a, q) = (m, p.keeps m (to_b m e), a, q)

            new : (k : ℕ) → Up s j b v k ⊎ ((s.link k x ≡ true) × (k ≤ R)) → MetUp v k
            new k (inl (m, q, a, c)) = (m, q.1, a, c)
            new k (inr (q, c)) = (x, p.keeps x on_b, h, q)

            up : (k : ℕ) → M v k ≡ true → (k ≡ i → ⊥) → (a : Bool) → M b k ≡ a → MetUp v k
            up k e ne true q = from_b k q (λ c. carry k (rw c (g.up_x (λ z. ne (c ∙ z))))) (λ c. carry k (g.ups k c ne))
            up k e ne false q = new k (p.upward k (q, e))

      -- all predecessors in turn
      turns : (R : ℕ) → Fine (up_to R (step_to s j n x) b)
      unfolding up_to
      turns zero = record { fine = b_fine; inside = λ k e. from_b k e (λ c. rw c g.here) (g.inside k) }
        where
          b_fine : b.failed ≡ None
          b_fine = g.fine
      turns (suc R) = go (s.link (suc R) x) refl (turns R)
        where
          go : (a : Bool) → s.link (suc R) x ≡ a → Fine (up_to R (step_to s j n x) b) → Fine (step_to s j n x R (up_to R (step_to s j n x) b))
          go false q f = rw (step_skip s j n x R (up_to R (step_to s j n x) b) q) f
          go true q f =
              rw (step_into s j n x R (up_to R (step_to s j n x) b) q f.fine)
              (ih (suc R) (up_to R (step_to s j n x) b) (omega (arith, falls (suc R) x q, most (suc R)))
              (ready R (up_to R (step_to s j n x) b) (part s j sh few n x b b_sized (grown s j sh few n) R f.fine) f q))

    visits : (n : ℕ) → Visits n
    visits zero x w b g = absurd (omega arith)
    visits (suc n) x w b g = go (cmp x j) (visits n)
      where
        t : IsTask s x
        t = inside_task x g.here

        off : get_or w.met (x - 1) false ≡ false
        off = place_of s j x w t.0 ∙ g.unmet

        small : x ≤ 32
        small = omega (arith, t.1, sh.few)

        up : j ≤ x → Visits n → Fine (visit (suc n) s j x w)
        up h ih = rw (visit_high s j n x w small off h) (turns n x w g h (omega arith) ih 48)

        go : Cmp x j → Visits n → Fine (visit (suc n) s j x w)
        go (less h) ih =
            rw (visit_low s j n x w small off h)
            (record { fine = g.fine; inside = λ k e. at_or_not (λ y. M (meet x w) y ≡ true → (o.F y || o.N y) ≡ true) x k (λ f. g.here) (λ ne f. g.inside k (sym (meet_other x w k t.0 ne) ∙ f)) e })
        go (same h) ih = up (omega arith) ih
        go (more h) ih = up (omega arith) ih

    pub order_walk : s.tasks ≤ 32 → in_order s i j ≡ true
    unfolding in_order walk
    order_walk few_tasks =
        none_is _
        (visits 34 i fresh (omega arith)
        (record {
          sized = length-replicate 32 false;
          fine = refl;
          unmet = fresh_none i;
          inside = λ k e. absurd (not_both e (fresh_none k));
          here = o.hood.c1;
          ups = λ k e ne. absurd (not_both e (fresh_none k));
          up_x = λ ne. absurd (ne refl);
          first = inl refl;
        })).fine

-- "the link is held exactly if some neighbourhood has all its frontier below j"
pub order_exactly : (s : System) → Shaped s → s.sources ≤ 16 → Loaded s → (i j : ℕ) → IsTask s i → (in_order s i j ≡ true) ↔ InOrder s i j
order_exactly s sh few g i j t =
    (walk_order s sh few i j t, λ o. order_walk s sh few i j g.rank g.falls g.rank_most o sh.few)

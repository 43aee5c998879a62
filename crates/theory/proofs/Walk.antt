-- The backward walk finds a neighbourhood: what a walk that has not failed has met. Assumes nothing.
use Prim.Native.Nat.{ℕ, zero, suc, ◌-◌, ◌≤◌, ◌<◌}
use mathlib.Core.Path.{◌≡◌, refl, sym, ap, ◌∙◌}
use mathlib.Core.Bool.{Bool, true, false}
use mathlib.Core.Logic.{◌⊎◌, inl, inr}
use native.Mathlib.Omega.{arith}
use lib.ListN.{length, get_or, replicate, length-set, get_or-eq_default}
use lib.Seq.{get_or-set_same, get_or-set_other}
use borrow.Author.Tests.{lt-ltb, le-ltb}
use Rattle.std.specs.Prelude.{Option, Some, None, is_none}
use Rattle.model.specs.declared.Walk.{Walk}
use Rattle.model.specs.Basics.{up_to}
use Rattle.model.specs.Graph.{System}
use Rattle.model.specs.Order.{fail_at, meet, visit, walk, in_order}
use Rattle.lemmas.proofs.Tests.{Cmp, less, same, more, cmp, at_or_not, not_both, false_of}
use Rattle.lemmas.proofs.Range.{up_to-alike}
use Rattle.theory.proofs.WellFormed.{Shaped, IsTask, IsSource}

-- whether a walk has met task k
-- a walk that has not failed
pub none_is : {A : Type 0} (o : Option A) → o ≡ None → is_none o ≡ true
none_is o e = rw e refl

pub is_none_true : {A : Type 0} (o : Option A) → is_none o ≡ true → o ≡ None
is_none_true None e = refl
is_none_true (Some x) e = absurd (let z : ◌≡◌ {A = ℕ} 0 1 = cc in omega arith)

pub is_none_false : {A : Type 0} (o : Option A) → (o ≡ None → ⊥) → is_none o ≡ false
is_none_false None n = absurd (n refl)
is_none_false (Some x) n = refl

pub some_none : {A C : Type 0} {x : A} → Some x ≡ None → C
some_none e = absurd (let z : ◌≡◌ {A = ℕ} 0 1 = cc in omega arith)

abbrev pub M : Walk → ℕ → Bool
M w zero = false
M w (suc k) = get_or w.met k false

-- met between two states of the walk
abbrev pub New : Walk → Walk → ℕ → Type 0
New w v k = (M w k ≡ false) × (M v k ≡ true)

abbrev pub Sized : Walk → Type 0
Sized w = length w.met ≡ 32

pub meet_sized : (x : ℕ) (w : Walk) → Sized w → Sized (meet x w)
meet_sized x w e = length-set w.met (x - 1) true ∙ e

pub meet_at : (x : ℕ) (w : Walk) → 1 ≤ x → x ≤ 32 → Sized w → M (meet x w) x ≡ true
meet_at zero w p q e = absurd (omega arith)
meet_at (suc x) w p q e =
    let z : suc x - 1 ≡ x = omega arith in
    rw z (get_or-set_same w.met x true false (omega (arith, e)))

pub meet_other : (x : ℕ) (w : Walk) (k : ℕ) → 1 ≤ x → (k ≡ x → ⊥) → M (meet x w) k ≡ M w k
meet_other x w zero p n = refl
meet_other zero w (suc k) p n = absurd (omega arith)
meet_other (suc x) w (suc k) p n =
    let z : suc x - 1 ≡ x = omega arith in
    rw z (get_or-set_other w.met x k true false (λ e. n (ap suc e)))

-- a task that is met has a place
pub met_place : (w : Walk) (k : ℕ) → Sized w → M w k ≡ true → (1 ≤ k) × (k ≤ 32)
met_place w zero z e = absurd (not_both e refl)
met_place w (suc k) z e = go (cmp k 32)
  where
    far : 32 ≤ k → ⊥
    far p = not_both e (get_or-eq_default w.met false (omega (arith, z)))

    go : Cmp k 32 → (1 ≤ suc k) × (suc k ≤ 32)
    go (less p) = (omega arith, omega arith)
    go (same p) = absurd (far (omega arith))
    go (more p) = absurd (far (omega arith))

module _ (s : System) (j : ℕ) where
  -- one predecessor of x
  abbrev pub step_to : ℕ → ℕ → ℕ → Walk → Walk
  step_to n x r v =
      elim (s.link (suc r) x) [
        | false ↦ v
        | true ↦ elim (is_none v.failed) [ false ↦ v | true ↦ visit n s j (suc r) v ]
      ]

  -- what a visit does, by its tests
  module _ (n x : ℕ) (w : Walk) where
    pub visit_source : 32 < x → visit (suc n) s j x w ≡ fail_at x w
    unfolding visit
    visit_source p = rw (lt-ltb 32 x p)

    pub visit_again : x ≤ 32 → get_or w.met (x - 1) false ≡ true → visit (suc n) s j x w ≡ fail_at x w
    unfolding visit
    visit_again p e = rw (le-ltb 32 x p, e)

    pub visit_low : x ≤ 32 → get_or w.met (x - 1) false ≡ false → x < j → visit (suc n) s j x w ≡ meet x w
    unfolding visit
    visit_low p e q = rw (le-ltb 32 x p, e, lt-ltb x j q)

    pub visit_high : x ≤ 32 → get_or w.met (x - 1) false ≡ false → j ≤ x → visit (suc n) s j x w ≡ up_to 48 (step_to n x) (meet x w)
    unfolding visit
    visit_high p e q = rw (le-ltb 32 x p, e, le-ltb x j q)

  pub step_skip : (n x r : ℕ) (v : Walk) → s.link (suc r) x ≡ false → step_to n x r v ≡ v
  step_skip n x r v e = rw (e, step_to)

  pub step_into : (n x r : ℕ) (v : Walk) → s.link (suc r) x ≡ true → v.failed ≡ None → step_to n x r v ≡ visit n s j (suc r) v
  step_into n x r v e z = rw (e, step_to, none_is v.failed z)

  pub step_stop : (n x r : ℕ) (v : Walk) → is_none v.failed ≡ false → step_to n x r v ≡ v
  step_stop n x r v q = go (s.link (suc r) x) refl
    where
      go : (a : Bool) → s.link (suc r) x ≡ a → step_to n x r v ≡ v
      go false e = rw (e, step_to)
      go true e = rw (e, step_to, q)

  -- a step that has not failed was not begun after a failure
  step_fine : (n x r : ℕ) (v : Walk) → (step_to n x r v).failed ≡ None → v.failed ≡ None
  step_fine n x r v = go (s.link (suc r) x) (is_none v.failed) refl
    where
      go : (a b : Bool) → is_none v.failed ≡ b → (elim a as (λ _. Walk) [ false ↦ v | true ↦ elim b as (λ _. Walk) [ false ↦ v | true ↦ visit n s j (suc r) v ] ]).failed ≡ None → v.failed ≡ None
      go false b q e = e
      go true false q e = e
      go true true q e = is_none_true v.failed q

  -- a successor of k at or above j that was met too
  abbrev pub Up : Walk → Walk → ℕ → Type 0
  Up w v k = (m : ℕ) × (New w v m) × (j ≤ m) × (s.link k m ≡ true)

  -- what a visit of x that has not failed has met: x and, from every task at or above j, all predecessors, each by one way only
  pub record Grown (x : ℕ) (w v : Walk) : Type 0 where
    pub sized : Sized v
    pub keeps : (k : ℕ) → M w k ≡ true → M v k ≡ true
    pub root : New w v x
    pub upward : (k : ℕ) → New w v k → (k ≡ x → ⊥) → Up w v k
    pub closed : (p m : ℕ) → New w v m → j ≤ m → s.link p m ≡ true → New w v p
    pub single : (p m m' : ℕ) → New w v m → j ≤ m → s.link p m ≡ true → New w v m' → j ≤ m' → s.link p m' ≡ true → m ≡ m'
    pub apart : (m : ℕ) → New w v m → j ≤ m → s.link x m ≡ true → ⊥

  -- the same part way: the predecessors 1 .. R of x have been visited from b, where x has just been met
  pub record Part (x R : ℕ) (b v : Walk) : Type 0 where
    pub sized : Sized v
    pub keeps : (k : ℕ) → M b k ≡ true → M v k ≡ true
    pub upward : (k : ℕ) → New b v k → Up b v k ⊎ ((s.link k x ≡ true) × (k ≤ R))
    pub closed : (p m : ℕ) → New b v m → j ≤ m → s.link p m ≡ true → New b v p
    pub single : (p m m' : ℕ) → New b v m → j ≤ m → s.link p m ≡ true → New b v m' → j ≤ m' → s.link p m' ≡ true → m ≡ m'
    pub roots : (p : ℕ) → 1 ≤ p → p ≤ R → s.link p x ≡ true → New b v p
    pub apart : (p : ℕ) → 1 ≤ p → p ≤ R → s.link p x ≡ true → (m : ℕ) → New b v m → j ≤ m → s.link p m ≡ true → ⊥

  part_none : (x : ℕ) (b : Walk) → Sized b → Part x 0 b b
  part_none x b z =
      record {
        sized = z;
        keeps = λ k e. e;
        upward = λ k n. absurd (not_both n.1 n.0);
        closed = λ p m n a e. absurd (not_both n.1 n.0);
        single = λ p m m' n a e n' a' e'. absurd (not_both n.1 n.0);
        roots = λ p a c e. absurd (omega arith);
        apart = λ p a c e. absurd (omega arith);
      }

  -- a predecessor that is none
  part_skip : (x R : ℕ) (b v : Walk) → s.link (suc R) x ≡ false → Part x R b v → Part x (suc R) b v
  part_skip x R b v off g =
      record {
        sized = g.sized;
        keeps = g.keeps;
        upward = λ k n. later k (g.upward k n);
        closed = g.closed;
        single = g.single;
        roots = λ p a c e. g.roots p a (below p c e) e;
        apart = λ p a c e. g.apart p a (below p c e) e;
      }
    where
      later : (k : ℕ) → Up b v k ⊎ ((s.link k x ≡ true) × (k ≤ R)) → Up b v k ⊎ ((s.link k x ≡ true) × (k ≤ suc R))
      later k (inl u) = inl u
      later k (inr (e, c)) = inr (e, omega arith)

      below : (p : ℕ) → p ≤ suc R → s.link p x ≡ true → p ≤ R
      below p c e = go (cmp p (suc R))
        where
          go : Cmp p (suc R) → p ≤ R
          go (less q) = omega arith
          go (same q) = absurd (not_both e (rw q off))
          go (more q) = absurd (omega arith)

  -- one more predecessor
  module _ (x R : ℕ) (b v u : Walk) (on : s.link (suc R) x ≡ true) (g : Part x R b v) (h : Grown (suc R) v u) where
    -- what is new since b was new before the visit, or is new by it
    split : {C : Type 0} (k : ℕ) → New b u k → (New b v k → C) → (New v u k → C) → C
    split {C} k n f t = go (M v k) refl
      where
        go : (a : Bool) → M v k ≡ a → C
        go true e = f (n.0, e)
        go false e = t (e, n.1)

    early : (k : ℕ) → New b v k → New b u k
    early k n = (n.0, h.keeps k n.1)

    off_b : (k : ℕ) → M v k ≡ false → M b k ≡ false
    off_b k e = false_of (M b k) (λ t. not_both (g.keeps k t) e)

    late : (k : ℕ) → New v u k → New b u k
    late k n = (off_b k n.0, n.1)

    -- not both
    clash : {C : Type 0} (k : ℕ) → New b v k → New v u k → C
    clash k n n' = absurd (not_both n.1 n'.0)

    part_one : Part x (suc R) b u
    part_one =
        record {
          sized = h.sized;
          keeps = λ k e. h.keeps k (g.keeps k e);
          upward = λ k n. split k n (λ a. lift k (g.upward k a)) (λ a. fresh k a (cmp k (suc R)));
          closed = λ p m n a e. split m n (λ c. early p (g.closed p m c a e)) (λ c. late p (h.closed p m c a e));
          single = λ p m m' n a e n' a' e'.
              split m n
              (λ c. split m' n' (λ c'. g.single p m m' c a e c' a' e') (λ c'. clash p (g.closed p m c a e) (h.closed p m' c' a' e')))
              (λ c. split m' n' (λ c'. clash p (g.closed p m' c' a' e') (h.closed p m c a e)) (λ c'. h.single p m m' c a e c' a' e'));
          roots = λ p a c e. at_root p a c e (cmp p (suc R));
          apart = λ p a c e m n q f. at_apart p a c e m n q f (cmp p (suc R));
        }
      where
        lift : (k : ℕ) → Up b v k ⊎ ((s.link k x ≡ true) × (k ≤ R)) → Up b u k ⊎ ((s.link k x ≡ true) × (k ≤ suc R))
        lift k (inl (m, n, a, e)) = inl (m, early m n, a, e)
        lift k (inr (e, c)) = inr (e, omega arith)

        fresh : (k : ℕ) → New v u k → Cmp k (suc R) → Up b u k ⊎ ((s.link k x ≡ true) × (k ≤ suc R))
        fresh k n (less q) = let (m, a, c, e) = h.upward k n (λ z. omega arith) in inl (m, late m a, c, e)
        fresh k n (same q) = inr (rw q on, omega arith)
        fresh k n (more q) = let (m, a, c, e) = h.upward k n (λ z. omega arith) in inl (m, late m a, c, e)

        at_root : (p : ℕ) → 1 ≤ p → p ≤ suc R → s.link p x ≡ true → Cmp p (suc R) → New b u p
        at_root p a c e (less q) = early p (g.roots p a (omega arith) e)
        at_root p a c e (same q) = rw q (late (suc R) h.root)
        at_root p a c e (more q) = absurd (omega arith)

        at_apart : (p : ℕ) → 1 ≤ p → p ≤ suc R → s.link p x ≡ true → (m : ℕ) → New b u m → j ≤ m → s.link p m ≡ true → Cmp p (suc R) → ⊥
        at_apart p a c e m n q f (less z) =
            split m n (λ t. g.apart p a (omega arith) e m t q f) (λ t. clash p (g.roots p a (omega arith) e) (h.closed p m t q f))
        at_apart p a c e m n q f (same z) =
            split m n (λ t. not_both (g.closed p m t q f).1 (rw z h.root.0)) (λ t. h.apart m t q (rw z at f))
        at_apart p a c e m n q f (more z) = absurd (omega arith)

  -- x is met where it was not
  pub place_of : (x : ℕ) (w : Walk) → 1 ≤ x → get_or w.met (x - 1) false ≡ M w x
  place_of zero w p = absurd (omega arith)
  place_of (suc x) w p = let z : suc x - 1 ≡ x = omega arith in rw z refl

  module _ (sh : Shaped s) (few : s.sources ≤ 16) where
    -- every predecessor has a number from 1 to 48
    numbered : (p k : ℕ) → s.link p k ≡ true → (1 ≤ p) × (p ≤ 48)
    numbered p k e = go (sh.from_node p k e)
      where
        go : IsTask s p ⊎ IsSource s p → (1 ≤ p) × (p ≤ 48)
        go (inl t) = (t.0, omega (arith, t.1, sh.few))
        go (inr t) = (omega (arith, t.0), omega (arith, t.1))

    module _ (x : ℕ) (w : Walk) (some : 1 ≤ x) (few-x : x ≤ 32) (z : Sized w) (off : M w x ≡ false) where
      on_b : M (meet x w) x ≡ true
      on_b = meet_at x w some few-x z

      back : (v : Walk) (k : ℕ) → New (meet x w) v k → New w v k
      back v k n = (sym (meet_other x w k some (λ e. not_both (rw e on_b) n.0)) ∙ n.0, n.1)

      -- new since w: x, or new since x was met
      since : {C : Type 0} (v : Walk) (k : ℕ) → New w v k → (k ≡ x → C) → (New (meet x w) v k → C) → C
      since {C} v k n f t = at_or_not (λ y. New w v y → (y ≡ x → C) → (New (meet x w) v y → C) → C) x k (λ n f t. f refl) (λ ne n f t. t (meet_other x w k some ne ∙ n.0, n.1)) n f t

      -- below j the walk stops
      grown_low : x < j → Grown x w (meet x w)
      grown_low low =
          record {
            sized = meet_sized x w z;
            keeps = λ k e. keep k e;
            root = (off, on_b);
            upward = λ k n ne. since (meet x w) k n (λ e. absurd (ne e)) (λ n'. absurd (not_both n'.1 n'.0));
            closed = λ p m n a e. none m n a;
            single = λ p m m' n a e n' a' e'. none m n a;
            apart = λ m n a e. none m n a;
          }
        where
          keep : (k : ℕ) → M w k ≡ true → M (meet x w) k ≡ true
          keep k e = at_or_not (λ y. M w y ≡ true → M (meet x w) y ≡ true) x k (λ f. on_b) (λ ne f. meet_other x w k some ne ∙ f) e

          none : {C : Type 0} (m : ℕ) → New w (meet x w) m → j ≤ m → C
          none m n a = since (meet x w) m n (λ e. absurd (omega arith)) (λ n'. absurd (not_both n'.1 n'.0))

      -- from j on every predecessor is visited
      grown_high : (v : Walk) → j ≤ x → Part x 48 (meet x w) v → Grown x w v
      grown_high v high g =
          record {
            sized = g.sized;
            keeps = λ k e. g.keeps k (at_or_not (λ y. M w y ≡ true → M (meet x w) y ≡ true) x k (λ f. on_b) (λ ne f. meet_other x w k some ne ∙ f) e);
            root = root;
            upward = λ k n ne. since v k n (λ e. absurd (ne e)) (λ n'. lift k (g.upward k n'));
            closed = λ p m n a e. since v m n (λ q. back v p (pred p (rw q at e))) (λ n'. back v p (g.closed p m n' a e));
            single = λ p m m' n a e n' a' e'.
                since v m n
                (λ q. since v m' n' (λ q'. q ∙ sym q') (λ c'. absurd (lone p (rw q at e) m' c' a' e')))
                (λ c. since v m' n' (λ q'. absurd (lone p (rw q' at e') m c a e)) (λ c'. g.single p m m' c a e c' a' e'));
            apart = λ m n a e. since v m n (λ q. self (pred x (rw q at e))) (λ n'. self (g.closed x m n' a e));
          }
        where
          root : New w v x
          root = (off, g.keeps x on_b)

          pred : (p : ℕ) → s.link p x ≡ true → New (meet x w) v p
          pred p e = let b = numbered p x e in g.roots p b.0 b.1 e

          lone : (p : ℕ) → s.link p x ≡ true → (m : ℕ) → New (meet x w) v m → j ≤ m → s.link p m ≡ true → ⊥
          lone p e = let b = numbered p x e in g.apart p b.0 b.1 e

          self : New (meet x w) v x → ⊥
          self n = not_both on_b n.0

          lift : (k : ℕ) → Up (meet x w) v k ⊎ ((s.link k x ≡ true) × (k ≤ 48)) → Up w v k
          lift k (inl (m, n, a, e)) = (m, back v m n, a, e)
          lift k (inr (e, c)) = (x, root, high, e)

    -- the predecessors of x in turn
    pub part : (n x : ℕ) (b : Walk) → Sized b → ((p : ℕ) (v : Walk) → 1 ≤ p → Sized v → v.failed ≡ None → (visit n s j p v).failed ≡ None → Grown p v (visit n s j p v)) → (R : ℕ) → (up_to R (step_to n x) b).failed ≡ None → Part x R b (up_to R (step_to n x) b)
    unfolding up_to
    part n x b z ih zero e = part_none x b z
    part n x b z ih (suc R) e =
        let v : Walk = up_to R (step_to n x) b in
        let f : v.failed ≡ None = step_fine n x R v e in
        go (s.link (suc R) x) refl (part n x b z ih R f) f
      where
        go : (a : Bool) → s.link (suc R) x ≡ a → Part x R b (up_to R (step_to n x) b) → (up_to R (step_to n x) b).failed ≡ None → Part x (suc R) b (step_to n x R (up_to R (step_to n x) b))
        go false q g f = rw (step_skip n x R (up_to R (step_to n x) b) q) (part_skip x R b (up_to R (step_to n x) b) q g)
        go true q g f =
            let same : step_to n x R (up_to R (step_to n x) b) ≡ visit n s j (suc R) (up_to R (step_to n x) b) = step_into n x R (up_to R (step_to n x) b) q f in
            rw same (part_one x R b (up_to R (step_to n x) b) (visit n s j (suc R) (up_to R (step_to n x) b)) q g
            (ih (suc R) (up_to R (step_to n x) b) (omega arith) g.sized f (rw same at e)))

    -- a visit that has not failed
    pub grown : (n x : ℕ) (w : Walk) → 1 ≤ x → Sized w → w.failed ≡ None → (visit n s j x w).failed ≡ None → Grown x w (visit n s j x w)
    unfolding visit
    grown zero x w a z f e = some_none e
    grown (suc n) x w a z f e = far (cmp 32 x) (λ p v. grown n p v)
      where
        high : x ≤ 32 → get_or w.met (x - 1) false ≡ false → j ≤ x → ((p : ℕ) (v : Walk) → 1 ≤ p → Sized v → v.failed ≡ None → (visit n s j p v).failed ≡ None → Grown p v (visit n s j p v)) → Grown x w (visit (suc n) s j x w)
        high b q r ih =
            rw (visit_high n x w b q r) (grown_high x w a b z (sym (place_of x w a) ∙ q) _ r (part n x (meet x w) (meet_sized x w z) ih 48 (rw (visit_high n x w b q r) at e)))

        low_or : x ≤ 32 → get_or w.met (x - 1) false ≡ false → Cmp x j → ((p : ℕ) (v : Walk) → 1 ≤ p → Sized v → v.failed ≡ None → (visit n s j p v).failed ≡ None → Grown p v (visit n s j p v)) → Grown x w (visit (suc n) s j x w)
        low_or b q (less r) ih = rw (visit_low n x w b q r) (grown_low x w a b z (sym (place_of x w a) ∙ q) r)
        low_or b q (same r) ih = high b q (omega arith) ih
        low_or b q (more r) ih = high b q (omega arith) ih

        met_or : x ≤ 32 → (t : Bool) → get_or w.met (x - 1) false ≡ t → ((p : ℕ) (v : Walk) → 1 ≤ p → Sized v → v.failed ≡ None → (visit n s j p v).failed ≡ None → Grown p v (visit n s j p v)) → Grown x w (visit (suc n) s j x w)
        met_or b true q ih = some_none (rw (visit_again n x w b q) at e)
        met_or b false q ih = low_or b q (cmp x j) ih

        far : Cmp 32 x → ((p : ℕ) (v : Walk) → 1 ≤ p → Sized v → v.failed ≡ None → (visit n s j p v).failed ≡ None → Grown p v (visit n s j p v)) → Grown x w (visit (suc n) s j x w)
        far (less q) ih = some_none (rw (visit_source n x w q) at e)
        far (same q) ih = met_or (omega arith) (get_or w.met (x - 1) false) refl ih
        far (more q) ih = met_or (omega arith) (get_or w.met (x - 1) false) refl ih

-- the walk asks a system for its links alone
module _ (a b : System) (agree : (i k : ℕ) → 1 ≤ i → i ≤ 48 → 1 ≤ k → k ≤ 32 → a.link i k ≡ b.link i k) where
  pub visit_alike : (n j x : ℕ) (w : Walk) → 1 ≤ x → visit n a j x w ≡ visit n b j x w
  unfolding visit
  visit_alike zero j x w p = refl
  visit_alike (suc n) j x w p = far (cmp 32 x) (λ r v. visit_alike n j (suc r) v (omega arith))
    where
      Alike : Type 0
      Alike = (r : ℕ) (v : Walk) → visit n a j (suc r) v ≡ visit n b j (suc r) v

      turn : Alike → x ≤ 32 → (r : ℕ) → r < 48 → (v : Walk) → step_to a j n x r v ≡ step_to b j n x r v
      turn ih q r h v = go (a.link (suc r) x) refl (is_none v.failed) refl
        where
          same_link : a.link (suc r) x ≡ b.link (suc r) x
          same_link = agree (suc r) x (omega arith) (omega arith) p q

          go : (c : Bool) → a.link (suc r) x ≡ c → (e : Bool) → is_none v.failed ≡ e → step_to a j n x r v ≡ step_to b j n x r v
          go false l e f = step_skip a j n x r v l ∙ sym (step_skip b j n x r v (sym same_link ∙ l))
          go true l false f = step_stop a j n x r v f ∙ sym (step_stop b j n x r v f)
          go true l true f =
              step_into a j n x r v l (is_none_true v.failed f) ∙ ih r v ∙ sym (step_into b j n x r v (sym same_link ∙ l) (is_none_true v.failed f))

      turns : Alike → x ≤ 32 → (R : ℕ) → R ≤ 48 → up_to R (step_to a j n x) (meet x w) ≡ up_to R (step_to b j n x) (meet x w)
      turns ih q R h = up_to-alike R (step_to a j n x) (step_to b j n x) (meet x w) (λ r y v. turn ih q r (omega arith) v)

      high : Alike → x ≤ 32 → get_or w.met (x - 1) false ≡ false → j ≤ x → visit (suc n) a j x w ≡ visit (suc n) b j x w
      high ih q e l = visit_high a j n x w q e l ∙ turns ih q 48 (omega arith) ∙ sym (visit_high b j n x w q e l)

      low : Alike → x ≤ 32 → get_or w.met (x - 1) false ≡ false → Cmp x j → visit (suc n) a j x w ≡ visit (suc n) b j x w
      low ih q e (less l) = visit_low a j n x w q e l ∙ sym (visit_low b j n x w q e l)
      low ih q e (same l) = high ih q e (omega arith)
      low ih q e (more l) = high ih q e (omega arith)

      met : Alike → x ≤ 32 → (t : Bool) → get_or w.met (x - 1) false ≡ t → visit (suc n) a j x w ≡ visit (suc n) b j x w
      met ih q true e = visit_again a j n x w q e ∙ sym (visit_again b j n x w q e)
      met ih q false e = low ih q e (cmp x j)

      far : Cmp 32 x → Alike → visit (suc n) a j x w ≡ visit (suc n) b j x w
      far (less q) ih = visit_source a j n x w q ∙ sym (visit_source b j n x w q)
      far (same q) ih = met ih (omega arith) (get_or w.met (x - 1) false) refl
      far (more q) ih = met ih (omega arith) (get_or w.met (x - 1) false) refl

  pub in_order-alike : (i j : ℕ) → 1 ≤ i → in_order a i j ≡ in_order b i j
  unfolding in_order walk
  in_order-alike i j p = ap (λ (v : Walk). is_none v.failed) (visit_alike 34 j i (record { failed = None; met = replicate 32 false }) p)

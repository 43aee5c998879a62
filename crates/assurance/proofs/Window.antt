-- The busy window: no event waits longer than a D that a round leaves unchanged, whatever the potential and the slack. Assumes nothing.
use Prim.Native.Nat.{ℕ, zero, suc, ◌+◌, ◌*◌, ◌≤◌, ◌<◌}
use mathlib.Core.Path.{◌≡◌, refl, ap, ◌∙◌}
use mathlib.Core.Bool.{Bool, true, false}
use mathlib.Core.Logic.{◌⊎◌, inl, inr}
use native.Mathlib.Omega.{arith}
use native.Mathlib.Nat.{add-zero, add-suc, mul-le-mul_left}
use Rattle.model.specs.Basics.{sum_n, given}
use Rattle.model.specs.Delays.{spacings}
use Rattle.lemmas.proofs.Tests.{Cmp, less, same, more, cmp}
use Rattle.lemmas.proofs.Range.{sum_n-le, sum_n-add, sum_n-zero}
use Rattle.assurance.proofs.Count.{count}

-- what the n sources from a on have brought in the w ticks from x on, each its load at every firing
unfoldable pub brought : (load : ℕ → ℕ) (fire : ℕ → ℕ → Bool) (a n x w : ℕ) → ℕ
brought load fire a n x w = sum_n (λ u. load u * count (fire u) x w) a n

brought_none : (load : ℕ → ℕ) (fire : ℕ → ℕ → Bool) (a n x : ℕ) → brought load fire a n x 0 ≡ 0
unfolding brought count sum_n
brought_none load fire a n x = sum_n-zero (λ u. load u * count (fire u) x 0) a n (λ u p q. omega arith)

count_more : (f : ℕ → Bool) (x w : ℕ) → count f x (suc w) ≡ count f x w + given (f (x + w)) 1
unfolding count sum_n
count_more f x w = refl

times_given : (b : Bool) (x c : ℕ) → x * (c + given b 1) ≡ x * c + given b x
times_given true x c = omega arith
times_given false x c = omega arith

brought_more : (load : ℕ → ℕ) (fire : ℕ → ℕ → Bool) (a n x w : ℕ) → brought load fire a n x (suc w) ≡ brought load fire a n x w + sum_n (λ u. given (fire u (x + w)) (load u)) a n
unfolding brought
brought_more load fire a n x w = simp (count_more, times_given, sum_n-add)

-- A schedule as the events of one link see it: the sources' firings, a potential that every busy tick lowers by 1 but for what arrives
-- in it, the events that wait (wait y x: the one of tick x, before tick y), and a slack c. A tick that is not busy opens the window anew.
-- Preemptive: phi is what is owed at j, c is 0, and a potential of 0 says that nothing waits.
-- Hold-on: phi is what is owed above j and by the run of a task up to j, and c is 1, the first tick of that run being done when the
-- window opens. An event waits until its run begins, so with phi 0 it may still wait, but at the width D - 1 no tick is busy.
pub record Run (load gap : ℕ → ℕ) (a n S c : ℕ) : Type 1 where
  pub fire : ℕ → ℕ → Bool
  pub phi : ℕ → ℕ
  pub busy : ℕ → Bool
  pub wait : ℕ → ℕ → Type 0
  pub counted : (u : ℕ) → a ≤ u → u < a + n → (x w : ℕ) → count (fire u) x w ≤ spacings w (gap u)
  pub starts : phi 0 + c ≤ S
  pub none : (x : ℕ) → wait 0 x → ⊥
  pub falls : (y : ℕ) → busy y ≡ true → phi (suc y) + 1 ≤ phi y + sum_n (λ u. given (fire u y) (load u)) a n
  pub idle : (y : ℕ) → busy y ≡ false → phi (suc y) + c ≤ S
  pub fresh : (y x : ℕ) → wait (suc y) x → wait y x ⊎ (x ≡ y)
  pub clear : (y x : ℕ) → busy y ≡ false → wait (suc y) x → ⊥
  pub done : (y x : ℕ) → phi y + c ≡ 0 → wait y x → ⊥

module _ (load gap : ℕ → ℕ) (a n S c D : ℕ) (pos : 1 ≤ D) (fix : S + sum_n (λ u. load u * spacings D (gap u)) a n ≡ D) (R : Run load gap a n S c) where
  -- the window that tick y stands in: it opened w < D ticks ago, all that is owed came in it, and so did each event that waits
  record Inv (y : ℕ) : Type 0 where
    opened : ℕ
    width : ℕ
    at : opened + width ≡ y
    short : width < D
    bound : R.phi y + width + c ≤ S + brought load R.fire a n opened width
    since : (x : ℕ) → R.wait y x → opened ≤ x

  anew : (y : ℕ) → R.phi y + c ≤ S → ((x : ℕ) → R.wait y x → ⊥) → Inv y
  anew y p v = record {
    opened = y;
    width = 0;
    at = add-zero y;
    short = pos;
    bound = omega arith;
    since = λ x e. absurd (v x e);
  }

  inv_busy : (y : ℕ) → Inv y → R.busy y ≡ true → Inv (suc y)
  inv_busy y i b = go (cmp (suc i.width) D)
    where
      more_brought : R.phi (suc y) + suc i.width + c ≤ S + brought load R.fire a n i.opened (suc i.width)
      more_brought =
          rw (brought_more load R.fire a n i.opened i.width, i.at) (omega (arith, i.bound, R.falls y b))

      still : (x : ℕ) → R.wait (suc y) x → i.opened ≤ x
      still x v = fr (R.fresh y x v)
        where
          fr : R.wait y x ⊎ (x ≡ y) → i.opened ≤ x
          fr (inl e) = i.since x e
          fr (inr e) = omega (arith, i.at)

      most : brought load R.fire a n i.opened (suc i.width) ≤ sum_n (λ u. load u * spacings (suc i.width) (gap u)) a n
      most = unfold brought in sum_n-le _ _ a n (λ u p q. mul-le-mul_left (load u) (R.counted u p q i.opened (suc i.width)))

      -- at the width D nothing is owed, and there is no slack
      full : suc i.width ≡ D → R.phi (suc y) + c ≡ 0
      full q =
          let f : S + sum_n (λ u. load u * spacings (suc i.width) (gap u)) a n ≡ D = rw q fix in
          omega (arith, more_brought, most)

      go : Cmp (suc i.width) D → Inv (suc y)
      go (less q) = record {
        opened = i.opened;
        width = suc i.width;
        at = add-suc i.opened i.width ∙ ap suc i.at;
        short = q;
        bound = more_brought;
        since = still;
      }
      go (same q) = anew (suc y) (omega (arith, full q)) (λ x v. R.done (suc y) x (full q) v)
      go (more q) = absurd (omega (arith, i.short))

  inv_step : (y : ℕ) → Inv y → Inv (suc y)
  inv_step y i = go (R.busy y) refl
    where
      go : (b : Bool) → R.busy y ≡ b → Inv (suc y)
      go true e = inv_busy y i e
      go false e = anew (suc y) (R.idle y e) (λ x v. R.clear y x e v)

  inv : (y : ℕ) → Inv y
  inv zero = anew 0 R.starts R.none
  inv (suc y) = inv_step y (inv y)

  -- an event of tick x that still waits before tick y
  pub bounded : (y x : ℕ) → R.wait y x → y < x + D
  bounded y x v = let i : Inv y = inv y in omega (arith, i.at, i.short, i.since x v)

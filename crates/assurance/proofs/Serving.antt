-- What History reads off a list of ticks, over a schedule whose beginnings and ends of one task's runs the list shows. Assumes nothing.
use Prim.Native.Nat.{ℕ, zero, suc, ◌+◌, ◌-◌, ◌≤◌, ◌<◌}
use mathlib.Core.Path.{◌≡◌, refl, ◌∙◌}
use mathlib.Core.Bool.{Bool, true, false, ◌||◌, ◌&&◌}
use mathlib.Core.List.{List}
use native.Mathlib.Omega.{arith}
use lib.ListN.{length}
use Rattle.model.specs.Graph.{System}
use Rattle.model.specs.History.{Tick, fires, begins, ends, tick_at, ends_within, ticks_until, served_before, wait_of}
use Rattle.lemmas.proofs.Tests.{Cmp, less, same, more, cmp, or_false_left, or_false_right}
use Rattle.assurance.proofs.Schedule.{Schedule, begins_at, ends_at}
use Rattle.assurance.proofs.Events.{Unserved, new, later, came, Waits, Takes}

-- a list of ticks shows a schedule, in which every event is taken by the run begun next
pub record Shows (h : List Tick) {s : System} {gap : ℕ → ℕ} (S : Schedule s gap) (T : Takes S) : Type 0 where
  pub begins_is : (j x : ℕ) → x < length h → begins (tick_at h x) j ≡ begins_at S j x
  pub ends_is : (j x : ℕ) → x < length h → ends (tick_at h x) j ≡ ends_at S j x
  pub arrives_is : (i x : ℕ) → 33 ≤ i → x < length h → fires (tick_at h x) i ≡ S.arr x i
  pub taken_is : (j x : ℕ) → T.taken j x ≡ false

module _ (h : List Tick) {s : System} {gap : ℕ → ℕ} (S : Schedule s gap) (T : Takes S) (W : Shows h S T) (j : ℕ) {ev : ℕ → Bool} where
  -- one tick more
  more_unserved : {x y : ℕ} {b : Bool} → y < length h → Unserved S j ev (T.taken j) x y b → ((b || begins (tick_at h y) j) && ends (tick_at h y) j) ≡ false → Unserved S j ev (T.taken j) x (suc y) (b || begins (tick_at h y) j)
  more_unserved {y = y} p u e = rw (W.begins_is j y p) (later u (rw (W.begins_is j y p, W.ends_is j y p) at e))

  within : (n : ℕ) {x y z : ℕ} {b : Bool} → y + n ≡ z → z ≤ length h → Unserved S j ev (T.taken j) x y b → ends_within h j b y n ≡ false → (c : Bool) × Unserved S j ev (T.taken j) x z c
  unfolding ends_within
  within zero {y = y} {z = z} {b = b} p q u e = let r : z ≡ y = omega arith in (b, rw r u)
  within (suc n) {y = y} {b = b} p q u e =
      within n (omega arith) q (more_unserved (omega arith) u (or_false_left ((b || begins (tick_at h y) j) && ends (tick_at h y) j) _ e)) (or_false_right ((b || begins (tick_at h y) j) && ends (tick_at h y) j) _ e)

  -- and back: what is unserved goes on as it stands
  on_within : (n : ℕ) {x y : ℕ} {b : Bool} → y ≤ length h → Unserved S j ev (T.taken j) x y b → ends_within h j false x (y - x + n) ≡ ends_within h j b y n
  unfolding ends_within
  on_within n {x} p (new e) = let z : x - x + n ≡ n = omega arith in rw (z, W.taken_is j x) refl
  on_within n {x} p (later {y = y} {b = b} u f) =
      let z : suc y - x + n ≡ y - x + suc n = omega (arith, (came S j u).1) in
      rw z (on_within (suc n) (omega arith) u ∙ rw (ends_within, W.begins_is j y (omega arith), W.ends_is j y (omega arith), f) refl)

  pub unserved_not : {x y : ℕ} {b : Bool} → y ≤ length h → Unserved S j ev (T.taken j) x y b → served_before h j x y ≡ false
  unfolding served_before ends_within
  unserved_not {x} {y} p u = let z : y - x + 0 ≡ y - x = omega arith in rw z at (on_within 0 p u)

  -- a wait is at most a D that no unserved stretch reaches
  until_le : (n : ℕ) {x y : ℕ} {b : Bool} (D : ℕ) → y + n ≤ length h → Unserved S j ev (T.taken j) x y b → ((z : ℕ) (c : Bool) → z ≤ y + n → y ≤ z → Unserved S j ev (T.taken j) x z c → z < y + D) → ticks_until h j b y n ≤ D
  unfolding ticks_until
  until_le zero D p u f = omega arith
  until_le (suc n) {x} {y} {b} D p u f = go ((b || begins (tick_at h y) j) && ends (tick_at h y) j) refl (λ v. until_le n (D - 1) (omega arith) v)
    where
      some : y < y + D
      some = f y b (omega arith) (omega arith) u

      go : (t : Bool) → ((b || begins (tick_at h y) j) && ends (tick_at h y) j) ≡ t → (Unserved S j ev (T.taken j) x (suc y) (b || begins (tick_at h y) j) → ((z : ℕ) (c : Bool) → z ≤ suc y + n → suc y ≤ z → Unserved S j ev (T.taken j) x z c → z < suc y + (D - 1)) → ticks_until h j (b || begins (tick_at h y) j) (suc y) n ≤ D - 1) → ticks_until h j b y (suc n) ≤ D
      go true e ih = rw (e, ticks_until) (omega (arith, some))
      go false e ih =
          rw (e, ticks_until)
          (omega (arith, some, ih (more_unserved (omega arith) u e) (λ z c a r v. omega (arith, some, f z c (omega arith) (omega arith) v))))

  -- in History's words
  module _ (x : ℕ) (here : x < length h) (sent : ev x ≡ true) where
    first : Unserved S j ev (T.taken j) x x false
    first = let u : Unserved S j ev (T.taken j) x x (T.taken j x) = new sent in rw (W.taken_is j x) at u

    pub unserved_waits : (y : ℕ) → x < y → y ≤ length h → served_before h j x y ≡ false → Waits S j ev (T.taken j) y x
    unfolding served_before
    unserved_waits y p q e =
        let (b, u) = within (y - x) (omega arith) q first e in
        record { before = p; begun = b; unserved = u }

    pub wait_le : (D : ℕ) → 1 ≤ D → ((y : ℕ) → Waits S j ev (T.taken j) y x → y < x + D) → wait_of h j x ≤ D
    unfolding wait_of
    wait_le D o f = until_le (length h - x) D (omega arith) first (λ z c a r u. go z c u r (cmp x z))
      where
        go : (z : ℕ) (c : Bool) → Unserved S j ev (T.taken j) x z c → x ≤ z → Cmp x z → z < x + D
        go z c u r (less q) = f z (record { before = q; begun = c; unserved = u })
        go z c u r (same q) = omega arith
        go z c u r (more q) = absurd (omega arith)

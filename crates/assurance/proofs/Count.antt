-- How often a source fires in a stretch of ticks, by the age that the machine keeps for it. Assumes nothing.
use Prim.Native.Nat.{ℕ, zero, suc, ◌+◌, ◌-◌, ◌*◌, ◌≤◌, ◌<◌, min}
use mathlib.Core.Path.{◌≡◌, refl}
use mathlib.Core.Bool.{Bool, true, false}
use native.Mathlib.Omega.{arith}
use native.Mathlib.Nat.{add-zero, add-suc}
use Rattle.model.specs.Basics.{sum_n, given}
use Rattle.model.specs.Delays.{spacings}
use Rattle.theory.proofs.Rounds.{spacings_some, spacings_of}

-- the firings in the n ticks from x on
unfoldable pub count : (ℕ → Bool) → ℕ → ℕ → ℕ
count f x n = sum_n (λ y. given (f y) 1) x n

-- what an age says of firings that are at least m apart
pub record Ages (m : ℕ) (f : ℕ → Bool) (age : ℕ → ℕ) : Type 0 where
  pub ready : (x : ℕ) → f x ≡ true → m ≤ age x
  pub fired : (x : ℕ) → f x ≡ true → age (suc x) ≤ 1
  pub older : (x : ℕ) → age (suc x) ≤ suc (age x)
  pub some : (x : ℕ) → 1 ≤ age (suc x)

-- one tick more
age_step : (b : Bool) (c m n old new : ℕ) → c * m + min m old ≤ n + m → (b ≡ true → m ≤ old) → (b ≡ true → new ≤ 1) → new ≤ suc old → (c + given b 1) * m + min m new ≤ suc n + m
age_step true c m n old new h p q r = omega (arith, p refl, q refl)
age_step false c m n old new h p q r = omega arith

count_age : (m : ℕ) (f : ℕ → Bool) (age : ℕ → ℕ) → Ages m f age → (x n : ℕ) → count f x n * m + min m (age (x + n)) ≤ n + m
unfolding count sum_n
count_age m f age g x zero = omega arith
count_age m f age g x (suc n) =
    rw (add-suc x n)
    (age_step (f (x + n)) (sum_n (λ y. given (f y) 1) x n) m n (age (x + n)) (age (suc (x + n))) (count_age m f age g x n) (g.ready _) (g.fired _) (g.older _))

count_none : (f : ℕ → Bool) (x m : ℕ) → count f x 0 ≤ spacings 0 m
unfolding count sum_n
count_none f x m = omega (arith, spacings_some 0 m)

pub count_spacings : (m : ℕ) (f : ℕ → Bool) (age : ℕ → ℕ) → 1 ≤ m → Ages m f age → (x n : ℕ) → count f x n ≤ spacings n m
count_spacings m f age p g x zero = count_none f x m
count_spacings m f age p g x (suc n) =
    spacings_of (count f x (suc n)) (suc n) m p
    (omega (arith, rw add-suc at (count_age m f age g x (suc n)), g.some (x + n)))

-- two firings are at least m apart
age_since : (m : ℕ) (f : ℕ → Bool) (age : ℕ → ℕ) → Ages m f age → (x n : ℕ) → f x ≡ true → age (x + suc n) ≤ suc n
age_since m f age g x zero e = rw (add-suc, add-zero) (g.fired x e)
age_since m f age g x (suc n) e =
    rw (add-suc x (suc n)) (omega (arith, g.older (x + suc n), age_since m f age g x n e))

pub apart : (m : ℕ) (f : ℕ → Bool) (age : ℕ → ℕ) → Ages m f age → (x y : ℕ) → f x ≡ true → f y ≡ true → x < y → x + m ≤ y
apart m f age g x y e d p =
    let q : x + suc (y - suc x) ≡ y = omega arith in
    omega (arith, g.ready y d, rw q at (age_since m f age g x (y - suc x) e))

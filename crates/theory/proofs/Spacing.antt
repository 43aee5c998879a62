-- Laws of a source's spacing, one for all kinds: it does not grow with the tempo, and it is from 1 to 1,000,000,000. Assumes nothing.
use Prim.Native.Nat.{ℕ, ◌+◌, ◌-◌, ◌*◌, ◌/◌, ◌≤◌, ◌<◌}
use mathlib.Core.Path.{◌≡◌, refl}
use mathlib.Core.Bool.{true, ◌&&◌}
use native.Mathlib.Omega.{arith}
use native.Mathlib.Nat.{le-div_iff_mul-le, div-mul-le_self, mul-le-mul_left, mul-le-mul_right, div-le_self, mul-pos}
use lib.Dec.{leb}
use Rattle.model.specs.declared.Source.{Source}
use Rattle.model.specs.declared.Source.TheVariants.{Fixed, Paced, Swung}
use Rattle.model.specs.declared.Description.{Description}
use Rattle.model.specs.declared.Field.TheVariants.{OfSource}
use Rattle.model.specs.Field.{on_scale}
use Rattle.model.specs.Graph.{source_at}
use Rattle.model.specs.Delays.{paced_spacing, spacing, spacing_of}
use Rattle.lemmas.proofs.Tests.{and_left, and_right, within}
use Rattle.theory.proofs.WellFormed.{WellFormed}

-- a larger divisor gives no larger quotient
div_anti : (n k k' : ℕ) → 1 ≤ k → k ≤ k' → n / k' ≤ n / k
div_anti n k k' p h = (le-div_iff_mul-le p).1 (omega (arith, div-mul-le_self n k', mul-le-mul_left (n / k') h))

-- the scale of pulses, and of pulses with a swing
pub paced_scale : (p : ℕ) → on_scale (OfSource (Paced p)) ≡ true → (1 ≤ p) × (p ≤ 960)
paced_scale p c = within 1 p 960 c

pub swung_scale : (p swing : ℕ) → on_scale (OfSource (Swung p swing)) ≡ true → (1 ≤ p) × (p ≤ 960) × (51 ≤ swing) × (swing ≤ 75)
swung_scale p swing c =
    let w = within 1 p 960 (and_left (leb 1 p && leb p 960) (leb 51 swing && leb swing 75) c) in
    let z = within 51 swing 75 (and_right (leb 1 p && leb p 960) (leb 51 swing && leb swing 75) c) in
    (w.0, w.1, z.0, z.1)

-- a paced source: its pulses, and its swing, which is 50 in straight time
pub record Paces (s : Source) : Type 0 where
  pub pulses : ℕ
  pub swing : ℕ
  pub low : 1 ≤ pulses
  pub high : pulses ≤ 960
  pub swing_low : 50 ≤ swing
  pub swing_high : swing ≤ 75
  pub is : (t : ℕ) → spacing s t ≡ paced_spacing swing pulses t

-- every source on the scale is a fixed one or paced
pub by_kind : (P : Source → Type 0) → ((m : ℕ) → 1 ≤ m → m ≤ 1000000000 → P (Fixed m)) → ((s : Source) → Paces s → P s) → (s : Source) → on_scale (OfSource s) ≡ true → P s
unfolding spacing
by_kind P f g (Fixed m) c = let w = within 1 m 1000000000 c in f m w.0 w.1
by_kind P f g (Paced p) c =
    let w = paced_scale p c in
    g (Paced p) (record { pulses = p; swing = 50; low = w.0; high = w.1; swing_low = omega arith; swing_high = omega arith; is = λ t. refl })
by_kind P f g (Swung p swing) c =
    let w = swung_scale p swing c in
    g (Swung p swing) (record { pulses = p; swing = swing; low = w.0; high = w.1; swing_low = omega (arith, w.2); swing_high = w.3; is = λ t. refl })

pub spacing_anti : (s : Source) (t t' : ℕ) → on_scale (OfSource s) ≡ true → 1 ≤ t → t ≤ t' → spacing s t' ≤ spacing s t
unfolding spacing
spacing_anti s t t' c p h = by_kind (λ x. spacing x t' ≤ spacing x t) (λ m a b. omega arith)
    (λ x k. rw (k.is t, k.is t') (div_anti (12000000 * (100 - k.swing)) (t * k.pulses) (t' * k.pulses) (mul-pos p k.low) (mul-le-mul_right k.pulses h))) s c

-- no paced source has a spacing below 104 (960 pulses with a swing of 75 at 300.0)
pub paced_least : (s : Source) (t : ℕ) → Paces s → 1 ≤ t → t ≤ 3000 → 104 ≤ spacing s t
paced_least s t k p h = rw (k.is t) ((le-div_iff_mul-le (mul-pos p k.low)).1 (omega (arith, mul-le-mul_left t k.high, mul-le-mul_right 960 h, k.swing_high)))

pub spacing_some : (s : Source) (t : ℕ) → on_scale (OfSource s) ≡ true → 1 ≤ t → t ≤ 3000 → 1 ≤ spacing s t
unfolding spacing
spacing_some s t c p h = by_kind (λ x. 1 ≤ spacing x t) (λ m a b. a) (λ x k. omega (arith, paced_least x t k p h)) s c

pub spacing_most : (s : Source) (t : ℕ) → on_scale (OfSource s) ≡ true → spacing s t ≤ 1000000000
unfolding spacing
spacing_most s t c = by_kind (λ x. spacing x t ≤ 1000000000) (λ m a b. b)
    (λ x k. rw (k.is t) (omega (arith, div-le_self (12000000 * (100 - k.swing)) (t * k.pulses), k.swing_low))) s c

-- "a shuffled pulse comes sooner after the one before" (C-11): more swing gives no larger spacing, and straight time the largest
pub swing_anti : (p swing swing' t : ℕ) → 1 ≤ p → 1 ≤ t → swing ≤ swing' → paced_spacing swing' p t ≤ paced_spacing swing p t
swing_anti p swing swing' t a b h =
    (le-div_iff_mul-le (mul-pos b a)).1 (omega (arith, div-mul-le_self (12000000 * (100 - swing')) (t * p)))

pub swung_sooner : (p swing t : ℕ) → on_scale (OfSource (Swung p swing)) ≡ true → 1 ≤ t → spacing (Swung p swing) t ≤ spacing (Paced p) t
unfolding spacing
swung_sooner p swing t c b = let w = swung_scale p swing c in swing_anti p 50 swing t w.0 b (omega (arith, w.2))

-- the same laws of the sources of an accepted description
module _ (d : Description) (g : WellFormed d) (u : ℕ) (from : 33 ≤ u) (within_count : u < 33 + d.source_count) where
  pub gap_anti : (t t' : ℕ) → 1 ≤ t → t ≤ t' → spacing_of d t' u ≤ spacing_of d t u
  unfolding spacing_of
  gap_anti t t' p h = spacing_anti (source_at d u) t t' (g.fields.source_scale u from within_count) p h

  pub gap_some : (t : ℕ) → 1 ≤ t → t ≤ 3000 → 1 ≤ spacing_of d t u
  unfolding spacing_of
  gap_some t p h = spacing_some (source_at d u) t (g.fields.source_scale u from within_count) p h

  pub gap_most : (t : ℕ) → spacing_of d t u ≤ 1000000000
  unfolding spacing_of
  gap_most t = spacing_most (source_at d u) t (g.fields.source_scale u from within_count)

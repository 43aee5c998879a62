-- Rounds: the D that a round leaves unchanged is the least one, and it does not grow when spacings do. Assumes nothing.
use Prim.Native.Nat.{ℕ, zero, suc, ◌+◌, ◌-◌, ◌*◌, ◌/◌, ◌≤◌, ◌<◌}
use mathlib.Core.Path.{◌≡◌, refl}
use mathlib.Core.Bool.{Bool, true, false}
use native.Mathlib.Omega.{arith}
use native.Mathlib.Nat.{le-div_iff_mul-le, div-mul-le_self, mul-le-mul_left}
use lib.Dec.{eqb, ltb}
use borrow.Author.Tests.{eqb-true, eqb-false, ltb-true, ltb-false, lt-ltb, le-ltb, eq-eqb, ne_eqb}
use Rattle.model.specs.declared.Policy.{Policy}
use Rattle.model.specs.Graph.{System}
use Rattle.model.specs.Loads.{load}
use Rattle.model.specs.Delays.{spacings, start_of, level_of, round_of, tail_of, Settled, unchanged, reached, settle, delay_of}
use Rattle.lemmas.proofs.Range.{Each, sum_n-le}

-- how many spacings a stretch holds: at least 1, more in a longer stretch, fewer of longer ones
pub spacings_some : (d m : ℕ) → 1 ≤ spacings d m
unfolding spacings
spacings_some d m = omega arith

div_mono : (x y m : ℕ) → 1 ≤ m → x ≤ y → x / m ≤ y / m
div_mono x y m p h = (le-div_iff_mul-le p).1 (omega (arith, div-mul-le_self x m))

pub spacings_mono : (d d' m : ℕ) → 1 ≤ m → d ≤ d' → spacings d m ≤ spacings d' m
unfolding spacings
spacings_mono d d' m p h = omega (arith, div_mono (d + (m - 1)) (d' + (m - 1)) m p (omega arith))

fewer : (q d m m' : ℕ) → 1 ≤ m → m ≤ m' → q * m' ≤ d + (m' - 1) → q * m ≤ d + (m - 1)
fewer zero d m m' p h k = omega arith
fewer (suc q) d m m' p h k = omega (arith, mul-le-mul_left q h)

pub spacings_anti : (d m m' : ℕ) → 1 ≤ m → m ≤ m' → spacings d m' ≤ spacings d m
unfolding spacings
spacings_anti d m m' p h =
    omega
    (arith, (le-div_iff_mul-le p).1 (fewer ((d + (m' - 1)) / m') d m m' p h (div-mul-le_self (d + (m' - 1)) m')))

-- from a product to the rounded quotient
pub spacings_of : (c d m : ℕ) → 1 ≤ m → c * m ≤ d + (m - 1) → c ≤ spacings d m
unfolding spacings
spacings_of c d m p h = omega (arith, (le-div_iff_mul-le p).1 h)

-- every source has a spacing of at least 1
abbrev pub Spaced : System → (ℕ → ℕ) → Type 0
Spaced s gap = Each (λ u. 1 ≤ gap u) 33 s.sources

-- each spacing is at most the other's
abbrev pub Wider : System → (ℕ → ℕ) → (ℕ → ℕ) → Type 0
Wider s gap gap' = Each (λ u. gap u ≤ gap' u) 33 s.sources

module _ (pol : Policy) (s : System) (j : ℕ) where
  pub round_mono : (gap : ℕ → ℕ) → Spaced s gap → (d d' : ℕ) → d ≤ d' → round_of pol s gap j d ≤ round_of pol s gap j d'
  unfolding round_of
  round_mono gap g d d' h =
      omega
      (arith, sum_n-le (λ u. load s u (level_of pol j) * spacings d (gap u)) (λ u. load s u (level_of pol j) * spacings d' (gap u)) 33 s.sources (λ u p q. mul-le-mul_left (load s u (level_of pol j)) (spacings_mono d d' (gap u) (g u p q) h)))

  pub round_anti : (gap gap' : ℕ → ℕ) → Spaced s gap → Wider s gap gap' → (d : ℕ) → round_of pol s gap' j d ≤ round_of pol s gap j d
  unfolding round_of
  round_anti gap gap' g h d =
      omega
      (arith, sum_n-le (λ u. load s u (level_of pol j) * spacings d (gap' u)) (λ u. load s u (level_of pol j) * spacings d (gap u)) 33 s.sources (λ u p q. mul-le-mul_left (load s u (level_of pol j)) (spacings_anti d (gap u) (gap' u) (g u p q) (h u p q))))

  pub round_start : (gap : ℕ → ℕ) (d : ℕ) → start_of pol s j ≤ round_of pol s gap j d
  unfolding round_of
  round_start gap d = omega arith

-- the steps of a working out
module _ (n : ℕ) (next : ℕ → ℕ) (limit d : ℕ) where
  pub settle_full : limit ≤ d → settle (suc n) next limit d ≡ reached
  unfolding settle
  settle_full h = rw (le-ltb d limit h, settle)

  pub settle_same : d < limit → next d ≡ d → settle (suc n) next limit d ≡ unchanged d
  unfolding settle
  settle_same h e = rw (lt-ltb d limit h, eq-eqb (next d) d e, settle)

  pub settle_next : d < limit → (next d ≡ d → ⊥) → settle (suc n) next limit d ≡ settle n next limit (next d)
  unfolding settle
  settle_next h e = rw (lt-ltb d limit h, ne_eqb (next d) d e, settle)

pub never_reached : {D : ℕ} → reached ≡ unchanged D → ⊥
never_reached e = let z : ◌≡◌ {A = ℕ} 0 1 = cc in omega arith

-- what a working out from d on comes to, by the two tests of a step
settle_by : (P : Settled → Type 0) (n : ℕ) (next : ℕ → ℕ) (limit d : ℕ) → (limit ≤ d → P reached) → (d < limit → next d ≡ d → P (unchanged d)) → (d < limit → (next d ≡ d → ⊥) → P (settle n next limit (next d))) → P (settle (suc n) next limit d)
settle_by P n next limit d full same more = go (ltb d limit) refl (eqb (next d) d) refl
  where
    go : (b : Bool) → ltb d limit ≡ b → (c : Bool) → eqb (next d) d ≡ c → P (settle (suc n) next limit d)
    go false x c y = let h : limit ≤ d = ltb-false d limit x in rw (settle_full n next limit d h) (full h)
    go true x true y =
        let h : d < limit = ltb-true d limit x in
        let e : next d ≡ d = eqb-true (next d) d y in
        rw (settle_same n next limit d h e) (same h e)
    go true x false y =
        let h : d < limit = ltb-true d limit x in
        let e : next d ≡ d → ⊥ = eqb-false (next d) d y in
        rw (settle_next n next limit d h e) (more h e)

-- where it ends unchanged, it ends at a D that a round leaves unchanged, below the limit
pub settle_fixed : (n : ℕ) (next : ℕ → ℕ) (limit d D : ℕ) → settle n next limit d ≡ unchanged D → (next D ≡ D) × (D < limit)
unfolding settle
settle_fixed zero next limit d D = λ e. absurd (never_reached e)
settle_fixed (suc n) next limit d D =
    let ih = settle_fixed n next limit (next d) D in
    settle_by
    (λ r. r ≡ unchanged D → (next D ≡ D) × (D < limit))
    n
    next
    limit
    d
    (λ h e. absurd (never_reached e))
    (λ h q e. let z : d ≡ D = cc in (rw z at q, rw z at h))
    (λ h q e. ih e)

module _ (next : ℕ → ℕ) (mono : (d d' : ℕ) → d ≤ d' → next d ≤ next d') (limit : ℕ) where
  -- never above a D that a round does not raise
  pub settle_least : (n d D P : ℕ) → d ≤ P → next P ≤ P → settle n next limit d ≡ unchanged D → D ≤ P
  unfolding settle
  settle_least zero d D P p q = λ e. absurd (never_reached e)
  settle_least (suc n) d D P p q =
      let ih = settle_least n (next d) D P (omega (arith, mono d P p)) q in
      settle_by
      (λ r. r ≡ unchanged D → D ≤ P)
      n
      next
      limit
      d
      (λ h e. absurd (never_reached e))
      (λ h x e. let z : d ≡ D = cc in omega arith)
      (λ h x e. ih e)

  -- and it finds one, if there is one below the limit
  pub settle_finds : (n d P : ℕ) → d ≤ P → d ≤ next d → next P ≤ P → P < limit → limit ≤ d + n → (D : ℕ) × (settle n next limit d ≡ unchanged D)
  settle_finds zero d P p r q l b = absurd (omega arith)
  settle_finds (suc n) d P p r q l b =
      let ih = settle_finds n (next d) P (omega (arith, mono d P p)) (mono d (next d) r) q l in
      settle_by
      (λ x. (D : ℕ) × (x ≡ unchanged D))
      n
      next
      limit
      d
      (λ h. absurd (omega arith))
      (λ h x. (d, refl))
      (λ h x. ih (omega arith))

-- the delay of a link from source i to task j: a D that with what follows it is below the spacing
module _ (pol : Policy) (s : System) (gap : ℕ → ℕ) (i j : ℕ) where
  abbrev limit : ℕ
  limit = gap i - tail_of pol s j

  pub held_fixed : (D : ℕ) → delay_of pol s gap i j ≡ unchanged D → (round_of pol s gap j D ≡ D) × (D + tail_of pol s j < gap i)
  unfolding delay_of
  held_fixed D e =
      let f = settle_fixed (suc limit) (round_of pol s gap j) limit (start_of pol s j) D e in
      (f.0, omega (arith, f.1))

  module _ (g : Spaced s gap) where
    -- no D that a round does not raise is smaller
    pub held_least : (D P : ℕ) → delay_of pol s gap i j ≡ unchanged D → round_of pol s gap j P ≤ P → D ≤ P
    unfolding delay_of
    held_least D P e h =
        settle_least
        (round_of pol s gap j)
        (round_mono pol s j gap g)
        limit
        (suc limit)
        (start_of pol s j)
        D
        P
        (omega (arith, round_start pol s j gap P))
        h
        e

    -- held exactly if some such D is not raised by a round
    pub held_exists : (P : ℕ) → round_of pol s gap j P ≤ P → P + tail_of pol s j < gap i → (D : ℕ) × (delay_of pol s gap i j ≡ unchanged D)
    unfolding delay_of
    held_exists P h l =
        settle_finds
        (round_of pol s gap j)
        (round_mono pol s j gap g)
        limit
        (suc limit)
        (start_of pol s j)
        P
        (omega (arith, round_start pol s j gap P))
        (round_start pol s j gap (start_of pol s j))
        h
        (omega arith)
        (omega arith)

-- held stays held, and the delay does not grow, when spacings grow
pub record Kept (pol : Policy) (s : System) (gap : ℕ → ℕ) (i j D : ℕ) : Type 0 where
  pub delay : ℕ
  pub held : delay_of pol s gap i j ≡ unchanged delay
  pub smaller : delay ≤ D

pub held_wider : (pol : Policy) (s : System) (gap gap' : ℕ → ℕ) (i j D : ℕ) → Spaced s gap → Wider s gap gap' → gap i ≤ gap' i → delay_of pol s gap i j ≡ unchanged D → Kept pol s gap' i j D
held_wider pol s gap gap' i j D g w h e =
    let f = held_fixed pol s gap i j D e in
    let g' : Spaced s gap' = λ u p q. omega (arith, g u p q, w u p q) in
    let r : round_of pol s gap' j D ≤ D = omega (arith, round_anti pol s j gap gap' g w D, f.0) in
    let (D', e') = held_exists pol s gap' i j g' D r (omega (arith, f.1)) in
    record { delay = D'; held = e'; smaller = held_least pol s gap' i j g' D' D e' r }

-- One working out for all links into a task: the rounds for (i, j) differ only in where they stop; and document 000's test (6) for
-- a level that is loaded beyond what time allows. Assumes nothing.
use Prim.Native.Nat.{ℕ, zero, suc, ◌+◌, ◌-◌, ◌*◌, ◌/◌, ◌≤◌, ◌<◌, max}
use mathlib.Core.Path.{◌≡◌, refl, sym, ap, ◌∙◌}
use mathlib.Core.Bool.{cond}
use mathlib.Core.Logic.{◌⊎◌, inl, inr}
use native.Mathlib.Omega.{arith}
use native.Mathlib.Nat.{lt-div-mul-add, mul-le-mul_left, mul-le-mul_right, zero-add}
use lib.Dec.{ltb}
use borrow.Author.Tests.{lt-ltb, le-ltb, ne_eqb}
use Rattle.model.specs.declared.Description.{Description}
use Rattle.model.specs.declared.Policy.{Policy}
use Rattle.model.specs.declared.Policy.TheVariants.{Preemptive}
use Rattle.model.specs.declared.Verdict.{Verdict}
use Rattle.model.specs.declared.Verdict.TheVariants.{Held, Doubt}
use Rattle.model.specs.Basics.{sum_n}
use Rattle.model.specs.Graph.{System, system, link_at}
use Rattle.model.specs.Loads.{load}
use Rattle.model.specs.Delays.{spacings, start_of, level_of, round_of, tail_of, Settled, unchanged, reached, settle, delay_of, spacing_of}
use Rattle.model.specs.Verdicts.{settled_verdict, source_verdict, verdict_of, verdict_at}
use Rattle.lemmas.proofs.Tests.{Cmp, less, same, more, cmp}
use Rattle.lemmas.proofs.Range.{Each, sum_n-lt, sum_n-mul}
use Rattle.theory.proofs.WellFormed.{WellFormed, IsTask, IsSource}
use Rattle.theory.proofs.Fielded.{link_at_lem, shaped}
use Rattle.theory.proofs.LoadLaws.{loaded, run_whole, load_direct}
use Rattle.theory.proofs.Rounds.{Spaced, spacings_some, held_fixed, round_mono, round_start, settle_fixed, settle_least, settle_finds, never_reached}

-- a sum whose numbers are counted from 0
pub sum-shift : (f : ℕ → ℕ) (a n : ℕ) → sum_n f a n ≡ sum_n (λ u. f (a + u)) 0 n
unfolding sum_n
sum-shift f a zero = refl
sum-shift f a (suc n) = rw (sum-shift f a n, zero-add)

-- where the rounds of level j come to below a limit: the D that one leaves unchanged, or else the limit
abbrev pub reach_of : Settled → ℕ → ℕ
reach_of (unchanged D) limit = D
reach_of reached limit = limit

unfoldable pub level_reach : Policy → System → (ℕ → ℕ) → ℕ → ℕ → ℕ
level_reach pol s gap j limit = reach_of (settle (suc limit) (round_of pol s gap j) limit (start_of pol s j)) limit

module _ (pol : Policy) (s : System) (gap : ℕ → ℕ) (g : Spaced s gap) (i j limit : ℕ) (h : gap i - tail_of pol s j ≤ limit) where
  -- the link's own limit, and the rounds up to the larger one
  abbrev own : ℕ
  own = gap i - tail_of pol s j

  abbrev next : ℕ → ℕ
  next = round_of pol s gap j

  abbrev start : ℕ
  start = start_of pol s j

  abbrev at_limit : Settled
  at_limit = settle (suc limit) next limit start

  -- what is found below the smaller limit is found below the larger one
  finds : (D : ℕ) → delay_of pol s gap i j ≡ unchanged D → at_limit ≡ unchanged D
  unfolding delay_of
  finds D e =
      let f : (next D ≡ D) × (D < own) = settle_fixed (suc own) next own start D e in
      let (E, x) = settle_finds next (round_mono pol s j gap g) limit (suc limit) start D (omega (arith, round_start pol s j gap D)) (round_start pol s j gap start) (omega arith) (omega arith) (omega arith) in
      let k : (next E ≡ E) × (E < limit) = settle_fixed (suc limit) next limit start E x in
      let a : E ≤ D = settle_least next (round_mono pol s j gap g) limit (suc limit) start E D (omega (arith, round_start pol s j gap D)) (omega arith) x in
      let b : D ≤ E = settle_least next (round_mono pol s j gap g) own (suc own) start D E (omega (arith, round_start pol s j gap E)) (omega arith) e in
      let z : E ≡ D = omega arith in
      x ∙ ap unchanged z

  -- and the other way, if it is below the smaller one
  found : (D : ℕ) → at_limit ≡ unchanged D → D < own → delay_of pol s gap i j ≡ unchanged D
  unfolding delay_of
  found D e l =
      let f : (next D ≡ D) × (D < limit) = settle_fixed (suc limit) next limit start D e in
      let (E, x) = settle_finds next (round_mono pol s j gap g) own (suc own) start D (omega (arith, round_start pol s j gap D)) (round_start pol s j gap start) (omega arith) l (omega arith) in
      let z : unchanged E ≡ unchanged D = sym (finds E x) ∙ e in
      x ∙ z

  reached_of : (r : Settled) → delay_of pol s gap i j ≡ r → ((D : ℕ) → delay_of pol s gap i j ≡ unchanged D → ⊥) → delay_of pol s gap i j ≡ reached
  reached_of (unchanged D) e n = absurd (n D e)
  reached_of reached e n = e

  above : (D E : ℕ) → at_limit ≡ unchanged D → delay_of pol s gap i j ≡ unchanged E → gap i ≤ D + tail_of pol s j → ⊥
  above D E e x l =
      let z : E ≡ D = same_number (sym (finds E x) ∙ e) in
      omega (arith, (held_fixed pol s gap i j E x).1)
    where
      same_number : {a b : ℕ} → unchanged a ≡ unchanged b → a ≡ b
      same_number q = cc

  -- the verdict on a link from where its level comes to
  abbrev by_reach : ℕ → Verdict
  by_reach d = cond (ltb (d + tail_of pol s j) (gap i)) (Held (d + tail_of pol s j) (gap i)) (Doubt (gap i))

  pub level_verdict : source_verdict pol s gap i j ≡ by_reach (level_reach pol s gap j limit)
  unfolding source_verdict level_reach
  level_verdict = go at_limit refl
    where
      low : (D : ℕ) → at_limit ≡ unchanged D → Cmp (D + tail_of pol s j) (gap i) → settled_verdict (delay_of pol s gap i j) (tail_of pol s j) (gap i) ≡ by_reach D
      low D e (less l) = rw (lt-ltb (D + tail_of pol s j) (gap i) l, found D e (omega arith))
      low D e (same l) = rw (le-ltb (D + tail_of pol s j) (gap i) (omega arith), reached_of (delay_of pol s gap i j) refl (λ E x. above D E e x (omega arith)))
      low D e (more l) = rw (le-ltb (D + tail_of pol s j) (gap i) (omega arith), reached_of (delay_of pol s gap i j) refl (λ E x. above D E e x (omega arith)))

      go : (r : Settled) → at_limit ≡ r → settled_verdict (delay_of pol s gap i j) (tail_of pol s j) (gap i) ≡ by_reach (reach_of r limit)
      go (unchanged D) e = low D e (cmp (D + tail_of pol s j) (gap i))
      go reached e =
          rw (le-ltb (limit + tail_of pol s j) (gap i) (omega arith), reached_of (delay_of pol s gap i j) refl (λ D x. never_reached (sym e ∙ finds D x)))

-- a stretch is covered by its spacings
pub spacings_cover : (d m : ℕ) → 1 ≤ m → d ≤ spacings d m * m
unfolding spacings
spacings_cover d m p =
    let q : ℕ = (d + (m - 1)) / m in
    let a : q ≤ max 1 q = omega arith in
    omega (arith, lt-div-mul-add {a = d + (m - 1)} {b = m} p, mul-le-mul_right m a)

-- a factor of a number that is not 0
some_factor : (m g P : ℕ) → m * g ≡ P → 1 ≤ P → 1 ≤ m
some_factor zero g P e p = omega arith
some_factor (suc m) g P e p = omega arith

-- document 000's test (6): with P a common multiple of the spacings, P = m(u) × spacing(u), a level is loaded by 1 or more,
-- the sum over sources u of load(u, j) / spacing(u), exactly if P is at most the sum of load(u, j) × m(u)
pub record Overloaded (pol : Policy) (s : System) (gap : ℕ → ℕ) (j : ℕ) : Type 0 where
  pub P : ℕ
  pub m : ℕ → ℕ
  pub some : 1 ≤ P
  pub multiple : Each (λ u. m u * gap u ≡ P) 33 s.sources
  pub full : P ≤ sum_n (λ u. load s u (level_of pol j) * m u) 33 s.sources

module _ (pol : Policy) (s : System) (gap : ℕ → ℕ) (j : ℕ) (o : Overloaded pol s gap j) where
  -- what source u brings in D ticks at least, and what a round counts of it, each P times
  abbrev least : ℕ → ℕ → ℕ
  least D u = D * (load s u (level_of pol j) * o.m u)

  abbrev counted : ℕ → ℕ → ℕ
  counted D u = o.P * (load s u (level_of pol j) * spacings D (gap u))

  spaced_by : Spaced s gap
  spaced_by u p q = some_factor (gap u) (o.m u) o.P (omega (arith, o.multiple u p q)) o.some

  covered : (D u : ℕ) → 33 ≤ u → u < 33 + s.sources → least D u ≤ counted D u
  covered D u p q =
      let c : ℕ = spacings D (gap u) in
      let w : ℕ = load s u (level_of pol j) * o.m u in
      omega (
        arith,
        mul-le-mul_left w (spacings_cover D (gap u) (spaced_by u p q)),
        ap (λ x. x * (load s u (level_of pol j) * c)) (o.multiple u p q),
      )

  beyond : (D i : ℕ) → 33 ≤ i → i < 33 + s.sources → 1 ≤ load s i (level_of pol j) → D < gap i → least D i < counted D i
  beyond D i p q l h =
      let c : ℕ = spacings D (gap i) in
      let w : ℕ = load s i (level_of pol j) * o.m i in
      let a : 1 ≤ o.m i = some_factor (o.m i) (gap i) o.P (o.multiple i p q) o.some in
      let b : gap i ≤ c * gap i = omega (arith, mul-le-mul_right (gap i) (spacings_some D (gap i))) in
      let r : D + 1 ≤ c * gap i = omega arith in
      omega (
        arith,
        mul-le-mul_left (load s i (level_of pol j)) a,
        mul-le-mul_left w r,
        ap (λ x. x * (load s i (level_of pol j) * c)) (o.multiple i p q),
      )

  -- so a D that a round leaves unchanged is not below the spacing of a source that loads the level
  pub unchanged_above : (D i : ℕ) → 33 ≤ i → i < 33 + s.sources → 1 ≤ load s i (level_of pol j) → round_of pol s gap j D ≡ D → gap i ≤ D
  unfolding round_of
  unchanged_above D i p q l e = go (cmp D (gap i))
    where
      go : Cmp D (gap i) → gap i ≤ D
      go (less h) =
          let f : ℕ → ℕ = λ u. load s u (level_of pol j) * o.m u in
          let g : ℕ → ℕ = λ u. load s u (level_of pol j) * spacings D (gap u) in
          let r : sum_n g 33 s.sources ≤ D = omega arith in
          absurd (omega (
            arith,
            sum_n-lt (least D) (counted D) 33 s.sources i (covered D) p q (beyond D i p q l h),
            sum_n-mul D f 33 s.sources,
            sum_n-mul o.P g 33 s.sources,
            mul-le-mul_left D o.full,
            mul-le-mul_left o.P r,
          ))
      go (same h) = omega arith
      go (more h) = omega arith

  -- and no link from there is held
  pub test_6 : (i : ℕ) → 33 ≤ i → i < 33 + s.sources → 1 ≤ load s i (level_of pol j) → source_verdict pol s gap i j ≡ Doubt (gap i)
  unfolding source_verdict
  test_6 i p q l = go (delay_of pol s gap i j) refl
    where
      go : (r : Settled) → delay_of pol s gap i j ≡ r → settled_verdict (delay_of pol s gap i j) (tail_of pol s j) (gap i) ≡ Doubt (gap i)
      go (unchanged D) e =
          let f = held_fixed pol s gap i j D e in
          absurd (omega (arith, unchanged_above D i p q l f.0, f.1))
      go reached e = rw e

-- a critical link from a source into such a level is doubtful
pub test_6_link : (d : Description) → WellFormed d → (t l : ℕ) → l < d.link_count → (link_at d l).critical ≡ 1 → 33 ≤ (link_at d l).from → Overloaded Preemptive (system d) (spacing_of d t) (link_at d l).to → verdict_at Preemptive d t l ≡ Doubt (spacing_of d t (link_at d l).from)
unfolding verdict_at verdict_of
test_6_link d w t l p c f o =
    rw (ne_eqb (link_at d l).critical 0 (λ e. omega arith), le-ltb (link_at d l).from 33 f)
    (test_6 Preemptive (system d) (spacing_of d t) (link_at d l).to o (link_at d l).from f (source (w.fields.link_from l p)) some)
  where
    source : IsTask (system d) (link_at d l).from ⊎ IsSource (system d) (link_at d l).from → (link_at d l).from < 33 + (system d).sources
    source (inl x) = absurd (omega (arith, x.1, (shaped d w).few))
    source (inr x) = x.1

    some : 1 ≤ load (system d) (link_at d l).from (link_at d l).to
    some =
        let S = shaped d w in
        let L = loaded (system d) S w.no_cycle in
        let j = w.fields.link_to l p in
        omega (arith, load_direct (system d) L S (link_at d l).from (link_at d l).to (link_at_lem d l p), run_whole (system d) L (link_at d l).to, S.runs (link_at d l).to j.0 j.1)

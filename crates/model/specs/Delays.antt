-- "Verdicts", from a source to a task, on both models (C-14): spacings, rounds and the delay. All of it goes by a system and a spacing for each source.
use Rattle.std.specs.Prelude.{ℕ, zero, suc, ◌+◌, ◌-◌, ◌*◌, ◌/◌, max, true, false, ltb, eqb}
use Rattle.model.specs.declared.Source.{Source}
use Rattle.model.specs.declared.Source.TheVariants.{Fixed, Paced, Swung}
use Rattle.model.specs.declared.Description.{Description}
use Rattle.model.specs.declared.Policy.{Policy}
use Rattle.model.specs.declared.Policy.TheVariants.{Preemptive, HoldOn}
use Rattle.model.specs.Basics.{sum_n, top_to}
use Rattle.model.specs.Graph.{System, source_at}
use Rattle.model.specs.Loads.{load}

-- "the spacing becomes 12,000,000 × (100 − swing) / (T × pulses), rounded down" (C-11)
abbrev pub paced_spacing : ℕ → ℕ → ℕ → ℕ
paced_spacing swing p t = 12000000 * (100 - swing) / (t * p)

-- "straight time counting as 50", which is document 01's 600,000,000 / (T × d). "A fixed source ignores the tempo"
unfoldable pub spacing : Source → ℕ → ℕ
spacing (Fixed m) t = m
spacing (Paced p) t = paced_spacing 50 p t
spacing (Swung p swing) t = paced_spacing swing p t

-- the spacing (minimum inter-arrival time) of source u at tempo t
unfoldable pub spacing_of : Description → ℕ → ℕ → ℕ
spacing_of d t u = spacing (source_at d u) t

-- "D divided by u's spacing, rounded up, and at least 1"
unfoldable pub spacings : ℕ → ℕ → ℕ
spacings d m = max 1 ((d + (m - 1)) / m)

-- "start S = the largest load(k, j) over tasks k < j, or 0"; on the hold-on model "D starts as the largest e(k) + load(k, j + 1) over tasks k ≤ j,
-- load(k, n + 1) being 0 for n tasks", as it is: a sum over no task
unfoldable pub start_of : Policy → System → ℕ → ℕ
start_of Preemptive s j = top_to (λ k. load s k j) 1 (j - 1)
start_of HoldOn s j = top_to (λ k. s.run k + load s k (suc j)) 1 j

-- the task whose loads the rounds of task j go by: "load(u, j)", on the hold-on model "load(u, j + 1)"
abbrev pub level_of : Policy → ℕ → ℕ
level_of Preemptive j = j
level_of HoldOn j = suc j

-- "the next D is S plus, over all sources u, load(u, j) × spacings(D, u)"; on the hold-on model "a round adds to that start, over all sources u,
-- load(u, j + 1) × spacings(D, u)"
unfoldable pub round_of : Policy → System → (ℕ → ℕ) → ℕ → ℕ → ℕ
round_of p s gap j d = start_of p s j + sum_n (λ u. load s u (level_of p j) * spacings d (gap u)) 33 s.sources

-- what a delay has beyond its D: nothing, or on the hold-on model the task's own run, "D + e(j) is the delay printed"
abbrev pub tail_of : Policy → System → ℕ → ℕ
tail_of Preemptive s j = 0
tail_of HoldOn s j = s.run j

-- how a working out ends: at the D that a round leaves unchanged, or at one that reaches the limit
pub data Settled : Type 0 where
  unchanged : ℕ → Settled
  reached : Settled

-- rounds from D on; the first number bounds how many
unfoldable pub settle : ℕ → (ℕ → ℕ) → ℕ → ℕ → Settled
settle zero next limit d = reached
settle (suc n) next limit d = elim (ltb d limit) [
  | false ↦ reached
  | true ↦ elim (eqb (next d) d) [ true ↦ unchanged d | false ↦ settle n next limit (next d) ]
]

-- "the first D is S"; "a D that reaches the spacing settles it", on the hold-on model one for which D + e(j) does
unfoldable pub delay_of : Policy → System → (ℕ → ℕ) → ℕ → ℕ → Settled
delay_of p s gap i j = settle (suc (gap i - tail_of p s j)) (round_of p s gap j) (gap i - tail_of p s j) (start_of p s j)

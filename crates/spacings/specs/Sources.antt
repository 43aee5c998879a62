-- A description's sources in plain numbers, from which their spacings are worked out.
use Rattle.std.specs.Prelude.{ℕ, ◌-◌, ◌*◌, ◌/◌, ◌≤◌, ◌<◌, ◌≡◌, true, cond, List, eqb, get_or}
use Rattle.model.specs.declared.Source.{Source}
use Rattle.model.specs.declared.Source.TheVariants.{Fixed, Paced, Swung}
use Rattle.model.specs.declared.Description.{Description}
use Rattle.model.specs.declared.Field.TheVariants.{OfSource}
use Rattle.model.specs.Refusals.{no_source}
use Rattle.model.specs.Field.{on_scale}
use Rattle.spacings.specs.declared.Pace.{Pace}
use Rattle.spacings.specs.declared.Sources.{Sources}

-- a source's ticks: of a paced one what tempo and pulses divide
abbrev pub paced_ticks : ℕ → ℕ
paced_ticks swing = 12000000 * (100 - swing)

abbrev pub ticks_in : Source → ℕ
ticks_in (Fixed m) = m
ticks_in (Paced p) = paced_ticks 50
ticks_in (Swung p swing) = paced_ticks swing

-- a source's pulses, 0 of a fixed one
abbrev pub pulses_in : Source → ℕ
pulses_in (Fixed m) = 0
pulses_in (Paced p) = p
pulses_in (Swung p swing) = p

-- the spacing at a tempo, from these two numbers
abbrev pub spacing_by : ℕ → ℕ → ℕ → ℕ
spacing_by ticks pulses t = cond (eqb pulses 0) ticks (ticks / (t * pulses))

-- those of source 33 + u: its ticks, its pulses, and its spacing at a tempo
abbrev pub no_pace : Pace
no_pace = record { ticks = 0; pulses = 0 }

abbrev pub ticks_at : List Pace → ℕ → ℕ
ticks_at paces u = (get_or paces u no_pace).ticks

abbrev pub pulses_at : List Pace → ℕ → ℕ
pulses_at paces u = (get_or paces u no_pace).pulses

abbrev pub spacing_at : List Pace → ℕ → ℕ → ℕ
spacing_at paces u t = spacing_by (ticks_at paces u) (pulses_at paces u) t

-- they are those of a source on the scale
pub record PlainOf (x : Source) (ticks pulses : ℕ) : Type 0 where
  pub on : on_scale (OfSource x) ≡ true
  pub ticks_are : ticks ≡ ticks_in x
  pub pulses_are : pulses ≡ pulses_in x

-- they are the sources of a description
pub record SourcesOf (d : Description) (s : Sources) : Type 0 where
  pub counted : s.count ≡ d.source_count
  pub at : (u : ℕ) → u < s.count → PlainOf (get_or d.sources u no_source).source (ticks_at s.paces u) (pulses_at s.paces u)

-- at most 16, and each that of some source on the scale
pub record Scaled (s : Sources) : Type 0 where
  pub few : s.count ≤ 16
  pub at : (u : ℕ) → u < s.count → (x : Source) × PlainOf x (ticks_at s.paces u) (pulses_at s.paces u)

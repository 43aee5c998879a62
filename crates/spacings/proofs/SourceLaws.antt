-- Sources in plain numbers: their spacings, and one source after the other. Assumes nothing.
use Prim.Native.Nat.{ℕ, ◌+◌, ◌≤◌, ◌<◌}
use mathlib.Core.Path.{◌≡◌, refl, sym, ◌∙◌}
use mathlib.Core.Bool.{true}
use mathlib.Core.List.{List}
use native.Mathlib.Omega.{arith}
use lib.ListN.{length, get_or, set, replicate, length-set}
use borrow.Author.Tests.{ne_eqb}
use Rattle.model.specs.declared.Source.{Source}
use Rattle.model.specs.declared.Source.TheVariants.{Fixed, Paced, Swung}
use Rattle.model.specs.declared.Description.{Description}
use Rattle.model.specs.declared.Field.TheVariants.{OfSource}
use Rattle.model.specs.Refusals.{no_source}
use Rattle.model.specs.Field.{on_scale}
use Rattle.model.specs.Delays.{spacing}
use Rattle.lemmas.proofs.Table.{stored}
use Rattle.theory.proofs.Spacing.{paced_scale, swung_scale}
use Rattle.spacings.specs.declared.Pace.{Pace}
use Rattle.spacings.specs.Sources.{no_pace, ticks_in, pulses_in, ticks_at, pulses_at, spacing_by, PlainOf}

-- the spacing of a source from its plain numbers
source_spacing : (x : Source) (t : ℕ) → on_scale (OfSource x) ≡ true → spacing x t ≡ spacing_by (ticks_in x) (pulses_in x) t
unfolding spacing
source_spacing (Fixed m) t c = refl
source_spacing (Paced p) t c = rw (ne_eqb p 0 (λ e. omega (arith, (paced_scale p c).0)))
source_spacing (Swung p swing) t c = rw (ne_eqb p 0 (λ e. omega (arith, (swung_scale p swing c).0)))

source_pulses : (x : Source) → on_scale (OfSource x) ≡ true → pulses_in x ≤ 960
source_pulses (Fixed m) c = omega arith
source_pulses (Paced p) c = (paced_scale p c).1
source_pulses (Swung p swing) c = (swung_scale p swing c).1

module _ {x : Source} {ticks pulses : ℕ} (k : PlainOf x ticks pulses) where
  pub plain_spacing : (t : ℕ) → spacing_by ticks pulses t ≡ spacing x t
  plain_spacing t = rw (k.ticks_are, k.pulses_are) (sym (source_spacing x t k.on))

  pub plain_pulses : pulses ≤ 960
  plain_pulses = rw k.pulses_are (source_pulses x k.on)

-- the first n sources
pub record SourcesTo (d : Description) (paces : List Pace) (n : ℕ) : Type 0 where
  pub sized : length paces ≡ 16
  pub at : (u : ℕ) → u < n → PlainOf (get_or d.sources u no_source).source (ticks_at paces u) (pulses_at paces u)

pub sources_none : (d : Description) → SourcesTo d (replicate 16 no_pace) 0
sources_none d = record { sized = refl; at = λ u p. absurd (omega arith) }

pub sources_more : (d : Description) (paces : List Pace) (n : ℕ) (x : Pace) → n < 16 → PlainOf (get_or d.sources n no_source).source x.ticks x.pulses → SourcesTo d paces n → SourcesTo d (set paces n x) (n + 1)
sources_more d paces n x h k r =
    record {
      sized = length-set paces n x ∙ r.sized;
      at = stored (λ i y. PlainOf (get_or d.sources i no_source).source y.ticks y.pulses) no_pace paces n x (omega (arith, r.sized)) r.at k;
    }

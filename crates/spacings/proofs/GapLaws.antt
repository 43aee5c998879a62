-- Laws of a table of spacings. Assumes nothing.
use Prim.Native.Nat.{ℕ, ◌+◌, ◌-◌, ◌≤◌, ◌<◌}
use mathlib.Core.Path.{◌≡◌, refl, sym, ap, ◌∙◌}
use mathlib.Core.Bool.{true}
use mathlib.Core.List.{List}
use native.Mathlib.Omega.{arith}
use lib.ListN.{length, get_or, set, replicate}
use lib.Seq.{get_or-set_same, get_or-set_other}
use Rattle.model.specs.declared.Source.{Source}
use Rattle.model.specs.declared.Description.{Description}
use Rattle.model.specs.declared.Field.TheVariants.{OfSource}
use Rattle.model.specs.Refusals.{no_source}
use Rattle.model.specs.Field.{on_scale}
use Rattle.model.specs.Delays.{spacing, spacing_of}
use Rattle.model.specs.Verdicts.{on_knob}
use Rattle.lemmas.proofs.Tests.{at_or_not, within}
use Rattle.lemmas.proofs.Table.{stored, get_d_same}
use Rattle.theory.proofs.WellFormed.{WellFormed}
use Rattle.theory.proofs.Spacing.{spacing_some, spacing_most}
use Rattle.spacings.specs.declared.Sources.{Sources}
use Rattle.spacings.specs.Sources.{ticks_at, pulses_at, spacing_by, spacing_at, PlainOf, SourcesOf, Scaled}
use Rattle.spacings.specs.Gaps.{Room, Fit, GapsBy, GapsOf}
use Rattle.spacings.proofs.SourceLaws.{plain_spacing}

-- the spacings of the first n sources
pub record GapsTo (s : Sources) (t n : ℕ) (gaps : List ℕ) : Type 0 where
  pub sized : length gaps ≡ 16
  pub at : (u : ℕ) → u < n → get_or gaps u 0 ≡ spacing_at s.paces u t
  pub fit : Fit n gaps

pub zeros_most : (n j : ℕ) → get_or (replicate n 0) j 0 ≤ 1000000000
zeros_most n j = rw (get_d_same {A = ℕ} n j 0) (omega arith)

pub zeros_room : Room (replicate 16 0)
zeros_room = record { sized = refl; most = zeros_most 16 }

pub gaps_none : (s : Sources) (t : ℕ) (gaps : List ℕ) → Room gaps → GapsTo s t 0 gaps
gaps_none s t gaps r = record { sized = r.sized; at = λ u p. absurd (omega arith); fit = record { some = λ u p. absurd (omega arith); most = r.most } }

pub gaps_more : (s : Sources) (t n v : ℕ) (gaps : List ℕ) → 1 ≤ t → t ≤ 3000 → n < 16 → (x : Source) → PlainOf x (ticks_at s.paces n) (pulses_at s.paces n) → v ≡ spacing_at s.paces n t → length (set gaps n v) ≡ length gaps → GapsTo s t n gaps → GapsTo s t (n + 1) (set gaps n v)
gaps_more s t n v gaps lo hi h x k e z r =
    let is : v ≡ spacing x t = e ∙ plain_spacing k t in
    record {
      sized = z ∙ r.sized;
      at = stored (λ i y. y ≡ spacing_at s.paces i t) 0 gaps n v (omega (arith, r.sized)) r.at e;
      fit = record {
        some = stored (λ i y. 1 ≤ y) 0 gaps n v (omega (arith, r.sized)) r.fit.some (rw is (spacing_some x t k.on lo hi));
        most = λ j. at_or_not (λ i. get_or (set gaps n v) i 0 ≤ 1000000000) n j
            (rw (get_or-set_same gaps n v 0 (omega (arith, r.sized)), is) (spacing_most x t k.on))
            (λ ne. rw (get_or-set_other gaps n j v 0 ne) (r.fit.most j));
      };
    }

-- source 33 + u stands at place u
gap_place : (d : Description) (t u : ℕ) → spacing (get_or d.sources u no_source).source t ≡ spacing_of d t (33 + u)
unfolding spacing_of
gap_place d t u =
    let e : 33 + u - 33 ≡ u = omega arith in
    ap (λ (k : ℕ). spacing (get_or d.sources k no_source).source t) (sym e)

-- the numbers of a description's source have its spacings
pub plain_gap : (d : Description) (t u ticks pulses : ℕ) → PlainOf (get_or d.sources u no_source).source ticks pulses → spacing_by ticks pulses t ≡ spacing_of d t (33 + u)
plain_gap d t u ticks pulses k = plain_spacing k t ∙ gap_place d t u

pub gap_of : (d : Description) (s : Sources) (t u : ℕ) → SourcesOf d s → u < d.source_count → spacing_at s.paces u t ≡ spacing_of d t (33 + u)
gap_of d s t u h p = plain_gap d t u (ticks_at s.paces u) (pulses_at s.paces u) (h.at u (omega (arith, h.counted)))

pub gaps_of : (d : Description) (s : Sources) (t : ℕ) (gaps : List ℕ) → SourcesOf d s → GapsBy s t gaps → GapsOf d t gaps
gaps_of d s t gaps h b =
    record {
      at = λ u p. b.at u (omega (arith, h.counted)) ∙ gap_of d s t u h p;
      fit = rw h.counted at b.fit;
    }

-- and are on the scale
pub scaled_of : (d : Description) (s : Sources) → WellFormed d → SourcesOf d s → Scaled s
scaled_of d s g h = record { few = omega (arith, h.counted, g.fields.few_sources); at = λ u p. ((get_or d.sources u no_source).source, h.at u p) }

-- a source of a description is on the scale
pub source_on : (d : Description) (u : ℕ) → WellFormed d → u < d.source_count → on_scale (OfSource (get_or d.sources u no_source).source) ≡ true
source_on d u g p =
    let w : 33 + u - 33 ≡ u = omega arith in
    ap (λ (i : ℕ). on_scale (OfSource (get_or d.sources i no_source).source)) (sym w) ∙ g.fields.source_scale (33 + u) (omega arith) (omega arith)

-- a tempo on the knob
pub knob_is : (t : ℕ) → on_knob t ≡ true → (200 ≤ t) × (t ≤ 3000)
knob_is t e = within 200 t 3000 e

use mathlib.Core.Path.{◌≡◌, refl}
use lib.ListN.{length}
use Rattle.theory.proofs.Typed.{typed_sized}
use native.Mathlib.Omega.{arith}
use Rattle.lemmas.proofs.Front.{front_below, front_at, front_all}
use Rattle.model.specs.Refusals.{no_source}
use Rattle.spacings.proofs.GapLaws.{source_on}
use Rattle.spacings.proofs.SourceLaws.{sources_none, sources_more}
use Rattle.spacings.proofs.sources_of.Goals as goal

pub loop-u-init : goal.loop-u-init
loop-u-init c = sources_none c.args.d

pub ticks_in-requires : goal.ticks_in-requires
ticks_in-requires c =
    let d = c.args.d in
    let L = c.loop-u in
    rw (front_at d.source_count d.sources L.u no_source c.loop-u-test.true)
    (source_on d L.u c.requires (front_below d.source_count d.sources L.u c.loop-u-test.true))

pub loop-u-preserved : goal.loop-u-preserved
loop-u-preserved c =
    let d = c.args.d in
    let L = c.loop-u in
    let here = front_at d.source_count d.sources L.u no_source c.loop-u-test.true in
    let below = front_below d.source_count d.sources L.u c.loop-u-test.true in
    sources_more d L.paces L.u _ (omega (arith, below, c.requires.fields.few_sources))
    (record { on = source_on d L.u c.requires below; ticks_are = rw here at c.ticks_in.ensures; pulses_are = rw here at c.pulses_in.ensures })
    L.invariant

pub returns : goal.returns
returns c =
    let d = c.args.d in
    let z : length d.sources ≡ 16 = (typed_sized d _ c.well_formed.0).sources in
    record { counted = refl; at = λ u p. c.loop-u.invariant.at u (omega (arith, front_all d.source_count d.sources c.loop-u.u (omega (arith, z, c.requires.fields.few_sources)) c.loop-u-test.false)) }

use mathlib.Core.Path.{◌≡◌}
use native.Mathlib.Omega.{arith}
use Rattle.model.specs.Graph.{link_at}
use Rattle.lemmas.proofs.Front.{link_below, link_here, links_met}
use Rattle.theory.proofs.Links.{from_most, to_most}
use Rattle.theory.proofs.Typed.{typed_sized}
use Rattle.verdicts.proofs.LevelSteps.{critical_none, critical_more}
use Rattle.verdicts.proofs.level.critical_of.Goals as goal

pub loop-link-init : goal.loop-link-init
loop-link-init c = critical_none c.args.d

pub bounds-sets-at : goal.bounds-sets-at
bounds-sets-at c =
    let d = c.args.d in
    let l = c.loop-link.link-index in
    let h = c.loop-link-test.true in
    let e : c.from-at.result ≡ (link_at d l).to = rw (link_here d l h) at c.from-at.ensures in
    omega (arith, to_most d c.requires.fields l (link_below d l h))

pub with_source-requires : goal.with_source-requires
with_source-requires c =
    let d = c.args.d in
    let l = c.loop-link.link-index in
    let h = c.loop-link-test.true in
    rw (link_here d l h) (from_most d c.requires.fields l (link_below d l h))

pub bounds-sets-at-in-loop-link : goal.bounds-sets-at-in-loop-link
bounds-sets-at-in-loop-link c =
    let d = c.args.d in
    let l = c.loop-link.link-index in
    let h = c.loop-link-test.true in
    let e : c.from-at.result ≡ (link_at d l).to = rw (link_here d l h) at c.from-at.ensures in
    omega (arith, to_most d c.requires.fields l (link_below d l h))

pub loop-link-preserved : goal.loop-link-preserved
loop-link-preserved c =
    let L = c.loop-link in
    let d = c.args.d in
    let l = L.link-index in
    let h = c.loop-link-test.true in
    let e : c.from-at.result ≡ (link_at d l).to = rw (link_here d l h) at c.from-at.ensures in
    let k = to_most d c.requires.fields l (link_below d l h) in
    rw e (critical_more d L.sets l c.with_source.result k.0 k.1 (rw (e, link_here d l h) at c.with_source.ensures) L.invariant)

pub returns : goal.returns
returns c =
    let L = c.loop-link in
    let d = c.args.d in
    let e = links_met d L.link-index (typed_sized d _ c.well_formed.0).links c.requires.fields.few_links L.auto.link-index-end c.loop-link-test.false in
    (rw e at L.invariant).at

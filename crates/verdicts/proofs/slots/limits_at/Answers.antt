use mathlib.Core.Path.{◌≡◌, refl}
use native.Mathlib.Omega.{arith}
use Rattle.model.specs.Graph.{link_at}
use Rattle.lemmas.proofs.Front.{link_below, link_here, links_met}
use Rattle.theory.proofs.Links.{from_most, to_most}
use Rattle.theory.proofs.Typed.{typed_sized}
use Rattle.spacings.proofs.GapLaws.{zeros_most}
use Rattle.verdicts.proofs.LimitLaws.{limits_more, limits_done}
use Rattle.verdicts.proofs.slots.limits_at.Goals as goal

pub loop-link-init : goal.loop-link-init
loop-link-init c = record { sized = refl; covers = λ l p. absurd (omega arith); most = zeros_most 32 }

pub bounds-limits-at : goal.bounds-limits-at
bounds-limits-at c =
    let d = c.args.d in
    let l = c.loop-link.link-index in
    let h = c.loop-link-test.true in
    let e : c.from-at.result ≡ (link_at d l).to = rw (link_here d l h) at c.from-at.ensures in
    omega (arith, to_most d c.requires.0.fields l (link_below d l h))

pub limit_by-requires : goal.limit_by-requires
limit_by-requires c =
    let d = c.args.d in
    let l = c.loop-link.link-index in
    let h = c.loop-link-test.true in
    rw (link_here d l h) (from_most d c.requires.0.fields l (link_below d l h))

pub bounds-limits-at-in-loop-link : goal.bounds-limits-at-in-loop-link
bounds-limits-at-in-loop-link c =
    let d = c.args.d in
    let l = c.loop-link.link-index in
    let h = c.loop-link-test.true in
    let e : c.from-at.result ≡ (link_at d l).to = rw (link_here d l h) at c.from-at.ensures in
    omega (arith, to_most d c.requires.0.fields l (link_below d l h))

pub loop-link-preserved : goal.loop-link-preserved
loop-link-preserved c =
    let L = c.loop-link in
    let d = c.args.d in
    let l = L.link-index in
    let h = c.loop-link-test.true in
    let e : c.from-at.result ≡ (link_at d l).to = rw (link_here d l h) at c.from-at.ensures in
    rw (c.max.ensures, c.limit_by.ensures, link_here d l h, e) (limits_more d c.args.gaps.now L.limits l c.requires.0 c.requires.1 (link_below d l h) L.invariant)

pub returns : goal.returns
returns c =
    let L = c.loop-link in
    let d = c.args.d in
    let e = links_met d L.link-index (typed_sized d _ c.well_formed.0).links c.requires.0.fields.few_links L.auto.link-index-end c.loop-link-test.false in
    limits_done d c.args.gaps.now L.limits (rw e at L.invariant)

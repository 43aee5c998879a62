use Prim.Native.Nat.{◌-◌}
use mathlib.Core.Path.{◌≡◌, refl, ap, ◌∙◌}
use native.Mathlib.Omega.{arith}
use lib.ListN.{length-set, get_or-replicate}
use Rattle.model.specs.Basics.{any_n}
use Rattle.model.specs.Graph.{linked, link_at}
use Rattle.lemmas.proofs.Front.{link_below, link_here, links_met}
use Rattle.sets.specs.Sets.{member}
use Rattle.theory.proofs.Links.{linked_to, ends_inside}
use Rattle.theory.proofs.Typed.{typed_sized}
use Rattle.sets.proofs.SetLaws.{member_none}
use Rattle.neighbourhoods.proofs.IntoLaws.{into_more}
use Rattle.neighbourhoods.proofs.into.predecessors.Goals as goal

pub loop-link-init : goal.loop-link-init
unfolding any_n linked_to
loop-link-init c = (refl, λ i j p. ap (λ s. member s (i - 1)) (get_or-replicate 32 (j - 1) 0 0 (omega (arith, p.2, p.3))) ∙ member_none (i - 1))

pub bounds-into-at : goal.bounds-into-at
bounds-into-at c =
    let h = c.loop-link-test.true in
    let l = c.loop-link.link-index in
    let e : c.from-at.result ≡ (link_at c.args.d l).to = rw (link_here c.args.d l h) at c.from-at.ensures in
    omega (arith, ends_inside c.args.d c.requires l (link_below c.args.d l h))

pub with-requires : goal.with-requires
with-requires c =
    let h = c.loop-link-test.true in
    let l = c.loop-link.link-index in
    let e : c.from.result ≡ (link_at c.args.d l).from = rw (link_here c.args.d l h) at c.from.ensures in
    omega (arith, ends_inside c.args.d c.requires l (link_below c.args.d l h))

pub bounds-into-at-in-loop-link : goal.bounds-into-at-in-loop-link
bounds-into-at-in-loop-link c =
    let h = c.loop-link-test.true in
    let l = c.loop-link.link-index in
    let e : c.from-at.result ≡ (link_at c.args.d l).to = rw (link_here c.args.d l h) at c.from-at.ensures in
    omega (arith, ends_inside c.args.d c.requires l (link_below c.args.d l h))

pub loop-link-preserved : goal.loop-link-preserved
loop-link-preserved c =
    let L = c.loop-link in
    let d = c.args.d in
    let l = L.link-index in
    let h = c.loop-link-test.true in
    let e1 : c.from-at.result ≡ (link_at d l).to = rw (link_here d l h) at c.from-at.ensures in
    let e2 : c.from.result ≡ (link_at d l).from = rw (link_here d l h) at c.from.ensures in
    (simp length-set L.invariant.0, rw e1 (into_more d L.into l c.with.result L.invariant.0 (ends_inside d c.requires l (link_below d l h)) (rw (e1, e2) at c.with.ensures) L.invariant.1))

pub returns : goal.returns
unfolding linked linked_to
returns c =
    let L = c.loop-link in
    let d = c.args.d in
    let e = links_met d L.link-index (typed_sized d _ c.well_formed.0).links c.requires.few_links L.auto.link-index-end c.loop-link-test.false in
    λ i j p q r s. L.invariant.1 i j (p, q, r, s) ∙ ap (λ n. linked_to d n i j) e

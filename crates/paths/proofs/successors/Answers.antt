use native.Mathlib.Omega.{arith}
use Prim.Native.Nat.{◌-◌}
use mathlib.Core.Path.{◌≡◌, refl, ap, ◌∙◌}
use lib.ListN.{length-set, get_or-replicate}
use Rattle.model.specs.Basics.{any_n}
use Rattle.model.specs.Graph.{linked, link_at}
use Rattle.lemmas.proofs.Front.{link_below, link_here, links_met}
use Rattle.sets.specs.Sets.{member}
use Rattle.theory.proofs.Links.{linked_to, ends_inside}
use Rattle.theory.proofs.Typed.{typed_sized}
use Rattle.sets.proofs.SetLaws.{member_none}
use Rattle.paths.proofs.Tabled.{sets_more}
use Rattle.paths.proofs.successors.Goals as goal

pub loop-link-init : goal.loop-link-init
unfolding any_n linked_to
loop-link-init c = (refl, λ i j p. ap (λ x. member x (j - 1)) (get_or-replicate 48 (i - 1) 0 0 (omega arith)) ∙ member_none (j - 1))

pub bounds-succ-from : goal.bounds-succ-from
bounds-succ-from c =
    let h = c.loop-link-test.true in
    let l = c.loop-link.link-index in
    let e1 : c.from-from.result ≡ (link_at c.args.d l).from = rw (link_here c.args.d l h) at c.from-from.ensures in
    omega (arith, ends_inside c.args.d c.requires l (link_below c.args.d l h))

pub with-requires : goal.with-requires
with-requires c =
    let h = c.loop-link-test.true in
    let l = c.loop-link.link-index in
    let e2 : c.from-to.result ≡ (link_at c.args.d l).to = rw (link_here c.args.d l h) at c.from-to.ensures in
    omega (arith, ends_inside c.args.d c.requires l (link_below c.args.d l h))

pub bounds-succ-from-in-loop-link : goal.bounds-succ-from-in-loop-link
bounds-succ-from-in-loop-link c =
    let h = c.loop-link-test.true in
    let l = c.loop-link.link-index in
    let e1 : c.from-from.result ≡ (link_at c.args.d l).from = rw (link_here c.args.d l h) at c.from-from.ensures in
    omega (arith, ends_inside c.args.d c.requires l (link_below c.args.d l h))

pub loop-link-preserved : goal.loop-link-preserved
loop-link-preserved c =
    let L = c.loop-link in
    let l = L.link-index in
    let h = c.loop-link-test.true in
    let p = ends_inside c.args.d c.requires l (link_below c.args.d l h) in
    let e1 : c.from-from.result ≡ (link_at c.args.d l).from = rw (link_here c.args.d l h) at c.from-from.ensures in
    let e2 : c.from-to.result ≡ (link_at c.args.d l).to = rw (link_here c.args.d l h) at c.from-to.ensures in
    (simp length-set L.invariant.0, rw e1 (sets_more c.args.d L.succ l c.with.result L.invariant.0 p (rw (e1, e2) at c.with.ensures) L.invariant.1))

pub returns : goal.returns
unfolding linked linked_to
returns c =
    let L = c.loop-link in
    let d = c.args.d in
    let e = links_met d L.link-index (typed_sized d _ c.well_formed.0).links c.requires.few_links L.auto.link-index-end c.loop-link-test.false in
    λ i j p. L.invariant.1 i j p ∙ ap (λ n. linked_to d n i j) e

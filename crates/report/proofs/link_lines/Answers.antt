use Prim.Native.Nat.{◌+◌}
use mathlib.Core.Path.{refl, sym, ◌∙◌}
use mathlib.Core.List.{[]}
use native.Mathlib.Omega.{arith}
use Rattle.lemmas.proofs.Front.{link_below, link_here, links_met}
use Rattle.theory.proofs.Typed.{typed_sized}
use Rattle.report.specs.Listing.{line_at, listing}
use Rattle.text.proofs.Pages.{put_none, put_then, put_same}
use Rattle.report.proofs.ReportLaws.{listing_none, listing_more, listing_room}
use Rattle.report.proofs.link_lines.Goals as goal

pub loop-l-init : goal.loop-l-init
loop-l-init c = (refl, put_same [] (listing c.args.d c.args.slots 0) (listing_none c.args.d c.args.slots) (put_none c.args.page.now.bytes.now c.args.page.now.end))

pub link_line-requires : goal.link_line-requires
link_line-requires c =
    let L = c.loop-l in
    let d = c.args.d in
    let h = c.loop-l-test.true in
    let below = link_below d L.l h in
    rw (link_here d L.l h)
    (omega (arith, c.requires.0, below), omega (arith, c.requires.1, L.invariant.1.put_end, L.invariant.1.put_size, listing_room d c.args.slots d.link_count L.l below))

pub loop-l-preserved : goal.loop-l-preserved
loop-l-preserved c =
    let L = c.loop-l in
    let d = c.args.d in
    let line = rw (link_here d L.l c.loop-l-test.true) at c.link_line.ensures.text in
    (c.link_line.ensures.in_place ∙ L.invariant.0, put_same _ (listing d c.args.slots (L.l + 1)) (sym (listing_more d c.args.slots L.l)) (put_then (listing d c.args.slots L.l) (line_at d c.args.slots L.l) L.invariant.1 line))

pub returns-clause-text : goal.returns-clause-text
returns-clause-text c =
    let L = c.loop-l in
    let d = c.args.d in
    let e = links_met d L.l (typed_sized d _ c.well_formed.1.0).links c.requires.0 L.auto.l-end c.loop-l-test.false in
    rw e at L.invariant.1

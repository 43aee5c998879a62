use native.Mathlib.Omega.{arith}
use lib.ListN.{length-set}
use Rattle.lemmas.proofs.Front.{front_below, front_at}
use Rattle.spacings.specs.Sources.{no_pace}
use Rattle.spacings.proofs.SourceLaws.{plain_pulses}
use Rattle.spacings.proofs.GapLaws.{gaps_more}
use Rattle.spacings.proofs.fill_gaps.Goals as goal

pub spacing_by-requires : goal.spacing_by-requires
spacing_by-requires c =
    let p = c.requires in
    let s = c.args.s.now in
    let u = c.loop-u.u in
    rw (front_at s.count s.paces u no_pace c.loop-u-test.true)
    (plain_pulses (p.0.at u (front_below s.count s.paces u c.loop-u-test.true)).1, omega (arith, p.1), omega (arith, p.2))

pub loop-u-preserved : goal.loop-u-preserved
loop-u-preserved c =
    let p = c.requires in
    let s = c.args.s.now in
    let L = c.loop-u in
    let below = front_below s.count s.paces L.u c.loop-u-test.true in
    let plain = p.0.at L.u below in
    gaps_more s c.args.t L.u c.spacing_by.result L.gaps (omega (arith, p.1)) p.2 (omega (arith, below, p.0.few)) plain.0 plain.1
    (rw (front_at s.count s.paces L.u no_pace c.loop-u-test.true) at c.spacing_by.ensures)
    (length-set L.gaps L.u c.spacing_by.result)
    L.invariant

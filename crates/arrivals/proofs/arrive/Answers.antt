use Prim.Native.Nat.{◌+◌, ◌<◌}
use mathlib.Core.Path.{refl, ap, ◌∙◌}
use native.Mathlib.Omega.{arith}
use lib.ListN.{set}
use Rattle.model.specs.Machine.{arrive}
use Rattle.model.specs.Run.{marks_in}
use Rattle.words.specs.declared.Words.{Words}
use Rattle.arrivals.specs.Arrivals.{Stored}
use Rattle.arrivals.proofs.MaskLaws.{Turn, rest_all, rest_under, least, turn}
use Rattle.arrivals.proofs.TempoLaws.{tempos_hold}
use Rattle.arrivals.proofs.ArriveLaws.{stored_none, stored_more, stored_since, stored_then, stored_all, joined_one, joined_more, all_arrived}
use Rattle.arrivals.proofs.arrive.Goals as goal

pub bounds-rows-one : goal.bounds-rows-one
bounds-rows-one c =
    -- the first source of the mask
    let own : c.first-one.result < 16 = omega (arith, least c.args.mask 0 c.args.mask c.first-one.result c.requires.1 (rest_all c.args.mask) c.first-one.ensures) in
    omega (arith, own)

pub bounds-rows-one-2 : goal.bounds-rows-one-2
bounds-rows-one-2 c =
    let own : c.first-one.result < 16 = omega (arith, least c.args.mask 0 c.args.mask c.first-one.result c.requires.1 (rest_all c.args.mask) c.first-one.ensures) in
    omega (arith, own)

pub bounds-since-one : goal.bounds-since-one
bounds-since-one c =
    let own : c.first-one.result < 16 = omega (arith, least c.args.mask 0 c.args.mask c.first-one.result c.requires.1 (rest_all c.args.mask) c.first-one.ensures) in
    omega (arith, c.requires.2, own)

pub bounds-fastest-one : goal.bounds-fastest-one
bounds-fastest-one c =
    let own : c.first-one.result < 16 = omega (arith, least c.args.mask 0 c.args.mask c.first-one.result c.requires.1 (rest_all c.args.mask) c.first-one.ensures) in
    omega (arith, c.fold.ensures.many, own)

pub loop-rest-init : goal.loop-rest-init
loop-rest-init c =
    let first-turn : Turn c.args.mask 0 c.first-one.result c.rest-rest.result = turn c.args.mask 0 c.args.mask c.first-one.result c.rest-rest.result c.requires.1 (rest_all c.args.mask) c.first-one.ensures c.rest-rest.ensures in
    let first-since : Stored c.args.mask (c.first-one.result + 1) c.args.w.tick c.args.since.now (set c.args.since.now c.first-one.result c.args.w.tick) = stored_more c.args.mask 0 c.args.w.tick _ _ c.first-one.result c.rest-rest.result first-turn (stored_none c.args.mask c.args.w.tick _ c.requires.2) in
    let first-fastest : Stored c.args.mask (c.first-one.result + 1) c.args.t c.fold.new.fastest (set c.fold.new.fastest c.first-one.result c.args.t) = stored_more c.args.mask 0 c.args.t _ _ c.first-one.result c.rest-rest.result first-turn (stored_none c.args.mask c.args.t _ c.fold.ensures.many) in
    let A = c.args in
    let u = c.first-one.result in
    let T = first-turn in (
      u + 1,
      omega (arith, T.within),
      T.after,
      joined_one A.rows.now A.mask u c.rest-rest.result T,
      stored_since A.mask (u + 1) A.w.tick _ _ first-since,
      stored_since A.mask (u + 1) A.t _ _ first-fastest,
    )

pub loop-rest-preserved : goal.loop-rest-preserved
loop-rest-preserved c =
    let A = c.args in
    let L = c.loop-rest in
    let u = c.first-u.result in
    let T = turn A.mask L.invariant.0 L.rest u c.rest-rest-in-loop-rest.result c.requires.1 L.invariant.2 c.first-u.ensures c.rest-rest-in-loop-rest.ensures in (
      u + 1,
      omega (arith, T.within),
      T.after,
      joined_more A.rows.now A.mask L.invariant.0 L.out c.union-out.result L.wakes c.union-wakes.result u c.rest-rest-in-loop-rest.result T c.union-out.ensures c.union-wakes.ensures L.invariant.3,
      stored_more A.mask L.invariant.0 A.w.tick _ L.since u c.rest-rest-in-loop-rest.result T L.invariant.4,
      stored_more A.mask L.invariant.0 A.t _ L.fastest u c.rest-rest-in-loop-rest.result T L.invariant.5,
    )

pub returns : goal.returns
returns c =
    let first-turn : Turn c.args.mask 0 c.first-one.result c.rest-rest.result = turn c.args.mask 0 c.args.mask c.first-one.result c.rest-rest.result c.requires.1 (rest_all c.args.mask) c.first-one.ensures c.rest-rest.ensures in
    let first-since : Stored c.args.mask (c.first-one.result + 1) c.args.w.tick c.args.since.now (set c.args.since.now c.first-one.result c.args.w.tick) = stored_more c.args.mask 0 c.args.w.tick _ _ c.first-one.result c.rest-rest.result first-turn (stored_none c.args.mask c.args.w.tick _ c.requires.2) in
    let first-fastest : Stored c.args.mask (c.first-one.result + 1) c.args.t c.fold.new.fastest (set c.fold.new.fastest c.first-one.result c.args.t) = stored_more c.args.mask 0 c.args.t _ _ c.first-one.result c.rest-rest.result first-turn (stored_none c.args.mask c.args.t _ c.fold.ensures.many) in
    let A = c.args in
    let L = c.loop-rest in
    let r = c.at_tempos in
    let under = rest_under A.mask L.invariant.0 L.rest L.invariant.2 c.loop-rest-test.false in
    let kept = stored_then A.mask _ 16 A.t _ _ L.fastest first-fastest (stored_all A.mask L.invariant.0 A.t _ L.fastest under L.invariant.5) in
    let since = stored_then A.mask _ 16 A.w.tick _ _ L.since first-since (stored_all A.mask L.invariant.0 A.w.tick _ L.since under L.invariant.4) in
    record {
      arrived = λ d used m g rows k h. tempos_hold d A.t A.t c.send.result r.result used L.since (arrive d (marks_in A.mask) m) r.ensures (all_arrived d A.rows.now A.mask L.invariant.0 A.w.tick _ L.since L.out L.wakes L.invariant.3 since under g rows k A.w c.send.result used m refl c.send.ensures h);
      many = kept.many;
      fired = kept.here;
      others = λ a u p e. kept.others u e ∙ c.fold.ensures.raised a u p;
      then = ap (λ (x : Words). x.tick) r.ensures ∙ c.send.ensures.then;
      knob = (ap (λ (x : Words). x.low) r.ensures, ap (λ (x : Words). x.peak) r.ensures);
      runs = ap (λ (x : Words). x.running) r.ensures ∙ c.send.ensures.runs;
    }

-- Turn by turn: what the run keeps is one record, and a call, the calls that are passed and the end are laws over it.
use Prim.Native.Nat.{◌+◌, ◌-◌, ◌/◌, ◌≤◌, ◌<◌}
use mathlib.Core.Path.{◌≡◌, refl, sym, ap, subst, ◌∙◌}
use mathlib.Core.List.{◌++◌}
use native.Mathlib.Omega.{arith}
use native.Mathlib.Nat.{div-mul-le_self}
use lib.ListN.{length, get_or, take, drop, set, length-set}
use lib.Seq.{take_all}
use Rattle.model.specs.Machine.{idle}
use Rattle.model.specs.History.{left}
use Rattle.model.specs.Run.{calls_in, page}
use Rattle.sets.specs.Sets.{member}
use Rattle.sets.proofs.SetLaws.{member_none}
use Rattle.arrivals.proofs.MaskLaws.{sourced}
use Rattle.records.proofs.RecordLaws.{begun, none_going, none_kept}
use Rattle.words.specs.declared.Words.{Words}
use Rattle.machine.specs.Calls.{Tracks}
use Rattle.machine.proofs.CallLaws.{raised_same}
use Rattle.machine.proofs.TableLaws.{tables_of}
use Rattle.runs.proofs.RunLaws.{calls_length, codes_length, ran_short, ran_whole, filled_short, filled_whole, kept}
use Rattle.runs.proofs.SkipLaws.{passed_on, passed_along}
use Rattle.runs.proofs.TurnLaws.{Ran, turned, next_runs, roomy}
use Rattle.runs.proofs.run_wired.Goals as goal

pub returns-then-outcomes-n : goal.returns-then-outcomes-n
returns-then-outcomes-n c =
    λ d r s g j.
    let h : length c.args.outcomes.now < length (calls_in c.args.calls.now) = omega (arith, c.if-outcomes-n.true, calls_length c.args.calls.now) in
    (c.refused.ensures ∙ rw c.blank_machine.ensures (ran_short c.args.p d (calls_in c.args.calls.now) c.args.outcomes.now h), filled_short c.args.p d (calls_in c.args.calls.now) c.args.outcomes.now h)

pub loop-i-init : goal.loop-i-init
unfolding left
loop-i-init c = record {
  before = omega arith;
  sized = refl;
  early = omega (arith, c.begin-words.ensures.first);
  head = c.peek-head.ensures;
  ran = record { at = λ d r s g j. (record { holds = begun d c.begin-words.result _ c.since_of-since.result r.formed c.begin-words.ensures g c.since_of-since.ensures; goes = none_going c.args.p c.begin-words.result c.begin-words.ensures; keeps = none_kept d c.begin-words.result c.begin-words.ensures }, refl) };
}

pub advance-done-requires : goal.advance-done-requires
advance-done-requires c =
    let L = c.loop-i in
    let q = c.requires in
    let m = left c.args.p q.description (idle q.description) (take L.i (calls_in c.args.calls.now)) in
    record {
      description = q.description;
      machine = m;
      judged = q.judged;
      tables = tables_of q.description c.args.w c.args.s q.wired q.same_sources;
      tracks = (L.invariant.ran.at q.description q.wired q.same_sources q.spaced q.judged).0;
      keeps = kept c.args.p q.description (take L.i (calls_in c.args.calls.now)) m q.wired.formed refl;
      sourced = sourced c.mask_in.result c.mask_in.ensures.1;
      fits = omega (arith, c.mask_in.ensures.1);
      early = omega (arith, L.invariant.early, c.loop-i-test.true, div-mul-le_self (length c.args.calls.now) 6);
    }

pub skip-to-requires : goal.skip-to-requires
skip-to-requires c =
    let A = c.args in
    let L = c.loop-i in
    let room : length A.calls.now / 6 ≤ length A.outcomes.now = omega (arith, c.if-outcomes-n.false) in
    let v = c.advance-done in
    let turn : Ran A.p A.w A.s A.longest A.calls.now A.outcomes.now (L.i + 1) v.result.words v.new.used v.new.since v.new.fastest (set L.outcomes L.i c.code.result) = turned c.loop-i-test.true room (L.invariant.head c.loop-i-test.true) c.mask_in.ensures.0 c.tempo_in.ensures c.code.ensures v.ensures L.invariant.ran in
    let q = c.requires in
    let R = (turn.at q.description q.wired q.same_sources q.spaced q.judged).0 in
    (omega (arith, c.loop-i-test.true), omega (arith, div-mul-le_self (length A.calls.now) 6), omega (arith, room, L.invariant.sized, length-set L.outcomes L.i c.code.result), R.keeps.least, R.keeps.high)

-- no task is awake
pub loop-i-preserved-then-awake-eq0 : goal.loop-i-preserved-then-awake-eq0
loop-i-preserved-then-awake-eq0 c =
    let A = c.args in
    let L = c.loop-i in
    let room : length A.calls.now / 6 ≤ length A.outcomes.now = omega (arith, c.if-outcomes-n.false) in
    let v = c.advance-done in
    let turn : Ran A.p A.w A.s A.longest A.calls.now A.outcomes.now (L.i + 1) v.result.words v.new.used v.new.since v.new.fastest (set L.outcomes L.i c.code.result) = turned c.loop-i-test.true room (L.invariant.head c.loop-i-test.true) c.mask_in.ensures.0 c.tempo_in.ensures c.code.ensures v.ensures L.invariant.ran in
    let k = c.skip-to.ensures in
    let to = c.skip-to.result in
    let cs = calls_in A.calls.now in
    record {
      before = k.most;
      sized = k.sized ∙ (length-set L.outcomes L.i c.code.result ∙ L.invariant.sized);
      early = omega (arith, ap (λ (x : Words). x.tick) c.later-words.ensures, v.ensures.soon, L.invariant.early, k.on);
      head = c.peek-head-then-awake-eq0.ensures;
      ran = record {
        at = λ d r s g j.
            let made = turn.at d r s g j in
            let n = passed_on A.p d r.formed j A.calls.now v.new.used v.new.since v.new.fastest v.result.words L.i to (λ j. sym (c.union-awake.ensures j) ∙ ap (λ x. member x j) c.if-awake-eq0.true ∙ member_none j) k.on k.most k.quiet made.0 in
            (subst (λ (x : Words). Tracks A.p d x v.new.used v.new.since v.new.fastest (left A.p d (idle d) (take to cs))) (sym c.later-words.ensures) n.0, k.stored (page A.p d cs) A.outcomes.now (omega (arith, k.most, codes_length A.p d cs (idle d), calls_length A.calls.now)) (omega (arith, k.most, room)) n.1 made.1);
      };
    }

-- none is part done
pub loop-i-preserved-then-next-eq0 : goal.loop-i-preserved-then-next-eq0
loop-i-preserved-then-next-eq0 c =
    let A = c.args in
    let L = c.loop-i in
    let room : length A.calls.now / 6 ≤ length A.outcomes.now = omega (arith, c.if-outcomes-n.false) in
    let v = c.advance-done in
    let turn : Ran A.p A.w A.s A.longest A.calls.now A.outcomes.now (L.i + 1) v.result.words v.new.used v.new.since v.new.fastest (set L.outcomes L.i c.code.result) = turned c.loop-i-test.true room (L.invariant.head c.loop-i-test.true) c.mask_in.ensures.0 c.tempo_in.ensures c.code.ensures v.ensures L.invariant.ran in
    record {
      before = omega (arith, c.loop-i-test.true);
      sized = length-set L.outcomes L.i c.code.result ∙ L.invariant.sized;
      early = omega (arith, v.ensures.soon, L.invariant.early);
      head = c.peek-ahead.ensures;
      ran = turn;
    }

pub room_of-left-requires : goal.room_of-left-requires
room_of-left-requires c =
    let A = c.args in
    let L = c.loop-i in
    let room : length A.calls.now / 6 ≤ length A.outcomes.now = omega (arith, c.if-outcomes-n.false) in
    let v = c.advance-done in
    let turn : Ran A.p A.w A.s A.longest A.calls.now A.outcomes.now (L.i + 1) v.result.words v.new.used v.new.since v.new.fastest (set L.outcomes L.i c.code.result) = turned c.loop-i-test.true room (L.invariant.head c.loop-i-test.true) c.mask_in.ensures.0 c.tempo_in.ensures c.code.ensures v.ensures L.invariant.ran in
    let q = c.requires in
    let own = next_runs turn c.union-awake.ensures c.chosen-h.ensures q.description q.wired q.same_sources q.spaced q.judged in
    (own.0, own.1, omega (arith, own.2, own.3))

-- its run begins next, or is at its last tick
pub loop-i-preserved-then-left-eq0 : goal.loop-i-preserved-then-left-eq0
loop-i-preserved-then-left-eq0 c =
    let A = c.args in
    let L = c.loop-i in
    let room : length A.calls.now / 6 ≤ length A.outcomes.now = omega (arith, c.if-outcomes-n.false) in
    let v = c.advance-done in
    let turn : Ran A.p A.w A.s A.longest A.calls.now A.outcomes.now (L.i + 1) v.result.words v.new.used v.new.since v.new.fastest (set L.outcomes L.i c.code.result) = turned c.loop-i-test.true room (L.invariant.head c.loop-i-test.true) c.mask_in.ensures.0 c.tempo_in.ensures c.code.ensures v.ensures L.invariant.ran in
    record {
      before = omega (arith, c.loop-i-test.true);
      sized = length-set L.outcomes L.i c.code.result ∙ L.invariant.sized;
      early = omega (arith, v.ensures.soon, L.invariant.early);
      head = c.peek-ahead.ensures;
      ran = turn;
    }

pub skip-end-requires : goal.skip-end-requires
skip-end-requires c =
    let A = c.args in
    let L = c.loop-i in
    let room : length A.calls.now / 6 ≤ length A.outcomes.now = omega (arith, c.if-outcomes-n.false) in
    let v = c.advance-done in
    let turn : Ran A.p A.w A.s A.longest A.calls.now A.outcomes.now (L.i + 1) v.result.words v.new.used v.new.since v.new.fastest (set L.outcomes L.i c.code.result) = turned c.loop-i-test.true room (L.invariant.head c.loop-i-test.true) c.mask_in.ensures.0 c.tempo_in.ensures c.code.ensures v.ensures L.invariant.ran in
    let q = c.requires in
    let R = (turn.at q.description q.wired q.same_sources q.spaced q.judged).0 in
    (omega (arith, c.loop-i-test.true, c.reach.ensures), omega (arith, c.reach.ensures, div-mul-le_self (length A.calls.now) 6), omega (arith, c.reach.ensures, room, L.invariant.sized, length-set L.outcomes L.i c.code.result), R.keeps.least, R.keeps.high)

pub overflow_sub-used-in-loop-i-2 : goal.overflow_sub-used-in-loop-i-2
overflow_sub-used-in-loop-i-2 c =
    let A = c.args in
    let L = c.loop-i in
    let room : length A.calls.now / 6 ≤ length A.outcomes.now = omega (arith, c.if-outcomes-n.false) in
    let v = c.advance-done in
    let turn : Ran A.p A.w A.s A.longest A.calls.now A.outcomes.now (L.i + 1) v.result.words v.new.used v.new.since v.new.fastest (set L.outcomes L.i c.code.result) = turned c.loop-i-test.true room (L.invariant.head c.loop-i-test.true) c.mask_in.ensures.0 c.tempo_in.ensures c.code.ensures v.ensures L.invariant.ran in
    let q = c.requires in
    let own = next_runs turn c.union-awake.ensures c.chosen-h.ensures q.description q.wired q.same_sources q.spaced q.judged in
    own.0

-- it goes on
pub loop-i-preserved : goal.loop-i-preserved
loop-i-preserved c =
    let A = c.args in
    let L = c.loop-i in
    let room : length A.calls.now / 6 ≤ length A.outcomes.now = omega (arith, c.if-outcomes-n.false) in
    let v = c.advance-done in
    let turn : Ran A.p A.w A.s A.longest A.calls.now A.outcomes.now (L.i + 1) v.result.words v.new.used v.new.since v.new.fastest (set L.outcomes L.i c.code.result) = turned c.loop-i-test.true room (L.invariant.head c.loop-i-test.true) c.mask_in.ensures.0 c.tempo_in.ensures c.code.ensures v.ensures L.invariant.ran in
    let k = c.skip-end.ensures in
    let to = c.skip-end.result in
    let h = c.chosen-h.result in
    let cs = calls_in A.calls.now in
    let most : to ≤ length A.calls.now / 6 = omega (arith, k.most, c.reach.ensures) in
    record {
      before = most;
      sized = k.sized ∙ (length-set L.outcomes L.i c.code.result ∙ L.invariant.sized);
      early = omega (arith, ap (λ (x : Words). x.tick) c.later-words-in-loop-i.ensures, v.ensures.soon, L.invariant.early, k.on);
      head = c.peek-head-in-loop-i.ensures;
      ran = record {
        at = λ d r s g j.
            let made = turn.at d r s g j in
            let own = next_runs turn c.union-awake.ensures c.chosen-h.ensures d r s g j in
            let b = roomy _ _ c.room_of-left.result c.room_of-left.ensures c.if-left-eq0.false (omega (arith, own.2, own.3)) in
            let n = passed_along A.p d r.formed j A.calls.now v.new.used v.new.since v.new.fastest v.result.words c.union-awake.result h L.i to c.union-awake.ensures c.chosen-h.ensures own.0 own.1 b.0 (omega (arith, b.1, own.3, k.on, k.most, c.reach.ensures)) k.on most k.quiet (k.unfinished refl) made.0 in
            (subst (λ (x : Words). Tracks A.p d x (set v.new.used (h - 1) (get_or v.new.used (h - 1) 0 + (to - L.i - 1))) v.new.since v.new.fastest (left A.p d (idle d) (take to cs))) (sym c.later-words-in-loop-i.ensures) n.0, k.stored (page A.p d cs) A.outcomes.now (omega (arith, most, codes_length A.p d cs (idle d), calls_length A.calls.now)) (omega (arith, most, room)) n.1 made.1);
      };
    }

pub returns : goal.returns
returns c =
    λ d r s g j.
    let A = c.args in
    let L = c.loop-i in
    let cs = calls_in A.calls.now in
    let e : L.i ≡ length cs = omega (arith, c.loop-i-test.false, L.invariant.before, calls_length A.calls.now) in
    let h : length cs ≤ length A.outcomes.now = omega (arith, c.if-outcomes-n.false, calls_length A.calls.now) in
    let I = L.invariant.ran.at d r s g j in
    (ran_whole A.p d cs A.outcomes.now c.unpack.result h (c.unpack.ensures d (left A.p d (idle d) (take L.i cs)) r.formed r.rowed r.as_wide g I.0.holds (raised_same A.p d L.words L.used L.since L.fastest c.raise.new.fastest (left A.p d (idle d) (take L.i cs)) I.0 c.raise.ensures.0 c.raise.ensures.1) ∙ ap (left A.p d (idle d)) (take_all L.i cs (omega arith))), I.1 ∙ ap (λ k. take k (page A.p d cs) ++ drop k A.outcomes.now) e ∙ filled_whole A.p d cs A.outcomes.now h)

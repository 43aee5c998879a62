-- Nothing comes, or some sources do; refused, or they have fired.
use Prim.Native.Nat.{max}
use mathlib.Core.Path.{◌≡◌, sym, ap, subst, ◌∙◌}
use mathlib.Core.Bool.{true, false}
use native.Mathlib.Omega.{arith}
use Rattle.model.specs.declared.Machine.{Machine}
use Rattle.model.specs.declared.Refusal.TheVariants.{OffKnob, Stranger, TooSoon}
use Rattle.model.specs.Verdicts.{on_knob}
use Rattle.model.specs.Run.{marks_in}
use Rattle.lemmas.proofs.Tests.{within}
use Rattle.words.specs.declared.Words.{Words}
use Rattle.words.specs.Words.{Holds}
use Rattle.arrivals.proofs.TempoLaws.{tempos_hold}
use Rattle.machine.proofs.CallLaws.{known, tick_off, tick_refused, judged_at, end_stranger, end_soon, end_none, strangers_none, strangers_some, silent_known, silent_soon, silent_arrive, silent_keeps, keeps_given, arrived_keeps, lawful_rules, timed, refused_hears, admitted_hears}
use Rattle.machine.proofs.call.hear.Goals as goal

pub returns-then-not-on_knob : goal.returns-then-not-on_knob
returns-then-not-on_knob c =
    let A = c.args in
    let off : on_knob A.call.tempo ≡ false = sym c.on_knob.ensures ∙ c.if-not-on_knob.true in
    refused_hears A.wiring.now A.s.now A.call A.w A.since.now A.fastest.now OffKnob c.refused.result c.refused.ensures (λ p d used m T j l R. tick_off p d A.call.tempo m (record { marks = marks_in A.call.mask }) A.call.finish j off)

pub returns-then-mask-eq0 : goal.returns-then-mask-eq0
returns-then-mask-eq0 c =
    let A = c.args in
    let t = A.call.tempo in
    let mask = A.call.mask in
    let e : mask ≡ 0 = c.if-mask-eq0.true in
    let on : on_knob t ≡ true = sym c.on_knob.ensures ∙ c.if-not-on_knob.false in
    let given = c.at_tempos in
    let low : given.result.low ≡ A.w.low = ap (λ (x : Words). x.low) given.ensures in
    let peak : given.result.peak ≡ max A.w.peak t = ap (λ (x : Words). x.peak) given.ensures ∙ c.max.ensures in
    admitted_hears A.wiring.now A.s.now A.call A.w given.result A.since.now A.fastest.now A.since.now A.fastest.now c.admitted.result c.admitted.ensures (λ p d used m T j l R. record {
      judged = judged_at d t j on;
      passed = sym (end_none d t mask m (strangers_none d mask (silent_known d mask T.formed e)) (silent_soon d t mask m T.formed e));
      arrived = subst (λ (k : Machine). Holds d given.result used A.since.now k) (silent_arrive d mask m T.formed e) (tempos_hold d A.w.low c.max.result A.w given.result used A.since.now m given.ensures R.holds);
      keeps = keeps_given t mask A.w given.result A.fastest.now m (within 200 t 3000 on).1 low peak (silent_keeps t mask A.w A.fastest.now m e R.keeps);
      high = (omega arith, (within 200 t 3000 on).1);
    }) (ap (λ (x : Words). x.tick) given.ensures) (ap (λ (x : Words). x.running) given.ensures)

pub returns-then-not-on_knob-2 : goal.returns-then-not-on_knob-2
returns-then-not-on_knob-2 c =
    let A = c.args in
    let off : on_knob A.call.tempo ≡ false = sym c.on_knob-2.ensures ∙ c.if-not-on_knob-2.true in
    refused_hears A.wiring.now A.s.now A.call A.w A.since.now A.fastest.now OffKnob c.refused-then-not-on_knob-2.result c.refused-then-not-on_knob-2.ensures (λ p d used m T j l R. tick_off p d A.call.tempo m (record { marks = marks_in A.call.mask }) A.call.finish j off)

pub returns-then-above-ne0 : goal.returns-then-above-ne0
returns-then-above-ne0 c =
    let A = c.args in
    let t = A.call.tempo in
    let mask = A.call.mask in
    let on : on_knob t ≡ true = sym c.on_knob-2.ensures ∙ c.if-not-on_knob-2.false in
    refused_hears A.wiring.now A.s.now A.call A.w A.since.now A.fastest.now Stranger c.refused-then-above-ne0.result c.refused-then-above-ne0.ensures
    (λ p d used m T j l R. tick_refused p d t mask m A.call.finish Stranger 0 (judged_at d t j on) l (sym (end_stranger d t mask m (strangers_some d mask (A.wiring.now.sources) T.as_wide (omega (arith, T.as_wide, T.formed.fields.few_sources)) c.requires.going.fits c.requires.going.sourced (λ z. c.if-above-ne0.true (c.above.ensures ∙ z))))))

pub too_soon-requires : goal.too_soon-requires
too_soon-requires c =
    let A = c.args in
    let t = A.call.tempo in
    let mask = A.call.mask in
    let S = c.requires in
    let G = S.going in
    let T = G.tables in
    let d = G.description in
    let on : on_knob t ≡ true = sym c.on_knob-2.ensures ∙ c.if-not-on_knob-2.false in
    timed S.policy d t mask c.max-peak.result A.w A.wiring.now A.s.now S.used A.since.now A.fastest.now G.machine T G.tracks (lawful_rules S.policy d G.machine G.keeps) G.early G.sourced (known d mask (A.wiring.now.sources) c.above.result T.as_wide (omega (arith, T.as_wide, T.formed.fields.few_sources)) c.above.ensures c.if-above-ne0.false) on c.max-peak.ensures

pub returns-then-too_soon : goal.returns-then-too_soon
returns-then-too_soon c =
    let A = c.args in
    let t = A.call.tempo in
    let mask = A.call.mask in
    let on : on_knob t ≡ true = sym c.on_knob-2.ensures ∙ c.if-not-on_knob-2.false in
    refused_hears A.wiring.now A.s.now A.call A.w A.since.now A.fastest.now TooSoon c.refused-then-too_soon.result c.refused-then-too_soon.ensures
    (λ p d used m T j l R.
    let K = known d mask (A.wiring.now.sources) c.above.result T.as_wide (omega (arith, T.as_wide, T.formed.fields.few_sources)) c.above.ensures c.if-above-ne0.false in
    tick_refused p d t mask m A.call.finish TooSoon 0 (judged_at d t j on) l (sym (end_soon d t mask m (strangers_none d mask K) (sym (c.too_soon.ensures d t A.w m T.formed T.same_sources K (lawful_rules p d m l) R.holds.ages R.keeps c.max-peak.ensures (within 200 t 3000 on).0) ∙ c.if-too_soon.true))))

pub returns : goal.returns
returns c =
    let A = c.args in
    let t = A.call.tempo in
    let mask = A.call.mask in
    let a = c.arrive in
    let on : on_knob t ≡ true = sym c.on_knob-2.ensures ∙ c.if-not-on_knob-2.false in
    let since = a.new.since in
    let fastest = a.new.fastest in
    admitted_hears A.wiring.now A.s.now A.call A.w a.result A.since.now A.fastest.now since fastest c.admitted-2.result c.admitted-2.ensures (λ p d used m T j l R.
    let K = known d mask (A.wiring.now.sources) c.above.result T.as_wide (omega (arith, T.as_wide, T.formed.fields.few_sources)) c.above.ensures c.if-above-ne0.false in
    record {
      judged = judged_at d t j on;
      passed = sym (end_none d t mask m (strangers_none d mask K) (sym (c.too_soon.ensures d t A.w m T.formed T.same_sources K (lawful_rules p d m l) R.holds.ages R.keeps c.max-peak.ensures (within 200 t 3000 on).0) ∙ c.if-too_soon.false));
      arrived = a.ensures.arrived d used m T.formed T.rowed K R.holds;
      keeps = arrived_keeps t mask c.max-peak.result A.w a.result A.fastest.now fastest m (within 200 t 3000 on).0 (within 200 t 3000 on).1 c.max-peak.ensures a.ensures.knob R.keeps a.ensures.many a.ensures.fired a.ensures.others;
      high = (omega (arith, a.ensures.knob.1), (within 200 t 3000 on).1);
    }) a.ensures.then a.ensures.runs

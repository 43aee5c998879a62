-- A foreign record, or one call on its words.
use mathlib.Core.Path.{sym, ap, ◌∙◌}
use native.Mathlib.Omega.{arith}
use Rattle.model.specs.Machine.{plain_tick}
use Rattle.model.specs.History.{plain_call}
use Rattle.model.specs.Run.{call_of}
use Rattle.theory.proofs.FileLaws.{knob_known}
use Rattle.rules.proofs.RuleLaws.{entered}
use Rattle.machine.proofs.CallLaws.{tick_foreign, lawful_rules, lawful_alone, raised_same}
use Rattle.machine.proofs.TableLaws.{tables_of}
use Rattle.machine.proofs.TickLaws.{packed_tracks, ticked}
use Rattle.machine.proofs.tick.tick_judged.Goals as goal

pub lawful-requires : goal.lawful-requires
lawful-requires c = entered c.requires.description c.args.w c.requires.wired

pub returns-then-not-lawful : goal.returns-then-not-lawful
returns-then-not-lawful c = λ d r s g e. c.refused.ensures ∙ tick_foreign c.args.p d c.args.t c.args.m c.args.a c.args.finish e (sym (c.lawful.ensures d r g) ∙ c.if-not-lawful.true)

pub advance-done-requires : goal.advance-done-requires
advance-done-requires c =
    let d = c.requires.description in
    let r = c.requires.wired in
    let l = (sym (c.lawful.ensures d r c.requires.spaced) ∙ c.if-not-lawful.false) in
    record {
      description = d;
      machine = c.args.m;
      judged = c.requires.judged;
      tables = tables_of d c.args.w c.args.s r c.requires.same_sources;
      tracks = packed_tracks c.args.p d c.args.w.rows c.args.m c.pack-packed.result.words c.pack-packed.result.since r.formed r.rowed (lawful_rules c.args.p d c.args.m l) (lawful_alone c.args.p d c.args.m l) c.pack-packed.ensures;
      keeps = l;
      sourced = c.mask_of.ensures.0;
      fits = c.mask_of.type_inv;
      early = omega (arith, c.pack-packed.ensures.first);
    }

pub returns : goal.returns
returns c =
    λ d r s g e.
    let l = (sym (c.lawful.ensures d r g) ∙ c.if-not-lawful.false) in
    let j = (knob_known d c.args.t e).0 in
    let T = tables_of d c.args.w c.args.s r s in
    let R = packed_tracks c.args.p d c.args.w.rows c.args.m c.pack-packed.result.words c.pack-packed.result.since r.formed r.rowed (lawful_rules c.args.p d c.args.m l) (lawful_alone c.args.p d c.args.m l) c.pack-packed.ensures in
    let v = c.advance-done in
    let p = plain_call c.args.p d c.args.m (call_of c.mask_of.result c.args.t c.args.finish) in
    let L = v.ensures.leaves d c.args.m T j l R in
    ticked v.result.outcome c.unpack.result p (v.ensures.ends d c.args.m T j l R) (c.unpack.ensures d p.machine r.formed r.rowed r.as_wide g L.holds (raised_same c.args.p d v.result.words _ _ v.new.fastest c.raise.new.fastest p.machine L c.raise.ensures.0 c.raise.ensures.1))
    ∙ ap (λ k. plain_tick c.args.p d c.args.t c.args.m (record { marks = k }) c.args.finish) c.mask_of.ensures.1

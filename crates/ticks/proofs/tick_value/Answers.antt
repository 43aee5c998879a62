-- Refused, or the tick of an accepted description.
use mathlib.Core.Path.{sym, ◌∙◌}
use native.Mathlib.Omega.{arith}
use Rattle.theory.proofs.Typed.{typed_widths}
use Rattle.theory.proofs.FileLaws.{knob_known}
use Rattle.spacings.proofs.GapLaws.{gaps_of, scaled_of}
use Rattle.ticks.proofs.Laws.{at_known, tick_refused}
use Rattle.ticks.proofs.tick_value.Goals as goal

pub returns-in-Err : goal.returns-in-Err
returns-in-Err c = let told = c.in-Err in c.refused_tick.ensures ∙ tick_refused c.args.d c.args.t c.args.p c.args.m c.args.a c.args.finish told.rejection.why told.rejection.place (sym c.judge_at.ensures ∙ told.is)

pub sources_of-s-requires : goal.sources_of-s-requires
sources_of-s-requires c = (at_known c.args.d c.args.t (typed_widths c.args.d _ c.well_formed.1.0) (sym c.judge_at.ensures ∙ c.in_default.is)).0

pub gaps_by-longest-requires : goal.gaps_by-longest-requires
gaps_by-longest-requires c = (scaled_of c.args.d c.sources_of-s.result (at_known c.args.d c.args.t (typed_widths c.args.d _ c.well_formed.1.0) (sym c.judge_at.ensures ∙ c.in_default.is)).0 c.sources_of-s.ensures, omega arith, omega arith)

pub wiring_of-requires : goal.wiring_of-requires
wiring_of-requires c = (at_known c.args.d c.args.t (typed_widths c.args.d _ c.well_formed.1.0) (sym c.judge_at.ensures ∙ c.in_default.is)).0

pub tick_judged-requires : goal.tick_judged-requires
tick_judged-requires c =
    record {
      description = c.args.d;
      wired = c.wiring_of.ensures;
      same_sources = c.sources_of-s.ensures;
      spaced = gaps_of c.args.d c.sources_of-s.result 200 c.gaps_by-longest.result c.sources_of-s.ensures c.gaps_by-longest.ensures;
      judged = (knob_known c.args.d c.args.t (sym c.judge_at.ensures ∙ c.in_default.is)).0;
    }

pub returns : goal.returns
returns c = c.tick_judged.ensures c.args.d c.wiring_of.ensures c.sources_of-s.ensures (gaps_of c.args.d c.sources_of-s.result 200 c.gaps_by-longest.result c.sources_of-s.ensures c.gaps_by-longest.ensures) (sym c.judge_at.ensures ∙ c.in_default.is)

-- Refused, or the idle record.
use mathlib.Core.Path.{sym, ◌∙◌}
use native.Mathlib.Omega.{arith}
use Rattle.records.proofs.RecordLaws.{idle_aged}
use Rattle.theory.proofs.Typed.{typed_widths}
use Rattle.theory.proofs.FileLaws.{judge_well_formed}
use Rattle.ticks.proofs.Laws.{start_refused, start_done}
use Rattle.ticks.proofs.start.Goals as goal

pub returns-in-Err : goal.returns-in-Err
returns-in-Err c = let told = c.in-Err in c.refused_start.ensures ∙ start_refused c.args.d told.rejection.why told.rejection.place (sym c.judge.ensures ∙ told.is)

pub gaps_of-longest-requires : goal.gaps_of-longest-requires
gaps_of-longest-requires c = (judge_well_formed c.args.d (typed_widths c.args.d _ c.well_formed.0) (sym c.judge.ensures ∙ c.in_default.is), omega arith, omega arith)

pub returns : goal.returns
returns c =
    let d = c.args.d in
    rw c.blank_machine.ensures
    (start_done d _ (sym c.judge.ensures ∙ c.in_default.is) (idle_aged d c.gaps_of-longest.result c.since_of-since.result c.ages_of-ages.result (judge_well_formed c.args.d (typed_widths c.args.d _ c.well_formed.0) (sym c.judge.ensures ∙ c.in_default.is)) c.gaps_of-longest.ensures c.since_of-since.ensures c.ages_of-ages.ensures))

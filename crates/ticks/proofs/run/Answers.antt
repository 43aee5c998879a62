-- Refused, or the calls of an accepted description.
use mathlib.Core.Path.{sym, ◌∙◌}
use Rattle.model.specs.Run.{calls_in}
use Rattle.runs.specs.Run.{RunOf}
use Rattle.theory.proofs.Typed.{typed_widths}
use Rattle.ticks.proofs.Laws.{run_refused, run_done}
use Rattle.ticks.proofs.run.Goals as goal

pub returns-in-Err : goal.returns-in-Err
returns-in-Err c = let told = c.in-Err in run_refused c.args.d c.args.p (calls_in c.args.calls.now) c.args.outcomes.now told.rejection.why told.rejection.place c.refused_start.result (sym c.judge.ensures ∙ told.is) c.refused_start.ensures

pub returns : goal.returns
returns c =
    let ran : RunOf c.args.p c.args.d (calls_in c.args.calls.now) c.args.outcomes.now c.run_accepted.new.outcomes c.run_accepted.result = c.run_accepted.ensures in
    run_done c.args.d c.args.p (calls_in c.args.calls.now) c.args.outcomes.now _ c.run_accepted.result (typed_widths c.args.d _ c.well_formed.1.0) (sym c.judge.ensures ∙ c.in_default.is) ran

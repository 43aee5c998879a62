use Rattle.std.proofs.Common.{rules}
use Rattle.std.specs.Prelude.{Err}
use mathlib.Core.Path.{◌≡◌, sym, ◌∙◌}
use Rattle.ticks.proofs.Laws.{at_refused, at_off, at_done}
use Rattle.ticks.proofs.judge_at.Goals as goal

pub returns-in_err-judge : goal.returns-in_err-judge
returns-in_err-judge c =
    let x = c.in_err-judge.field-0.0 in
    let h : c.from_residual.result ≡ Err x = search rules in
    h ∙ at_refused c.args.d c.args.t x.why x.place (sym c.judge.ensures ∙ c.in_err-judge.was)

pub returns-then-on_knob : goal.returns-then-on_knob
returns-then-on_knob c = at_done c.args.d c.args.t (sym c.judge.ensures ∙ c.in_ok-judge.was) (sym c.on_knob.ensures ∙ c.if-on_knob.true)

pub returns-else-on_knob : goal.returns-else-on_knob
returns-else-on_knob c = rw (c.at.ensures) (at_off c.args.d c.args.t (sym c.judge.ensures ∙ c.in_ok-judge.was) (sym c.on_knob.ensures ∙ c.if-on_knob.false))

use Rattle.std.proofs.Common.{rules}
use Rattle.std.specs.Prelude.{Err}
use mathlib.Core.Path.{◌≡◌, sym, ◌∙◌}
use Rattle.theory.proofs.Typed.{typed_widths}
use Rattle.files.proofs.Laws.{judge_refused, judged_by, record_good}
use Rattle.files.proofs.work_out.Goals as goal

pub returns-in_err-check_record : goal.returns-in_err-check_record
returns-in_err-check_record c =
    let x = c.in_err-check_record.field-0.0 in
    let h : c.from_residual.result ≡ Err x = search rules in
    rw h (judge_refused c.args.d x.why x.place (typed_widths c.args.d _ c.well_formed.0) (sym c.check_record.ensures ∙ c.in_err-check_record.was))

pub work_out-requires : goal.work_out-requires
work_out-requires c = record_good c.args.d (typed_widths c.args.d _ c.well_formed.0) (sym c.check_record.ensures ∙ c.in_ok-check_record.was)

pub returns : goal.returns
returns c =
    judged_by c.args.d (typed_widths c.args.d _ c.well_formed.0) (sym c.check_record.ensures ∙ c.in_ok-check_record.was) c.work_out.result c.work_out.ensures

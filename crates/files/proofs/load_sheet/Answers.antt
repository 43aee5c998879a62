use mathlib.Core.Path.{sym, ◌∙◌}
use Rattle.theory.proofs.Typed.{typed_widths}
use Rattle.files.proofs.Laws.{sheet_refused, sheet_checked, record_good}
use Rattle.files.proofs.load_sheet.Goals as goal

pub returns-in-Err : goal.returns-in-Err
returns-in-Err c =
    c.refused_sheet.ensures ∙ sheet_refused c.args.d c.in-Err.rejection.why c.in-Err.rejection.place (typed_widths c.args.d _ c.well_formed.0) (sym c.check_record.ensures ∙ c.in-Err.is)

pub last_checks-requires : goal.last_checks-requires
last_checks-requires c = record_good c.args.d (typed_widths c.args.d _ c.well_formed.0) (sym c.check_record.ensures ∙ c.in_default.is)

pub returns : goal.returns
returns c = c.last_checks.ensures ∙ sheet_checked c.args.d (typed_widths c.args.d _ c.well_formed.0) (sym c.check_record.ensures ∙ c.in_default.is)

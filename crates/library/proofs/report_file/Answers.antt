-- `report_file` meets its contract. Assumes nothing.
use borrow.Author.Rules.{rules}
use Rattle.library.proofs.Laws.{filled_most, filled_place, reply_done}
use mathlib.Core.Path.{sym, ap, ◌∙◌}
use mir.Syntax.{w64}
use mir.ValLaws.{to_z-of_z}
use native.Mathlib.Omega.{arith}
use Rattle.model.specs.Refusals.{of_filled, Filled}
use Rattle.report.proofs.ReportLaws.{report_length}
use Rattle.library.specs.Replies.{reply}
use Rattle.library.proofs.report_file.Goals as goal

pub overflow_cast-n : goal.overflow_cast-n
overflow_cast-n c = omega (arith, filled_most c.args.p c.args.file.now c.args.out.now c.report.result c.in-Ok.n (report_length c.args.p c.args.file.now (λ i. search rules)) c.report.ensures.0 c.in-Ok.is)

pub refusal_code-requires : goal.refusal_code-requires
refusal_code-requires c = filled_place c.args.p c.args.file.now c.args.out.now c.report.result c.in-Err.rejection.why c.in-Err.rejection.place c.report.ensures.0 c.in-Err.is

pub returns-in-Ok : goal.returns-in-Ok
returns-in-Ok c = (to_z-of_z w64 c.from.result (record { sfits = c.from.type_inv }) ∙ c.from.ensures ∙ reply_done c.in-Ok.n ∙ ap (λ (f : Filled). reply (of_filled f)) (sym c.in-Ok.is ∙ c.report.ensures.0), c.report.ensures.1)

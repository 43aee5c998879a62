use Rattle.std.proofs.Common.{rules}
use Rattle.std.specs.Prelude.{Ok, Err}
use mathlib.Core.Path.{◌≡◌, sym, ◌∙◌}
use Rattle.loads.specs.Tables.{WorkedOf}
use Rattle.files.proofs.Laws.{fields_refused, fields_good, unchecked_as, checked_as}
use Rattle.files.proofs.examine_at.Goals as goal

pub returns-in_err-d : goal.returns-in_err-d
returns-in_err-d c =
    let h : c.from_residual.result ≡ Err c.in_err-d.field-0.0 = search rules in
    rw h (fields_refused c.args.s.now c.args.at c.in_err-d.field-0.0 (sym c.parse.ensures ∙ c.in_err-d.was))

pub work_out-requires : goal.work_out-requires
work_out-requires c = fields_good c.args.s.now c.args.at c.in_ok-d.d (sym c.parse.ensures ∙ c.in_ok-d.was) (λ i. (c.type_inv.s i).fits)

pub returns-in_err-worked : goal.returns-in_err-worked
returns-in_err-worked c =
    let x = c.in_err-worked.field-0.0 in
    let h : c.from_residual-in_err-worked.result ≡ Err x = search rules in
    rw h (unchecked_as c.args.s.now c.args.at c.in_ok-d.d (sym c.parse.ensures ∙ c.in_ok-d.was) x (rw c.in_err-worked.was at c.work_out.ensures))

pub returns : goal.returns
returns c =
    let w = rw c.in_ok-worked.was at c.work_out.ensures in
    checked_as c.args.s.now c.args.at c.in_ok-d.d (sym c.parse.ensures ∙ c.in_ok-d.was) (λ i. (c.type_inv.s i).fits) c.in_ok-worked.worked w.0 w.1

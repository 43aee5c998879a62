use mathlib.Core.Path.{sym, ap, ◌∙◌}
use mathlib.Core.List.{List}
use Rattle.model.specs.declared.Row.{Row}
use Rattle.model.specs.declared.LoadSheet.{LoadSheet}
use Rattle.model.specs.Refusals.{Done}
use Rattle.loads.proofs.Checks.{sheet_refused, sheet_done, rows_are}
use Rattle.loads.proofs.last_checks.Goals as goal

done : List Row → LoadSheet
done rows = record { outcome = Done; rows = rows }

pub returns-in-Ok : goal.returns-in-Ok
unfolding done
returns-in-Ok c =
    let w = rw (c.in-Ok.is) at c.work_out.ensures in
    ap done (rows_are c.args.d c.in-Ok.worked.brings c.in-Ok.worked.works c.load_rows-t.result c.as_rows.result w.1 c.load_rows-t.ensures c.as_rows.ensures) ∙ sym (sheet_done c.args.d w.0)

pub returns-in-Err : goal.returns-in-Err
returns-in-Err c =
    let w = rw (c.in-Err.is) at c.work_out.ensures in
    c.refused_sheet.ensures ∙ sym (sheet_refused c.args.d _ _ w)

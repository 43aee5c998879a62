-- `quotes::quote` meets its contract: judged, then quoted from the tables. Assumes nothing.
use Rattle.std.proofs.Common.{rules}
use Rattle.std.specs.Prelude.{Ok, Err}
use mathlib.Core.Path.{◌≡◌, ◌∙◌}
use Rattle.quotes.proofs.Laws.{quote_refused, quote_judged}
use Rattle.quotes.proofs.quote.Goals as goal

pub returns-in_err-judged : goal.returns-in_err-judged
returns-in_err-judged c =
    let x = c.in_err-judged.field-0.0 in
    let h : c.from_residual.result ≡ Err x = search rules in
    h ∙ quote_refused c.args.p c.args.d x.why x.place (rw c.in_err-judged.was at c.examine_record.ensures)

pub tables_of-requires : goal.tables_of-requires
tables_of-requires c = let a = rw c.in_ok-judged.was at c.examine_record.ensures in (rw a.same at a.good, rw a.same at a.worked)

pub returns : goal.returns
returns c =
    let a = rw c.in_ok-judged.was at c.examine_record.ensures in
    let t = c.tables_of.ensures in
    c.quote_by.ensures c.args.p c.args.d t.by_levels t.all_ordered ∙ quote_judged c.args.p c.args.d a.judged

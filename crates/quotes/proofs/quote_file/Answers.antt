-- `quotes::quote_file` meets its contract: examined, then quoted from the tables. Assumes nothing.
use Rattle.std.proofs.Common.{rules}
use Rattle.std.specs.Prelude.{Ok, Err}
use mathlib.Core.Path.{◌≡◌, ◌∙◌}
use Rattle.quotes.proofs.Laws.{file_refused, file_quoted}
use Rattle.quotes.proofs.quote_file.Goals as goal

pub returns-in_err-judged : goal.returns-in_err-judged
returns-in_err-judged c =
    let x = c.in_err-judged.field-0.0 in
    let h : c.from_residual.result ≡ Err x = search rules in
    h ∙ file_refused c.args.p c.args.file.now x.why x.place (rw c.in_err-judged.was at c.examine.ensures)

pub tables_of-requires : goal.tables_of-requires
tables_of-requires c = let a = rw c.in_ok-judged.was at c.examine.ensures in (a.good, a.worked)

pub returns : goal.returns
returns c =
    let a = rw c.in_ok-judged.was at c.examine.ensures in
    let t = c.tables_of.ensures in
    c.quote_by.ensures c.args.p c.in_ok-judged.judged.description t.by_levels t.all_ordered ∙ file_quoted c.args.p c.args.file.now (λ i. search rules) c.in_ok-judged.judged.description a.same a.judged

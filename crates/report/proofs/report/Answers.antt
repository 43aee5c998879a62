use mathlib.Core.Path.{ap, ◌∙◌}
use mathlib.Core.List.{List}
use Prim.Native.Nat.{ℕ}
use Rattle.model.specs.File.{fill_with, filled_by}
use Rattle.model.specs.Report.{reported, page_reported}
use Rattle.report.proofs.report.Goals as goal

pub returns : goal.returns
unfolding page_reported reported
returns c =
    let p = c.put_report-n.ensures.put_front in
    let e = c.copy_out.ensures in
    let out = c.args.out.now in
    (e.0 ∙ ap (λ (t : List ℕ). fill_with t out) p, e.1 ∙ ap (λ (t : List ℕ). filled_by t out) p)

use Rattle.std.proofs.Common.{rules}
use Rattle.std.specs.Prelude.{Err}
use mathlib.Core.Path.{◌≡◌, refl, sym, ◌∙◌}
use Rattle.model.specs.File.{written, page_after}
use Rattle.theory.proofs.JudgeLaws.{few_counts, judge_few}
use Rattle.files.proofs.write.Goals as goal

pub returns-in_err-judge : goal.returns-in_err-judge
unfolding page_after written
returns-in_err-judge c =
    let h : c.from_residual.result ≡ Err c.in_err-judge.field-0.0 = search rules in
    rw (h, sym c.judge.ensures ∙ c.in_err-judge.was) (refl, refl)

pub put_file-requires : goal.put_file-requires
put_file-requires c =
    let d = c.args.d in
    let w = few_counts d (judge_few d (sym c.judge.ensures ∙ c.in_ok-judge.was)) in
    (w.tasks, w.sources, w.links)

pub returns : goal.returns
unfolding page_after written
returns c = rw (sym c.judge.ensures ∙ c.in_ok-judge.was) c.put_file.ensures

use Rattle.std.proofs.Common.{rules}
use Rattle.model.specs.Report.{policy_line, plain_report, report_of}
use Rattle.text.proofs.Pages.{put_then, put_lent}
use Rattle.report.proofs.put_report.Goals as goal

pub returns : goal.returns
unfolding report_of
returns c =
    put_lent (search rules) (put_then (policy_line c.args.p) (plain_report c.args.p c.args.file.now) c.policy_line.ensures.text c.put_plain.ensures.text)

-- `lines::link_line` meets its contract. Assumes nothing.
use mathlib.Core.List.{◌++◌}
use Rattle.model.specs.Report.{verdict_text}
use Rattle.text.proofs.Pages.{put_then}
use Rattle.lines.proofs.LineLaws.{feed, place_text, from_text, to_text, link_parts}
use Rattle.lines.proofs.link_line.Goals as goal

pub returns-clause-text : goal.returns-clause-text
returns-clause-text c =
    let e = c.args.e in
    let v = c.args.v in
    rw (link_parts c.args.l e v)
    (put_then (place_text c.args.l) (from_text e ++ (to_text e ++ (verdict_text v ++ feed))) c.numbered.ensures.text
    (put_then (from_text e) (to_text e ++ (verdict_text v ++ feed)) (rw c.from.ensures at c.numbered-2.ensures.text)
    (put_then (to_text e) (verdict_text v ++ feed) (rw c.from-2.ensures at c.numbered-3.ensures.text)
    (put_then (verdict_text v) feed c.put_verdict.ensures.text c.byte.ensures.text))))

-- `lines::refused_line` meets its contract. Assumes nothing.
use mathlib.Core.List.{◌++◌}
use Rattle.text.proofs.Pages.{put_then}
use Rattle.lines.proofs.LineLaws.{feed, number_text, at_text, refused_parts}
use Rattle.lines.proofs.refused_line.Goals as goal

pub returns-clause-text : goal.returns-clause-text
returns-clause-text c =
    let x = c.args.rejection in
    rw (refused_parts x.why c.number_of.result x.place c.number_of.ensures)
    (put_then (number_text c.number_of.result) (at_text x.place ++ feed) c.numbered.ensures.text
    (put_then (at_text x.place) feed c.numbered-2.ensures.text c.byte.ensures.text))

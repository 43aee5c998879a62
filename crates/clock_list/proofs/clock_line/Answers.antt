-- `clock_list::clock_line` meets its contract. Assumes nothing.
use mathlib.Core.List.{◌++◌}
use Rattle.model.specs.Report.{tempo_text}
use Rattle.model.specs.Clock.{clock_spacing}
use Rattle.text.proofs.Pages.{put_then}
use Rattle.clock_list.proofs.ListLaws.{feed, spacing_text, line_parts}
use Rattle.clock_list.proofs.clock_line.Goals as goal

pub returns-clause-text : goal.returns-clause-text
returns-clause-text c =
    let t = c.args.t in
    rw (line_parts t)
    (put_then (tempo_text t) (spacing_text (clock_spacing t) ++ feed) c.put_tempo.ensures.text
    (put_then (spacing_text (clock_spacing t)) feed (rw c.clock_spacing.ensures at c.numbered.ensures.text) c.byte.ensures.text))

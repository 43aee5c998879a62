-- `lines::tempo_line` meets its contract. Assumes nothing.
use mathlib.Core.List.{◌++◌}
use Rattle.model.specs.Report.{w_tempo, tempo_text}
use Rattle.text.proofs.Pages.{put_then}
use Rattle.lines.proofs.LineLaws.{feed, tempo_parts}
use Rattle.lines.proofs.tempo_line.Goals as goal

pub returns-in-Ok-clause-text : goal.returns-in-Ok-clause-text
returns-in-Ok-clause-text c =
    let t = c.in-Ok.t in
    rw (c.in-Ok.is, tempo_parts t)
    (put_then w_tempo (tempo_text t ++ feed) c.word.ensures.text
    (put_then (tempo_text t) feed c.put_tempo.ensures.text c.byte.ensures.text))

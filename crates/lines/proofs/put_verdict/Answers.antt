-- `lines::put_verdict` meets its contract. Assumes nothing.
use Rattle.text.proofs.Pages.{put_then}
use Rattle.lines.proofs.LineLaws.{delay_text, spacing_text, held_parts}
use Rattle.lines.proofs.put_verdict.Goals as goal

pub returns-in-Held-clause-text : goal.returns-in-Held-clause-text
returns-in-Held-clause-text c =
    let v = c.in-Held in
    rw (v.is, held_parts v.delay v.spacing) (put_then (delay_text v.delay) (spacing_text v.spacing) c.numbered.ensures.text c.numbered-in-Held.ensures.text)

-- `lines::put_tempo` meets its contract. Assumes nothing.
use Prim.Native.Nat.{◌/◌}
use Rattle.model.specs.Report.{decimal}
use Rattle.text.proofs.Pages.{put_then}
use Rattle.lines.proofs.LineLaws.{tenth_text, tempo_text_parts}
use Rattle.lines.proofs.put_tempo.Goals as goal

pub returns-clause-text : goal.returns-clause-text
returns-clause-text c =
    rw (tempo_text_parts c.args.t) (put_then (decimal (c.args.t / 10)) (tenth_text c.args.t) c.decimal.ensures.text c.numbered.ensures.text)

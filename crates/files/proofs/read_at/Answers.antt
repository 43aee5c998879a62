use mathlib.Core.Path.{◌∙◌}
use Rattle.files.proofs.Laws.{reading_of, refusal_of}
use Rattle.files.proofs.read_at.Goals as goal

pub returns-in-Ok : goal.returns-in-Ok
returns-in-Ok c = reading_of c.args.s.now c.args.at c.in-Ok.judged (rw (c.in-Ok.is) at c.examine_at.ensures)

pub returns-in-Err : goal.returns-in-Err
returns-in-Err c = c.refused_reading.ensures ∙ refusal_of c.args.s.now c.args.at c.in-Err.rejection (rw (c.in-Err.is) at c.examine_at.ensures)

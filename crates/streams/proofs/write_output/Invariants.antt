-- The transfer stands within the buffer, and what it has left. Assumes nothing.
use Rattle.std.proofs.Common.{length}
use Rattle.streams.specs.Transfers.{MovesAll}
use Rattle.streams.proofs.Laws.{Stands, left}
use Rattle.streams.proofs.write_output.Given as goal

abbrev pub invariant-loop-progress : goal.invariant-loop-progress
invariant-loop-progress g l = Stands (MovesAll (length l.buf)) (length l.buf) l.progress

abbrev pub decreases-loop-progress : goal.decreases-loop-progress
decreases-loop-progress g l = left (length l.buf) l.progress

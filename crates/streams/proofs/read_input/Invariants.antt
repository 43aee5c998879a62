-- The transfer stands within the buffer, and what it has left. Assumes nothing.
use Rattle.std.proofs.Common.{length}
use Rattle.streams.specs.Transfers.{Moves}
use Rattle.streams.proofs.Laws.{Stands, left}
use Rattle.streams.proofs.read_input.Given as goal

abbrev pub invariant-loop-progress : goal.invariant-loop-progress
invariant-loop-progress g l = Stands (Moves (length l.initial.buf)) (length l.initial.buf) l.progress

abbrev pub decreases-loop-progress : goal.decreases-loop-progress
decreases-loop-progress g l = left (length l.initial.buf) l.progress

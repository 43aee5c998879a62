-- Paths may pass the tasks above v.
use mathlib.Core.Path.{◌≡◌}
use lib.ListN.{length}
use Rattle.paths.proofs.PathLaws.{RowsAt}
use Rattle.paths.proofs.closed.Given as goal

abbrev pub invariant-loop-v : goal.invariant-loop-v
invariant-loop-v l = (length l.rows ≡ 48) × RowsAt l.initial.rows l.n l.v l.rows

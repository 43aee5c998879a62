-- The row is filled from the highest task down.
use Prim.Native.Nat.{suc}
use mathlib.Core.Path.{◌≡◌}
use Rattle.works.specs.Works.{load_by}
use Rattle.loads.proofs.Sums.{RowFrom}
use Rattle.loads.proofs.rows.load_row.Given as goal

abbrev pub invariant-loop-j : goal.invariant-loop-j
invariant-loop-j l = (l.sum ≡ load_by l.row l.s.works.now l.s.count (suc l.j)) × RowFrom l.row l.s.works.now l.s.count l.j l.loads

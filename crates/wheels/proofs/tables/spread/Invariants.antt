-- `spread` meets its contract: the first i entries are lowered. Assumes nothing.
use Rattle.wheels.proofs.Steps.{Lowering}
use Rattle.wheels.proofs.tables.spread.Given as goal

abbrev pub invariant-loop-i : goal.invariant-loop-i
invariant-loop-i l = Lowering l.row.place l.many l.i l.initial.table l.table

-- The first k nodes are at the task.
use Rattle.loads.specs.Tables.{Column}
use Rattle.loads.proofs.levels.bring_in.Given as goal

abbrev pub invariant-loop-k : goal.invariant-loop-k
invariant-loop-k l = Column l.base l.brings l.j l.w l.k l.initial.loads l.loads

-- The works from task j + 1 on are there, then the sets of the first i nodes.
use Prim.Native.Nat.{ℕ, ◌+◌, ◌<◌}
use lib.ListN.{get_or}
use Rattle.paths.specs.Rows.{Brought, graph}
use Rattle.works.specs.Works.{SetMemo, WorkMemo}
use Rattle.works.proofs.Working.{WorksFrom}
use Rattle.works.proofs.works_of.Given as goal

abbrev pub invariant-loop-j : goal.invariant-loop-j
invariant-loop-j l = SetMemo l.wired.succ.now l.wired.count l.sets × WorkMemo l.wired.succ.now l.wired.runs.now l.wired.count l.known × WorksFrom (graph l.wired.succ.now l.wired.runs.now l.wired.count) l.wired.count l.j l.works

abbrev pub invariant-loop-i : goal.invariant-loop-i
invariant-loop-i l = SetMemo l.wired.succ.now l.wired.count l.sets × ((k : ℕ) → k < l.i → Brought l.wired.succ.now l.wired.count (k + 1) (get_or l.brings k 0))

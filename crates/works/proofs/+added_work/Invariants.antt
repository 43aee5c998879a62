-- The rank of the node falls along every path, and the memos are right throughout.
use Prim.Native.Nat.{◌*◌, ◌+◌}
use mathlib.Core.Path.{◌≡◌}
use Rattle.theory.proofs.Rank.{rank_of}
use Rattle.paths.specs.Rows.{graph}
use Rattle.works.specs.Works.{SetMemo, WorkMemo}
use Rattle.works.proofs.Working.{work_to}
use Rattle.works.proofs.+added_work.Given as goal

abbrev pub decreases-added : goal.decreases-added
decreases-added l = 2 * rank_of (graph l.wired.now.succ.now l.wired.now.runs.now l.wired.now.count) l.i

abbrev pub decreases-work : goal.decreases-work
decreases-work l = 2 * rank_of (graph l.wired.now.succ.now l.wired.now.runs.now l.wired.now.count) l.j + 1

abbrev pub invariant-work-loop-k : goal.invariant-work-loop-k
invariant-work-loop-k l = (l.sum ≡ work_to (graph l.wired.succ.now l.wired.runs.now l.wired.count) l.j (l.k + 1)) × SetMemo l.wired.succ.now l.wired.count l.brings × WorkMemo l.wired.succ.now l.wired.runs.now l.wired.count l.known

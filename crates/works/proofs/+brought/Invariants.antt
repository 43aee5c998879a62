-- The rank of the node falls with every link, and the memo is right throughout.
use mathlib.Core.List.{[]}
use Rattle.theory.proofs.Rank.{rank_of}
use Rattle.paths.specs.Rows.{graph}
use Rattle.works.specs.Works.{SetMemo}
use Rattle.works.proofs.Gathering.{Gathered}
use Rattle.works.proofs.+brought.Given as goal

abbrev pub decreases-brought : goal.decreases-brought
decreases-brought l = rank_of (graph l.wired.now.succ.now [] l.wired.now.count) l.i

abbrev pub invariant-loop-left : goal.invariant-loop-left
invariant-loop-left l = Gathered l.wired.succ.now l.wired.count l.i l.left l.set × SetMemo l.wired.succ.now l.wired.count l.brings

abbrev pub decreases-loop-left : goal.decreases-loop-left
decreases-loop-left l = l.left

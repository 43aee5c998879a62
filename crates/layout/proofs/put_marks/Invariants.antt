-- `put_marks` meets its contract: after k turns k bytes are put. Assumes nothing.
use mathlib.Core.Bool.{false}
use lib.ListN.{get_or}
use Rattle.layout.specs.Layout.{bit, Puts}
use Rattle.layout.proofs.put_marks.Given as goal

abbrev pub invariant-loop-k : goal.invariant-loop-k
invariant-loop-k l = Puts l.k (λ j. bit (get_or l.marks j false)) l.at l.initial.out l.out

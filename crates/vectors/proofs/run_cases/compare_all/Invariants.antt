-- `run_cases::compare_all` is safe and ends. The measure is what is left of the vectors. Assumes nothing.
use Rattle.std.proofs.Common.{length}
use Rattle.vectors.proofs.run_cases.compare_all.Given as goal

abbrev pub decreases-loop-left : goal.decreases-loop-left
decreases-loop-left l = length l.left

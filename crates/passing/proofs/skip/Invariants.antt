use Prim.Native.Nat.{◌-◌}
use Rattle.passing.specs.Passing.{Skips}
use Rattle.passing.proofs.skip.Given as goal

-- the calls before the k-th are passed
abbrev pub invariant-loop-k : goal.invariant-loop-k
invariant-loop-k l = Skips l.runs l.calls l.from l.to l.peak l.initial.outcomes l.k l.outcomes

abbrev pub decreases-loop-k : goal.decreases-loop-k
decreases-loop-k l = l.to - l.k

-- `rounds_between` meets its contract: no fixed point is below d, and the round at d is worked out. Assumes nothing.
use Prim.Native.Nat.{◌≤◌, ◌-◌}
use mathlib.Core.Path.{◌≡◌}
use Rattle.rounds.specs.Level.{round_in, Counted, Jump}
use Rattle.reach.proofs.rounds_between.Given as goal

abbrev pub invariant-loop-sum : goal.invariant-loop-sum
invariant-loop-sum l = Jump l.level.start l.level.loads.now l.level.gaps.now l.level.count l.limit l.d × (l.level.start ≤ l.d) × (l.sum ≡ round_in l.level.start l.level.loads.now l.level.gaps.now l.level.count l.d) × Counted l.level.loads.now l.level.gaps.now l.level.count l.d l.ends × (l.rounds ≤ l.d) × (l.passed ≤ l.d)

abbrev pub decreases-loop-sum : goal.decreases-loop-sum
decreases-loop-sum l = l.limit - l.d

-- `jumped` meets its contract: each bound is a lower bound, and only a larger one is taken. Assumes nothing.
use Prim.Native.Nat.{◌≤◌, ◌-◌}
use Rattle.rounds.specs.Level.{Jump}
use Rattle.rounds.proofs.Level.jumped.Given as goal

abbrev pub invariant-loop-far : goal.invariant-loop-far
invariant-loop-far l = Jump l.self.start l.self.loads.now l.self.gaps.now l.self.count l.limit l.far × (l.sum ≤ l.far)

abbrev pub decreases-loop-far : goal.decreases-loop-far
decreases-loop-far l = l.limit - l.far

-- `few_rounds` meets its contract: no fixed point is below d, and the round at d is worked out. Assumes nothing.
use Prim.Native.Nat.{◌≤◌, ◌-◌}
use mathlib.Core.Path.{◌≡◌}
use Rattle.rounds.specs.Level.{round_in, Counted, Shares, Jump}
use Rattle.rounds.proofs.Level.few_rounds.Given as goal

abbrev pub invariant-loop-sum : goal.invariant-loop-sum
invariant-loop-sum l = Jump l.self.start l.self.loads.now l.self.gaps.now l.self.count l.limit l.d × (l.self.start ≤ l.d) × (l.sum ≡ round_in l.self.start l.self.loads.now l.self.gaps.now l.self.count l.d) × Counted l.self.loads.now l.self.gaps.now l.self.count l.d l.ends × Shares l.self.loads.now l.self.gaps.now l.self.count l.shares × (l.rounds ≤ 256)

abbrev pub decreases-loop-sum : goal.decreases-loop-sum
decreases-loop-sum l = l.limit - l.d

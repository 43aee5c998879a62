-- `flow_bound` meets its contract: the sums of the first u sources, as a flow or by their firings. Assumes nothing.
use Prim.Native.Nat.{ℕ, ◌≤◌, ◌+◌, ◌*◌}
use mathlib.Core.Path.{◌≡◌}
use Rattle.rounds.specs.Level.{Counted}
use Rattle.rounds.proofs.Laws.{flow_to, rest_to}
use Rattle.rounds.proofs.Level.flow_bound.Given as goal

abbrev pub invariant-loop-u : goal.invariant-loop-u
invariant-loop-u l = ((d : ℕ) → Counted l.self.loads.now l.self.gaps.now l.self.count d l.ends → l.rest ≡ rest_to l.self.start l.self.loads.now l.self.gaps.now l.self.count l.ends l.shares l.far d l.u) × (l.flow ≡ flow_to l.self.start l.self.loads.now l.self.gaps.now l.self.count l.ends l.shares l.far l.u) × (l.rest ≤ 1010000000 + l.u * 1000000000) × (l.flow ≤ l.u * 8589934593)

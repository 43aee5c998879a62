-- `round_at` meets its contract: the sum of the first u sources' parts, which 64 bits hold, and their ends. Assumes nothing.
use Prim.Native.Nat.{◌≤◌, ◌+◌, ◌*◌}
use mathlib.Core.Path.{◌≡◌}
use Rattle.rounds.specs.Level.{round_in, Counted}
use Rattle.rounds.proofs.Level.round_at.Given as goal

abbrev pub invariant-loop-u : goal.invariant-loop-u
invariant-loop-u l = (l.sum ≡ round_in l.self.start l.self.loads.now l.self.gaps.now l.u l.d) × (l.sum ≤ 1010000000 + l.u * 1000000000000000000) × Counted l.self.loads.now l.self.gaps.now l.u l.d l.ends

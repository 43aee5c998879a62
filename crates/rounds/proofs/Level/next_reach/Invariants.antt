-- `next_reach` meets its contract: the first u sources are counted on to d, and 64 bits hold the sum. Assumes nothing.
use Prim.Native.Nat.{ℕ, ◌≤◌, ◌+◌, ◌*◌}
use Rattle.rounds.specs.Level.{Counted}
use Rattle.rounds.proofs.Laws.{Halfway}
use Rattle.rounds.proofs.Level.next_reach.Given as goal

abbrev pub invariant-loop-u : goal.invariant-loop-u
invariant-loop-u l = (l.sum ≤ 1000000000 + l.u * 1000000000000000000) × ((p : ℕ) → p ≤ l.d → Counted l.self.loads.now l.self.gaps.now l.self.count p l.initial.ends → Halfway l.self.loads.now l.self.gaps.now l.self.count p l.d l.before l.ends l.u l.sum)

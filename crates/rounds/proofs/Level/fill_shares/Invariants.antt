-- `fill_shares` meets its contract: every entry stored is a share, and those before were. Assumes nothing.
use Rattle.rounds.specs.Level.{Shares}
use Rattle.rounds.proofs.Level.fill_shares.Given as goal

abbrev pub invariant-loop-u : goal.invariant-loop-u
invariant-loop-u l = Shares l.self.loads.now l.self.gaps.now l.self.count l.shares

-- `choice` meets its contract: the best so far is a source that can join. Assumes nothing.
use Rattle.std.proofs.Common.{◌≤◌, ◌<◌, IfSome}
use Rattle.periods.proofs.choice.Given as goal

abbrev pub invariant-loop-u : goal.invariant-loop-u
invariant-loop-u l = IfSome l.best (λ best. (best.0 < l.sources.count) × (best.1 ≤ l.most))

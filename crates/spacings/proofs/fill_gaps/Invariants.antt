-- The places below u are filled.
use Rattle.spacings.proofs.GapLaws.{GapsTo}
use Rattle.spacings.proofs.fill_gaps.Given as goal

abbrev pub invariant-loop-u : goal.invariant-loop-u
invariant-loop-u l = GapsTo l.s l.t l.u l.gaps

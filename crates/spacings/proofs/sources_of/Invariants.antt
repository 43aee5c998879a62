-- The first u sources.
use Rattle.spacings.proofs.SourceLaws.{SourcesTo}
use Rattle.spacings.proofs.sources_of.Given as goal

abbrev pub invariant-loop-u : goal.invariant-loop-u
invariant-loop-u l = SourcesTo l.fn.d l.paces l.u

-- `verdicts::level::narrowest` meets its contract: the narrowest of the first u. Assumes nothing.
use Rattle.verdicts.specs.Tables.{NarrowestIn}
use Rattle.verdicts.proofs.level.narrowest.Given as goal

abbrev pub invariant-loop-u : goal.invariant-loop-u
invariant-loop-u l = NarrowestIn l.set l.fn.gaps l.u l.best

-- The loop's invariant: the reading that is left, from the place and with what is known and held there, answers as the reading from the start does; the counts
-- are those of the description. The measure is what is left of the bytes.
use Prim.Native.Nat.{◌-◌}
use mathlib.Core.Path.{◌≡◌}
use lib.ListN.{length}
use Rattle.model.specs.declared.Reading.{Reading}
use Rattle.theory.proofs.ReadLaws.{Counts}
use Rattle.model.specs.File.{parse_at}
use Rattle.reading.proofs.Laws.{ReadsAs}
use Rattle.reading.proofs.parse.Given as goal

abbrev pub invariant-loop-field : goal.invariant-loop-field
invariant-loop-field l = Counts l.p l.d × ((r : Reading) → ReadsAs l.s l.at l.p l.d r → r ≡ parse_at l.s l.start)

abbrev pub decreases-loop-field : goal.decreases-loop-field
decreases-loop-field l = length l.s - l.at

-- The loop's invariant: the place and what is known are those of field k of the record's file, and the reading of that file from there on ends as the whole
-- reading does.
use mathlib.Core.Path.{◌≡◌}
use Rattle.model.specs.Refusals.{Outcome}
use Rattle.model.specs.File.{file_of, parse_file}
use Rattle.theory.proofs.RecordLaws.{offset, progress_at}
use Rattle.reading.proofs.RecordSteps.{JudgesAs}
use Rattle.reading.proofs.check_record.Given as goal

abbrev pub invariant-loop-k : goal.invariant-loop-k
invariant-loop-k l = (l.p ≡ progress_at l.d l.k) × (l.at ≡ offset l.d l.k) × ((r : Outcome) → JudgesAs l.d l.k r → r ≡ (parse_file (file_of l.d)).outcome)

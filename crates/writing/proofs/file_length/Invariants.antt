-- The loop's invariant: the sum is where field k begins.
use mathlib.Core.Path.{◌≡◌}
use Rattle.theory.proofs.RecordLaws.{offset}
use Rattle.writing.proofs.file_length.Given as goal

abbrev pub invariant-loop-k : goal.invariant-loop-k
invariant-loop-k l = l.n ≡ offset l.d l.k

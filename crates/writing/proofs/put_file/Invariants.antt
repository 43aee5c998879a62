-- The loop's invariant: the buffer is the lent one with the first k fields written over its front.
use mathlib.Core.Path.{◌≡◌}
use Rattle.theory.proofs.RecordLaws.{offset}
use Rattle.writing.proofs.Pages.{page_of}
use Rattle.writing.proofs.put_file.Given as goal

abbrev pub invariant-loop-k : goal.invariant-loop-k
invariant-loop-k l = (l.at ≡ offset l.d l.k) × (l.out ≡ page_of l.d l.initial.out l.k)

-- The loop's invariant: the lines of the first l links stand on the page, behind what was there.
use Rattle.text.specs.Page.{Gains, IsInPlace}
use Rattle.report.specs.Listing.{listing}
use Rattle.report.proofs.link_lines.Given as goal

abbrev pub invariant-loop-l : goal.invariant-loop-l
invariant-loop-l l = IsInPlace l.initial.page l.page × Gains l.initial.page (listing l.fn.d l.fn.slots l.l) l.page

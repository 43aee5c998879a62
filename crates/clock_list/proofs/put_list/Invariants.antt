-- The loop's invariant of `clock_list::put_list`: the lines of the tempos below t stand on the page. Assumes nothing.
use Prim.Native.Nat.{◌-◌}
use Rattle.text.specs.Page.{Gains, IsInPlace}
use Rattle.clock_list.proofs.ListLaws.{lines_to}
use Rattle.clock_list.proofs.put_list.Given as goal

abbrev pub invariant-loop-t : goal.invariant-loop-t
invariant-loop-t l = IsInPlace l.initial.page l.page × Gains l.initial.page (lines_to (l.t - 200)) l.page

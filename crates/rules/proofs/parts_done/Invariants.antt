use Prim.Native.Nat.{◌-◌, ◌≤◌}
use mathlib.Core.Path.{◌≡◌}
use lib.ListN.{get_or}
use lib.Dec.{ltb}
use Rattle.model.specs.Basics.{sum_n, given}
use Rattle.rules.proofs.parts_done.Given as goal

-- it has counted the tasks before
abbrev pub invariant-loop-ticks : goal.invariant-loop-ticks
invariant-loop-ticks l = (l.count ≤ l.ticks-index) × (l.count ≡ sum_n (λ j. given (ltb 0 (get_or l.used (j - 1) 0)) 1) 1 l.ticks-index)

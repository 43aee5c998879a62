-- `put_numbers` meets its contract: after k turns k bytes are put. Assumes nothing.
use Prim.Native.Nat.{◌+◌, ◌-◌, ◌/◌, ◌%◌}
use lib.ListN.{get_or}
use Rattle.layout.specs.Layout.{byte_in, Puts}
use Rattle.layout.proofs.put_numbers.Given as goal

abbrev pub invariant-loop-k : goal.invariant-loop-k
invariant-loop-k l = Puts l.k (λ j. byte_in (get_or l.numbers (j / l.width) 0) (j % l.width + (4 - l.width))) l.at l.initial.out l.out

use Prim.Native.Nat.{◌+◌, ◌-◌, ◌/◌, ◌%◌}
use lib.ListN.{get_or}
use Rattle.layout.specs.Layout.{byte_in}
use Rattle.layout.proofs.Laws.{puts_more}
use Rattle.layout.proofs.put_numbers.Goals as goal

pub loop-k-preserved : goal.loop-k-preserved
loop-k-preserved c = let L = c.loop-k in let a = c.args in puts_more (λ j. byte_in (get_or a.numbers.now (j / a.width) 0) (j % a.width + (4 - a.width))) a.at a.out.now L.out L.k _ L.invariant c.byte_of.ensures

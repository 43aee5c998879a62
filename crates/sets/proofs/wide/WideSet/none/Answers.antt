-- `Set::none` of four words meets its contract. Assumes nothing.
use Prim.Native.Nat.{◌/◌, ◌%◌}
use Rattle.sets.specs.Wide.{inside}
use Rattle.sets.proofs.WideLaws.{empty}
use Rattle.sets.proofs.wide.WideSet.none.Goals as goal

pub returns : goal.returns
unfolding inside
returns c = λ l. empty (l / 64) (l % 64)

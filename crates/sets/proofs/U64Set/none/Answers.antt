-- `Set::none` of words meets its contract. Assumes nothing.
use Rattle.sets.proofs.SetLaws.{member_none}
use Rattle.sets.proofs.U64Set.none.Goals as goal

pub returns : goal.returns
returns c = member_none

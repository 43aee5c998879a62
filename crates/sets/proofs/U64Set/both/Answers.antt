-- `Set::both` of words meets its contract. Assumes nothing.
use Rattle.sets.proofs.SetLaws.{member_and}
use Rattle.sets.proofs.U64Set.both.Goals as goal

pub returns : goal.returns
returns c = member_and c.args.self c.args.other

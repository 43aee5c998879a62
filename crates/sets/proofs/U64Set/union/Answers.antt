-- `Set::union` of words meets its contract. Assumes nothing.
use Rattle.sets.proofs.SetLaws.{member_or}
use Rattle.sets.proofs.U64Set.union.Goals as goal

pub returns : goal.returns
returns c = member_or c.args.self c.args.other

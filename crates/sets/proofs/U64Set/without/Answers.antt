-- `Set::without` of words meets its contract. Assumes nothing.
use Rattle.sets.proofs.SetLaws.{member_less}
use Rattle.sets.proofs.U64Set.without.Goals as goal

pub returns : goal.returns
returns c = λ j. member_less c.args.self c.args.other j c.ranges.self.fits c.ranges.other.fits

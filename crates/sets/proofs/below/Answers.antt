-- `sets::below` meets its contract. Assumes nothing.
use Rattle.sets.proofs.SetLaws.{member_below}
use Rattle.sets.proofs.below.Goals as goal

pub returns : goal.returns
returns c = λ j. member_below c.args.set c.args.k j c.requires

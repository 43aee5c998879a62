-- `sets::one` meets its contract. Assumes nothing.
use Rattle.sets.proofs.SetLaws.{member_alone}
use Rattle.sets.proofs.one.Goals as goal

pub returns : goal.returns
returns c = λ j. member_alone c.args.k j c.requires

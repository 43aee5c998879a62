-- `sets::with` meets its contract. Assumes nothing.
use Rattle.sets.proofs.SetLaws.{member_with}
use Rattle.sets.proofs.with.Goals as goal

pub returns : goal.returns
returns c = λ j. member_with c.args.set c.args.k j c.requires

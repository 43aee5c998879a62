-- Nobody, or of the number of the last task that is part done all of its bits or none.
use Rattle.records.proofs.RecordLaws.{going_none}
use Rattle.records.proofs.running_in.Goals as goal

pub returns-then-part-eq0 : goal.returns-then-part-eq0
returns-then-part-eq0 c = λ used z h one. going_none c.args.p used c.args.part c.if-part-eq0.true h

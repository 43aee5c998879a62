use Rattle.records.proofs.RecordLaws.{none_numbered}
use Rattle.records.proofs.marked_from.Goals as goal

pub loop-k-init : goal.loop-k-init
loop-k-init c = λ j. none_numbered c.args.first j _

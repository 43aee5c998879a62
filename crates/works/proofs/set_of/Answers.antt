use Rattle.works.proofs.Gathering.{brought_none}
use Rattle.works.proofs.set_of.Goals as goal

pub returns-then-wired-i-eq0 : goal.returns-then-wired-i-eq0
returns-then-wired-i-eq0 c = (brought_none c.args.wired.now.succ.now c.args.wired.now.count c.args.i c.requires.0 c.if-wired-i-eq0.true, c.requires.1)

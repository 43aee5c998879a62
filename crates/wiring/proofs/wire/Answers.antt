-- The link's three marks.
use Rattle.wiring.proofs.RowLaws.{wired_more}
use Rattle.wiring.proofs.wire.Goals as goal

pub returns : goal.returns
returns c = let p = c.requires in wired_more c.args.l c.args.x c.args.y c.args.rows.now p.3 p.1 p.2 c.with.result c.with-2.result c.with-3.result c.with.ensures c.with-2.ensures c.with-3.ensures

-- Word by word.
use Rattle.records.proofs.RecordLaws.{links_words}
use Rattle.records.proofs.links_in.Goals as goal

pub returns : goal.returns
returns c = links_words c.marked_from.result c.marked_from-2.result c.marked_from-3.result c.marked_from-4.result c.args.marks.now c.requires c.marked_from.ensures c.marked_from-2.ensures c.marked_from-3.ensures c.marked_from-4.ensures

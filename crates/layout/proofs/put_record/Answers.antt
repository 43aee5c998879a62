-- `put_record` meets its contract: the parts are put one after the other. Assumes nothing.
use mathlib.Core.Path.{◌≡◌}
use lib.ListN.{length}
use Rattle.layout.proofs.Laws.{record_put}
use borrow.Author.Rules.{rules}
use Rattle.layout.proofs.put_record.Goals as goal

pub returns : goal.returns
returns c =
    -- how long the parts are
    let awake-length : length c.args.m.awake ≡ 32 = search rules in
    let used-length : length c.args.m.used ≡ 32 = search rules in
    let waiting-length : length c.args.m.waiting ≡ 256 = search rules in
    let dropped-length : length c.args.m.dropped ≡ 256 = search rules in
    let ages-length : length c.args.m.ages ≡ 16 = search rules in
    let fastest-length : length c.args.m.fastest ≡ 16 = search rules in
    let again-length : length c.args.m.again ≡ 32 = search rules in
    let late-length : length c.args.m.late ≡ 256 = search rules in
    record_put c.args.m c.args.out.now _ _ _ _ _ _ _ _ c.requires _ _ _ _ _ _ _ _ awake-length used-length waiting-length dropped-length ages-length fastest-length again-length late-length c.put_marks.ensures c.put_numbers.ensures c.put_marks-2.ensures c.put_marks-3.ensures c.put_numbers-2.ensures c.put_numbers-3.ensures c.put_marks-4.ensures c.put_marks-5.ensures

use mathlib.Core.Path.{◌≡◌}
use lib.ListN.{length}
use Rattle.machine.proofs.TickLaws.{mask_sourced, mask_marks}
use borrow.Author.Rules.{rules}
use Rattle.machine.proofs.tick.mask_of.Goals as goal

pub returns : goal.returns
returns c =
    let z : length c.args.a.marks ≡ 16 = search rules in
    (mask_sourced c.marked_from.result c.args.a.marks z c.marked_from.ensures, mask_marks c.marked_from.result c.args.a.marks z c.marked_from.ensures)

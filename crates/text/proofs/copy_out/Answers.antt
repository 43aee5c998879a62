use mathlib.Core.Path.{refl}
use lib.ListN.{length}
use lib.Seq.{length-take-le}
use borrow.Author.Tests.{lt-ltb, le-ltb}
use Rattle.model.specs.File.{fill_with, filled_by}
use Rattle.text.proofs.copy_out.Goals as goal

pub returns-then-out-n : goal.returns-then-out-n
unfolding fill_with filled_by
returns-then-out-n c = rw (length-take-le c.args.n c.args.page.now c.requires, lt-ltb (length c.args.out.now) c.args.n c.if-out-n.true, c.at.ensures) (refl, refl)

pub returns : goal.returns
unfolding fill_with filled_by
returns c = rw (length-take-le c.args.n c.args.page.now c.requires, le-ltb (length c.args.out.now) c.args.n c.if-out-n.false, c.copy_from_slice.ensures.after) (refl, refl)

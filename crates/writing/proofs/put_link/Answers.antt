use mathlib.Core.Path.{refl}
use Rattle.writing.proofs.Pages.{part_copied}
use Rattle.writing.proofs.put_link.Goals as goal

pub returns : goal.returns
returns c = part_copied _ c.args.out.now c.copy_from_slice.new.self c.args.at 6 refl c.requires c.copy_from_slice.ensures.after

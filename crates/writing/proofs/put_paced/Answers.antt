use mathlib.Core.Path.{refl}
use native.Mathlib.Numerals.{towards_suc}
use Rattle.model.specs.Header.{bytes_of}
use Rattle.writing.proofs.Pages.{part_copied}
use Rattle.writing.proofs.put_paced.Goals as goal

pub returns : goal.returns
unfolding bytes_of
returns c = part_copied _ c.args.out.now c.copy_from_slice.new.self c.args.at 5 refl c.requires (rw c.to_be_bytes.ensures at c.copy_from_slice.ensures.after)

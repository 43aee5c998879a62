use Prim.Native.Nat.{◌/◌}
use mathlib.Core.Path.{◌≡◌, refl}
use native.Mathlib.Omega.{arith}
use Rattle.model.specs.Header.{bytes_of}
use Rattle.writing.proofs.Pages.{part_copied}
use Rattle.writing.proofs.put_wide.Goals as goal

pub returns : goal.returns
unfolding bytes_of
returns c =
    let x = c.args.x in
    let e : x / 16777216 ≡ x / 256 / 256 / 256 = omega arith in
    let f : x / 65536 ≡ x / 256 / 256 = omega arith in
    part_copied _ c.args.out.now c.copy_from_slice.new.self c.args.at 7 refl c.requires (rw (c.to_be_bytes.ensures, e, f) at c.copy_from_slice.ensures.after)

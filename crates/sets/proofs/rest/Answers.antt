-- `sets::rest` meets its contract. Assumes nothing.
use Prim.Native.Nat.{◌-◌}
use native.Mathlib.Omega.{arith}
use lib.Bits.{and_le_r}
use Rattle.sets.proofs.SetLaws.{member_rest}
use Rattle.sets.proofs.rest.Goals as goal

pub returns : goal.returns
returns c =
    let s = c.args.set in
    record { fewer = omega (arith, and_le_r s (s - 1)); later = λ k f j. member_rest k s j f.in_set f.none_before }

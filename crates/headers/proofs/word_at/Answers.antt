-- `headers::word_at` meets its contract. Assumes nothing.
use Prim.Native.Nat.{◌+◌}
use mathlib.Core.Path.{◌≡◌}
use native.Mathlib.Omega.{arith}
use Rattle.model.specs.Header.{number_in}
use Rattle.headers.proofs.word_at.Goals as goal

pub returns : goal.returns
unfolding number_in
returns c =
    let z : c.args.at + 0 ≡ c.args.at = omega arith in
    rw z (omega (arith, c.from_be_bytes.ensures))

-- `sets::first` meets its contract: as many zeros stand below the lowest bit. Assumes nothing.
use mathlib.Core.Path.{ap}
use lib.Dec.{eqb}
use borrow.Author.Rules.{rules}
use Rattle.std.specs.Int.Width.{w64}
use Rattle.std.proofs.lemmas.Nat.Bits.{bit_at-trailing_zeros}
use Rattle.sets.specs.Sets.{member}
use Rattle.sets.proofs.first.Goals as goal

pub returns : goal.returns
unfolding member
returns c =
    let x = bit_at-trailing_zeros w64 c.args.set c.requires (search rules) in
    record { below = x.0; in_set = ap (λ z. eqb z 1) x.1; none_before = λ k p. ap (λ z. eqb z 1) (x.2 k p) }

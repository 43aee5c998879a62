-- `sets::last` meets its contract: as many zeros stand above the highest bit. Assumes nothing.
use native.Mathlib.Omega.{arith}
use borrow.Author.Rules.{rules}
use Rattle.sets.proofs.SetLaws.{last_some}
use Rattle.sets.proofs.last.Goals as goal

pub returns : goal.returns
returns c =
    let x = last_some c.args.set c.requires (search rules) in
    record { below = omega arith; in_set = x.1; none_after = x.2 }

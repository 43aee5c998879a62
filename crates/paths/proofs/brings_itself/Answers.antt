use Prim.Native.Nat.{ℕ}
use mathlib.Core.Path.{refl, ◌∙◌}
use native.Mathlib.Omega.{arith}
use lib.ListN.{get_or}
use borrow.Author.Rules.{rules}
use borrow.Author.Tests.{tests}
use Rattle.std.proofs.lemmas.Iterator.{YieldsList-from_range}
use Rattle.std.proofs.lemmas.Iterator.Search.{any_from_yields_List}
use Rattle.lemmas.proofs.Chains.{any_range}
use Rattle.sets.specs.Sets.{member}
use Rattle.paths.specs.Rows.{self_in}
use Rattle.paths.proofs.brings_itself.Goals as goal

pub returns : goal.returns
unfolding self_in
returns c =
    let n = c.args.n in
    let here = λ (i : ℕ). member (get_or c.args.rows.now i 0) i in
    any_from_yields_List here _ _ _ c.any.ensures.ran (YieldsList-from_range 0 n n refl (omega arith)) (λ x b q k. search (rules, tests)) ∙ any_range here 0 n

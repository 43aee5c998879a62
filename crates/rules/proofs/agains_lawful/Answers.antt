use mathlib.Core.Path.{refl, sym, ◌∙◌}
use mathlib.Core.Bool.{false, ◌||◌, not}
use lib.ListN.{get_or}
use lib.Dec.{ltb}
use borrow.Author.Rules.{rules}
use borrow.Author.Tests.{tests}
use Rattle.std.proofs.lemmas.Iterator.{YieldsList-from_range}
use Rattle.std.proofs.lemmas.Iterator.Search.{all_from_yields_List}
use Rattle.model.specs.Machine.{again_rule}
use Rattle.rules.proofs.RuleLaws.{all_range, again_is}
use Rattle.rules.proofs.agains_lawful.Goals as goal

pub returns : goal.returns
returns c =
    let m = c.args.m.now in
    all_from_yields_List (λ k. not (get_or m.again k false) || ltb 0 (get_or m.used k 0)) _ _ c.all.result c.all.ensures.ran (YieldsList-from_range 0 32 32 refl refl) (λ x b q k. search (rules, tests))
    ∙ all_range (again_rule m) _ 1 32 (λ k h. sym (again_is m k))

use Prim.Native.Nat.{◌-◌}
use mathlib.Core.Path.{refl, ◌∙◌}
use mathlib.Core.Bool.{false, not}
use lib.ListN.{get_or}
use borrow.Author.Rules.{rules}
use borrow.Author.Tests.{tests}
use Rattle.std.proofs.lemmas.Iterator.{YieldsList-from_range}
use Rattle.std.proofs.lemmas.Iterator.Search.{all_from_yields_List}
use Rattle.rules.proofs.RuleLaws.{absent_is}
use Rattle.rules.proofs.absent_lawful.Goals as goal

pub returns : goal.returns
returns c =
    let n = c.args.links in
    let marks = c.args.marks.now in
    all_from_yields_List (λ l. not (get_or marks l false)) _ _ c.all.result c.all.ensures.ran (YieldsList-from_range n 256 (256 - n) refl refl) (λ x b q k. search (rules, tests)) ∙ absent_is n marks c.told-marks

use mathlib.Core.Path.{refl, sym, ◌∙◌}
use mathlib.Core.Bool.{false, ◌||◌, ◌&&◌, not, cond}
use lib.ListN.{get_or}
use lib.Dec.{ltb, eqb}
use borrow.Author.Rules.{rules}
use borrow.Author.Tests.{tests}
use Rattle.std.proofs.lemmas.Iterator.{YieldsList-from_range}
use Rattle.std.proofs.lemmas.Iterator.Search.{all_from_yields_List}
use Rattle.model.specs.Machine.{task_rule}
use Rattle.rules.proofs.RuleLaws.{all_range, task_is}
use Rattle.rules.proofs.tasks_lawful.Goals as goal

pub returns : goal.returns
returns c =
    λ d r.
    let w = c.args.w.now in
    let m = c.args.m.now in
    all_from_yields_List (λ k. cond (ltb k w.tasks) (ltb (get_or m.used k 0) (get_or w.runs k 0) && (get_or m.awake k false || eqb (get_or m.used k 0) 0)) (not (get_or m.awake k false) && eqb (get_or m.used k 0) 0)) _ _ c.all.result c.all.ensures.ran (YieldsList-from_range 0 32 32 refl refl) (λ x b q k. search (rules, tests))
    ∙ all_range (task_rule d m) _ 1 32 (λ k h. sym (task_is d w m r k))

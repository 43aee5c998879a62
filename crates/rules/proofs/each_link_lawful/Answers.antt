use Prim.Native.Nat.{◌-◌}
use mathlib.Core.Path.{refl, sym, ap, ◌∙◌}
use mathlib.Core.Bool.{false, ◌||◌, not}
use native.Mathlib.Omega.{arith}
use lib.ListN.{get_or}
use borrow.Author.Rules.{rules}
use borrow.Author.Tests.{tests}
use Rattle.std.proofs.lemmas.Iterator.{YieldsList-from_range}
use Rattle.std.proofs.lemmas.Iterator.Search.{all_from_yields_List}
use Rattle.model.specs.Basics.{all_n}
use Rattle.model.specs.Machine.{link_rule}
use Rattle.rules.proofs.RuleLaws.{all_range, link_is}
use Rattle.rules.proofs.each_link_lawful.Goals as goal

pub returns : goal.returns
returns c =
    λ d r.
    let w = c.args.w.now in
    let m = c.args.m.now in
    all_from_yields_List (λ l. not (get_or m.waiting l false) || get_or m.awake (get_or w.to l 0 - 1) false) _ _ c.all.result c.all.ensures.ran (YieldsList-from_range 0 w.links w.links refl (omega arith)) (λ x b q k. search (rules, tests))
    ∙ all_range (link_rule d m) _ 0 w.links (λ l h. sym (link_is d w m r l h)) ∙ ap (all_n (link_rule d m) 0) (sym r.many)

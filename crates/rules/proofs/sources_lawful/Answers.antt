use mathlib.Core.Path.{refl, sym, ◌∙◌}
use mathlib.Core.Bool.{◌&&◌, cond}
use lib.ListN.{get_or}
use lib.Dec.{ltb, leb, eqb}
use borrow.Author.Rules.{rules}
use borrow.Author.Tests.{tests}
use Rattle.std.proofs.lemmas.Iterator.{YieldsList-from_range}
use Rattle.std.proofs.lemmas.Iterator.Search.{all_from_yields_List}
use Rattle.model.specs.Verdicts.{on_knob}
use Rattle.model.specs.Machine.{source_rule}
use Rattle.rules.proofs.RuleLaws.{all_range, source_is}
use Rattle.rules.proofs.sources_lawful.Goals as goal

pub returns : goal.returns
returns c =
    λ d r g.
    let w = c.args.w.now in
    let m = c.args.m.now in
    let gaps = c.args.gaps.now in
    all_from_yields_List (λ u. cond (ltb u w.sources) (leb (get_or m.ages u 0) (get_or gaps u 0) && cond (eqb (get_or m.fastest u 0) 0) (eqb (get_or m.ages u 0) (get_or gaps u 0)) (on_knob (get_or m.fastest u 0))) (eqb (get_or m.ages u 0) 0 && eqb (get_or m.fastest u 0) 0)) _ _ c.all.result c.all.ensures.ran (YieldsList-from_range 0 16 16 refl refl) (λ x b q k. search (rules, tests))
    ∙ all_range (source_rule d m) _ 0 16 (λ u h. sym (source_is d w m gaps r g u))

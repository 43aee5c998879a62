-- The five rules, one after the other.
use mathlib.Core.Path.{◌≡◌, ◌∙◌}
use mathlib.Core.Bool.{◌&&◌}
use Rattle.model.specs.Basics.{all_n}
use Rattle.model.specs.Machine.{task_rule, links_rule, source_rule, again_rule, lates_rule, rules_kept}
use Rattle.rules.proofs.RuleLaws.{broken, kept, nested}
use Rattle.rules.proofs.rules_kept.Goals as goal
use Rattle.rules.proofs.rules_kept.Goals.{then-tasks_lawful, else-tasks_lawful, then-links_lawful, else-links_lawful, then-sources_lawful, else-sources_lawful}

pub returns-then-agains_lawful : goal.returns-then-agains_lawful
unfolding rules_kept
returns-then-agains_lawful c = λ d r g.
    let m = c.args.m.now in
    let links : c.if-tasks_lawful.value ≡ (all_n (task_rule d m) 1 32 && links_rule d m) = elim c.if-tasks_lawful.branch [ then-tasks_lawful w ↦ w.value-is ∙ kept (c.tasks_lawful.ensures d r) w.if-tasks_lawful.true (w.links_lawful.ensures d r) | else-tasks_lawful w ↦ w.value-is ∙ w.if-tasks_lawful.false ∙ broken _ (c.tasks_lawful.ensures d r) w.if-tasks_lawful.false ] in
    let sources : c.if-links_lawful.value ≡ ((all_n (task_rule d m) 1 32 && links_rule d m) && all_n (source_rule d m) 0 16) = elim c.if-links_lawful.branch [ then-links_lawful w ↦ w.value-is ∙ kept links w.if-links_lawful.true (w.sources_lawful.ensures d r g) | else-links_lawful w ↦ w.value-is ∙ w.if-links_lawful.false ∙ broken _ links w.if-links_lawful.false ] in
    let agains : c.if-sources_lawful.value ≡ (((all_n (task_rule d m) 1 32 && links_rule d m) && all_n (source_rule d m) 0 16) && all_n (again_rule m) 1 32) = elim c.if-sources_lawful.branch [ then-sources_lawful w ↦ w.value-is ∙ kept sources w.if-sources_lawful.true w.agains_lawful.ensures | else-sources_lawful w ↦ w.value-is ∙ w.if-sources_lawful.false ∙ broken _ sources w.if-sources_lawful.false ] in
    kept agains c.if-agains_lawful.true (c.lates_lawful.ensures d r) ∙ nested (all_n (task_rule d m) 1 32) (links_rule d m) (all_n (source_rule d m) 0 16) (all_n (again_rule m) 1 32) (lates_rule d m)

pub returns-else-agains_lawful : goal.returns-else-agains_lawful
unfolding rules_kept
returns-else-agains_lawful c = λ d r g.
    let m = c.args.m.now in
    let links : c.if-tasks_lawful.value ≡ (all_n (task_rule d m) 1 32 && links_rule d m) = elim c.if-tasks_lawful.branch [ then-tasks_lawful w ↦ w.value-is ∙ kept (c.tasks_lawful.ensures d r) w.if-tasks_lawful.true (w.links_lawful.ensures d r) | else-tasks_lawful w ↦ w.value-is ∙ w.if-tasks_lawful.false ∙ broken _ (c.tasks_lawful.ensures d r) w.if-tasks_lawful.false ] in
    let sources : c.if-links_lawful.value ≡ ((all_n (task_rule d m) 1 32 && links_rule d m) && all_n (source_rule d m) 0 16) = elim c.if-links_lawful.branch [ then-links_lawful w ↦ w.value-is ∙ kept links w.if-links_lawful.true (w.sources_lawful.ensures d r g) | else-links_lawful w ↦ w.value-is ∙ w.if-links_lawful.false ∙ broken _ links w.if-links_lawful.false ] in
    let agains : c.if-sources_lawful.value ≡ (((all_n (task_rule d m) 1 32 && links_rule d m) && all_n (source_rule d m) 0 16) && all_n (again_rule m) 1 32) = elim c.if-sources_lawful.branch [ then-sources_lawful w ↦ w.value-is ∙ kept sources w.if-sources_lawful.true w.agains_lawful.ensures | else-sources_lawful w ↦ w.value-is ∙ w.if-sources_lawful.false ∙ broken _ sources w.if-sources_lawful.false ] in
    c.if-agains_lawful.false ∙ broken (lates_rule d m) agains c.if-agains_lawful.false ∙ nested (all_n (task_rule d m) 1 32) (links_rule d m) (all_n (source_rule d m) 0 16) (all_n (again_rule m) 1 32) (lates_rule d m)

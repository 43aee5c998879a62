-- Bit by bit.
use mathlib.Core.Path.{refl, ap, ◌∙◌}
use mathlib.Core.Bool.{◌||◌, ◌&&◌}
use Rattle.sets.specs.Wide.{inside}
use Rattle.steps.proofs.MarkLaws.{marks_completed}
use Rattle.steps.proofs.complete.Goals as goal

pub returns : goal.returns
returns c =
    let A = c.args in
    record {
      completed = λ d m g r p q some h. marks_completed d A.rows.now A.h A.w _ c.one.result c.one.ensures m g r p q h some c.without.ensures c.without-2.ensures (λ l. c.union.ensures l ∙ ap (λ b. inside A.w.dropped l || b) (c.both.ensures l ∙ ap (λ b. inside A.w.fresh l && b) (c.both-served.ensures l))) (refl, refl);
      then = refl;
      knob = (refl, refl);
      runs = refl;
    }

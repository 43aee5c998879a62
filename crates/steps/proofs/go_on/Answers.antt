-- Its run began in this tick, or before it.
use mathlib.Core.Path.{◌≡◌, ◌∙◌}
use lib.Dec.{eqb}
use borrow.Author.Tests.{eq-eqb}
use Rattle.steps.proofs.go_on.Goals as goal

pub returns-then-spent-eq0 : goal.returns-then-spent-eq0
returns-then-spent-eq0 c =
    let zero : eqb c.args.spent 0 ≡ _ = eq-eqb c.args.spent 0 c.if-spent-eq0.true in
    record {
      gone = λ d m n g r p q e wakes grows h. c.begin.ensures.started d m n g r p q (e ∙ c.if-spent-eq0.true) wakes grows h;
      then = c.begin.ensures.then;
      knob = c.begin.ensures.knob;
      runs = rw zero c.begin.ensures.runs;
    }

-- `order_held` meets its contract. Assumes nothing.
use mathlib.Core.Path.{◌≡◌, refl, sym, ◌∙◌}
use mathlib.Core.Bool.{true, false}
use Rattle.neighbourhoods.specs.Orders.{between_tasks, order_held}
use Rattle.neighbourhoods.proofs.order_held.Goals as goal

pub returns-then-not-between_tasks : goal.returns-then-not-between_tasks
unfolding order_held
returns-then-not-between_tasks c =
    let b : between_tasks c.args.link ≡ false = sym c.between_tasks.ensures ∙ c.if-not-between_tasks.true in
    rw (c.if-not-between_tasks.true, b) refl

pub returns-else-not-between_tasks : goal.returns-else-not-between_tasks
unfolding order_held
returns-else-not-between_tasks c =
    let b : between_tasks c.args.link ≡ true = sym c.between_tasks.ensures ∙ c.if-not-between_tasks.false in
    rw b refl

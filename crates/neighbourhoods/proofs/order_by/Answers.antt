use Rattle.std.proofs.Common.{rules}
-- `order_by` meets its contract. Assumes nothing.
use Rattle.std.specs.Prelude.{is_none}
use mathlib.Core.Path.{◌≡◌, sym, ap, ap₂, ◌∙◌}
use mathlib.Core.Bool.{true, false}
use lib.Dec.{eqb}
use Rattle.model.specs.declared.Walk.{Walk}
use Rattle.model.specs.Order.{walk, in_order}
use Rattle.neighbourhoods.specs.Into.{into_system}
use Rattle.neighbourhoods.specs.Orders.{between_tasks, order_by}
use Rattle.neighbourhoods.proofs.order_by.Goals as goal

pub returns-then-between_tasks : goal.returns-then-between_tasks
unfolding order_by in_order
returns-then-between_tasks c =
    let a = c.args in
    let b : between_tasks a.link ≡ true = sym c.between_tasks.ensures ∙ c.if-between_tasks.true in
    let walked : c.walk_back.result ≡ walk (into_system a.into.now) a.link.from a.link.to = c.walk_back.ensures ∙ ap₂ (walk (into_system a.into.now)) c.from-from.ensures c.from-to.ensures in
    let n : c.is_none.result ≡ is_none c.walk_back.result.failed = search rules in
    rw b (n ∙ ap (λ (v : Walk). is_none v.failed) walked)

pub returns-else-between_tasks : goal.returns-else-between_tasks
unfolding order_by
returns-else-between_tasks c =
    let b : between_tasks c.args.link ≡ false = sym c.between_tasks.ensures ∙ c.if-between_tasks.false in
    rw b c.if-between_tasks.false

-- `orders_held` meets its contract. Assumes nothing.
use Prim.Native.Nat.{ℕ}
use mathlib.Core.Path.{refl, ◌∙◌}
use mathlib.Core.Bool.{false}
use native.Mathlib.Omega.{arith}
use lib.ListN.{get_or}
use borrow.Author.Rules.{rules}
use borrow.Author.Tests.{tests}
use Rattle.std.proofs.lemmas.Iterator.{YieldsList-from_range}
use Rattle.std.proofs.lemmas.Iterator.Search.{all_from_yields_List}
use Rattle.model.specs.Graph.{link_at}
use Rattle.lemmas.proofs.Chains.{all_range}
use Rattle.neighbourhoods.specs.Orders.{order_held}
use Rattle.neighbourhoods.proofs.OrderLaws.{orders_held_by}
use Rattle.neighbourhoods.proofs.orders_held.Goals as goal

pub returns : goal.returns
returns c =
    let d = c.args.d in
    let held = λ (l : ℕ). order_held (link_at d l) (get_or c.args.orders.now l false) in
    all_from_yields_List held _ _ _ c.all.ensures.ran (YieldsList-from_range 0 d.link_count d.link_count refl (omega arith)) (λ x b q k. search (rules, tests))
    ∙ (all_range held 0 d.link_count ∙ orders_held_by d c.args.orders.now c.requires.1)

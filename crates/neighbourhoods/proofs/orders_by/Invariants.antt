-- `orders_by` meets its contract: the places below l are filled. Assumes nothing.
use Prim.Native.Nat.{ℕ, ◌<◌}
use mathlib.Core.Path.{◌≡◌}
use mathlib.Core.Bool.{false}
use lib.ListN.{length, get_or}
use Rattle.model.specs.Graph.{link_at}
use Rattle.neighbourhoods.specs.Orders.{order_by}
use Rattle.neighbourhoods.proofs.orders_by.Given as goal

abbrev pub invariant-loop-l : goal.invariant-loop-l
invariant-loop-l l = (length l.orders ≡ 256) × ((k : ℕ) → k < l.l → get_or l.orders k false ≡ order_by l.into (link_at l.fn.d k))

-- Laws of the order of links between tasks. Assumes nothing.
use Prim.Native.Nat.{ℕ, ◌<◌}
use mathlib.Core.Path.{◌≡◌, refl, ◌∙◌}
use mathlib.Core.Bool.{Bool, true, false, cond}
use mathlib.Core.List.{List}
use lib.ListN.{get_or}
use lib.Dec.{ltb, eqb}
use borrow.Author.Tests.{eq-eqb, eqb-true, lt-ltb, ltb-true}
use Rattle.model.specs.declared.Link.{Link}
use Rattle.model.specs.declared.Description.{Description}
use Rattle.model.specs.Graph.{system, link_at}
use Rattle.model.specs.Order.{in_order}
use Rattle.lemmas.proofs.Tests.{and_left, and_right, both}
use Rattle.lemmas.proofs.Range.{all_cong}
use native.Mathlib.Omega.{arith}
use Rattle.model.specs.Basics.{all_n}
use Rattle.theory.proofs.WellFormed.{WellFormed}
use Rattle.theory.proofs.Links.{ends_inside}
use Rattle.theory.proofs.Walk.{in_order-alike}
use Rattle.neighbourhoods.specs.Into.{into_system, IntoOf}
use Rattle.neighbourhoods.specs.Orders.{between_tasks, order_by, OrdersOf, order_held, orders_held}

pub between_is : (k : Link) → k.critical ≡ 1 → k.from < 33 → between_tasks k ≡ true
between_is k e h = both (eqb k.critical 1) (ltb k.from 33) (eq-eqb k.critical 1 e) (lt-ltb k.from 33 h)

pub is_between : (k : Link) → between_tasks k ≡ true → (k.critical ≡ 1) × (k.from < 33)
is_between k e =
    (eqb-true k.critical 1 (and_left (eqb k.critical 1) (ltb k.from 33) e), ltb-true k.from 33 (and_right (eqb k.critical 1) (ltb k.from 33) e))

-- orders over the sets of links are the orders
pub orders_of : (d : Description) → WellFormed d → (into : List ℕ) (orders : List Bool) → IntoOf d into → ((l : ℕ) → l < d.link_count → get_or orders l false ≡ order_by into (link_at d l)) → OrdersOf d orders
unfolding order_by system
orders_of d g into orders m h l p q e =
    h l p ∙ rw (eq-eqb (link_at d l).critical 1 e, lt-ltb (link_at d l).from 33 q)
    (in_order-alike (into_system into) (system d) m (link_at d l).from (link_at d l).to (ends_inside d g.fields l p).0)

-- the order by the table is the link's own
pub order_by_lem : (d : Description) (orders : List Bool) (l : ℕ) → OrdersOf d orders → l < d.link_count → order_held (link_at d l) (get_or orders l false) ≡ order_held (link_at d l) (in_order (system d) (link_at d l).from (link_at d l).to)
unfolding order_held
order_by_lem d orders l o p = go (between_tasks (link_at d l)) refl
  where
    go : (b : Bool) → between_tasks (link_at d l) ≡ b → cond b (get_or orders l false) true ≡ cond b (in_order (system d) (link_at d l).from (link_at d l).to) true
    go true e = let k = is_between (link_at d l) e in o l p k.1 k.0
    go false e = refl

-- orders by the table, all together
pub orders_held_by : (d : Description) (orders : List Bool) → OrdersOf d orders → all_n (λ l. order_held (link_at d l) (get_or orders l false)) 0 d.link_count ≡ orders_held d
unfolding orders_held
orders_held_by d orders o =
    all_cong (λ l. order_held (link_at d l) (get_or orders l false)) (λ l. order_held (link_at d l) (in_order (system d) (link_at d l).from (link_at d l).to)) 0 d.link_count (λ k p q. order_by_lem d orders k o (omega arith))

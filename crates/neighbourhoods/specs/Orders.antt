-- The order of critical links between tasks, link by link and all together.
use Rattle.std.specs.Prelude.{ℕ, ◌<◌, ◌≡◌, Bool, true, false, cond, ◌&&◌, List, get_or, ltb, eqb}
use Rattle.model.specs.declared.Link.{Link}
use Rattle.model.specs.declared.Description.{Description}
use Rattle.model.specs.Basics.{all_n}
use Rattle.model.specs.Graph.{system, link_at}
use Rattle.model.specs.Order.{in_order}
use Rattle.neighbourhoods.specs.Into.{into_system}

-- whether a link is critical and between tasks
abbrev pub between_tasks : Link → Bool
between_tasks k = eqb k.critical 1 && ltb k.from 33

-- whether such a link is in order over the sets of links; false for any other
unfoldable pub order_by : List ℕ → Link → Bool
order_by into k = cond (between_tasks k) (in_order (into_system into) k.from k.to) false

-- by link: whether a critical link between tasks is in order
abbrev pub OrdersOf : Description → List Bool → Type 0
OrdersOf d t = (l : ℕ) → l < d.link_count → (link_at d l).from < 33 → (link_at d l).critical ≡ 1 → get_or t l false ≡ in_order (system d) (link_at d l).from (link_at d l).to

-- a link's order, where it is asked for one
unfoldable pub order_held : Link → Bool → Bool
order_held k order = cond (between_tasks k) order true

-- every critical link between tasks is in order
unfoldable pub orders_held : Description → Bool
orders_held d = all_n (λ l. order_held (link_at d l) (in_order (system d) (link_at d l).from (link_at d l).to)) 0 d.link_count

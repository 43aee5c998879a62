-- `orders_of` meets its contract. Assumes nothing.
use Rattle.neighbourhoods.proofs.OrderLaws.{orders_of}
use Rattle.neighbourhoods.proofs.orders_of.Goals as goal

pub returns : goal.returns
returns c = orders_of c.args.d c.requires c.predecessors.result c.orders_by.result c.predecessors.ensures c.orders_by.ensures

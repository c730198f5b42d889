use Rattle.drill_text.proofs.Orders.{order-one}
use Rattle.drill_text.proofs.laws.one_order.Goals as goal

pub returns : goal.returns
returns c = order-one

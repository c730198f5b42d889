use Rattle.drill_text.proofs.Orders.{order-read}
use Rattle.drill_text.proofs.laws.orders_are_read.Goals as goal

pub returns : goal.returns
returns c = order-read

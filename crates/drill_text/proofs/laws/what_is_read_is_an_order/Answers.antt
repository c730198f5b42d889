use Rattle.drill_text.proofs.Orders.{order-was}
use Rattle.drill_text.proofs.laws.what_is_read_is_an_order.Goals as goal

pub returns-clause-text : goal.returns-clause-text
returns-clause-text c = λ text o e. (order-was text o e).0

pub returns-clause-lease : goal.returns-clause-lease
returns-clause-lease c = λ text o e. (order-was text o e).1

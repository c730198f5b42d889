use Rattle.rendezvous.proofs.Lined.{Backed-new}
use Rattle.rendezvous.proofs.offers.Offers.new.Goals as goal

pub invariant_of-result : goal.invariant_of-result
invariant_of-result c = Backed-new c.new.result.items c.new-2.result.items c.new-3.result c.new.ensures.items c.new-2.ensures.items c.new-3.ensures.lists c.new-3.ensures.places

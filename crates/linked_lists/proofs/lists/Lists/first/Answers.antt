use Rattle.std.proofs.Common.{subst}
use Rattle.linked_lists.specs.Lists.{IsSound}
use Rattle.linked_lists.proofs.Held.{IsSound-from_ring}
use Rattle.linked_lists.proofs.lists.Lists.first.Goals as goal

pub returns-clause-sound : goal.returns-clause-sound
returns-clause-sound c = subst IsSound c.self.view_is (IsSound-from_ring c.self.inside.links.ends.items c.self.inside.links.places.items _ _ c.self.invariant.ring)

use Rattle.std.proofs.Common.{◌≤◌, arith, sym, ◌∙◌}
use Rattle.linked_lists.specs.Lists.{list_at}
use Rattle.linked_lists.proofs.Following.{first_listed}
use Rattle.thread_slots.proofs.queues.Queues.first.Goals as goal

pub overflow_cast-result : goal.overflow_cast-result
overflow_cast-result c =
    let there : c.in_ok-place.place ≤ c.self.inside.lists.places = (c.in_ok-place.ensures.sound.there 0 c.in_ok-place.place (first_listed c.in_ok-place.place (list_at c.self.inside.lists.lists 0) (sym c.in_ok-place.ensures.first))).1 in
    omega (arith, c.self.invariant.fits)

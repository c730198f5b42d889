use Rattle.live_desk.proofs.Living.{first_left, released_live}
use Rattle.live_desk.proofs.desk.LiveDesk.release.Goals as goal

pub invariant_of-self : goal.invariant_of-self
invariant_of-self c =
    released_live c.self.inside.book c.release.new.self c.self.inside.waiting.items c.release.result c.release.ensures.released
    (first_left _ _ c.release.result c.release.ensures.err) c.self.invariant

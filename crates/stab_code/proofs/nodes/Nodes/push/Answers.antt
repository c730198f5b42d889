-- The head and its parts stand behind the others.
use Rattle.stab_code.proofs.Stored.{node_pushed}
use Rattle.stab_code.proofs.nodes.Nodes.push.Goals as goal

pub returns : goal.returns
returns c =
    rw (c.push_reserved.ensures.items, c.in_ok-push.ensures, c.reserve.ensures.items, ← c.self.view_is)
    (node_pushed c.self.inside.heads.items c.self.inside.parts c.args.head c.args.parts.now c.self.invariant)

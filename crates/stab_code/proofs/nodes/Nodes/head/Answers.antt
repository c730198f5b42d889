-- The heads are kept in the order of the nodes.
use Rattle.std.proofs.Common.{ap, slice_get, ◌∙◌}
use Rattle.stab_code.proofs.Stored.{head_at}
use Rattle.stab_code.proofs.nodes.Nodes.head.Goals as goal

pub returns : goal.returns
returns c =
    let kept = ap (λ heads. slice_get heads c.args.n.0) c.deref.ensures.value in
    rw (← c.self.view_is) (c.head_in.ensures ∙ kept ∙ head_at c.self.inside.heads.items c.self.inside.parts c.args.n.0 c.self.invariant)

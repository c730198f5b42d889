-- Nodes are the same where their heads and their parts are, and only there.
use Rattle.std.proofs.Common.{◌≡◌, sym, ◌∙◌}
use Rattle.stab_code.proofs.Stored.{stored_nodes}
use Rattle.stab_code.proofs.nodes.NodesSame.same.Goals as goal

pub returns-then-all_same : goal.returns-then-all_same
returns-then-all_same c =
    let heads : c.self.inside.heads.items ≡ c.other.inside.heads.items = sym c.deref.ensures.value ∙ c.all_same.ensures.0 c.if-all_same.true ∙ c.deref-2.ensures.value in (
      λ eq. sym c.self.view_is ∙ rw (heads, c.same.ensures.0 eq) c.other.view_is,
      λ same. c.same.ensures.1 (stored_nodes _ _ _ _ c.self.invariant c.other.invariant (c.self.view_is ∙ same ∙ sym c.other.view_is)).1,
    )

pub returns-else-all_same : goal.returns-else-all_same
returns-else-all_same c = (
  λ eq. absurd (cc),
  λ same.
      let stored = stored_nodes _ _ _ _ c.self.invariant c.other.invariant (c.self.view_is ∙ same ∙ sym c.other.view_is) in
      c.all_same.ensures.1 (c.deref.ensures.value ∙ stored.0 ∙ sym c.deref-2.ensures.value),
)

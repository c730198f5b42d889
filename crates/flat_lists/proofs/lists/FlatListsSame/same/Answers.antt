-- Lists are the same where they are stored so, and only there.
use Rattle.std.proofs.Common.{◌≡◌, sym, ◌∙◌, rules}
use Rattle.flat_lists.proofs.Storing.{stored_lists}
use Rattle.flat_lists.proofs.lists.FlatListsSame.same.Goals as goal

pub returns-then-eq : goal.returns-then-eq
returns-then-eq g c =
    let ends : c.self.inside.ends.items ≡ c.other.inside.ends.items = search rules in (
      λ eq. sym c.self.view_is ∙ rw (ends, sym c.deref.ensures.value ∙ c.all_same.ensures.0 eq ∙ c.deref-then-eq.ensures.value) c.other.view_is,
      λ same.
          let stored = stored_lists _ _ _ _ c.self.invariant c.other.invariant (c.self.view_is ∙ same ∙ sym c.other.view_is) in
          c.all_same.ensures.1 (c.deref.ensures.value ∙ stored.1 ∙ sym c.deref-then-eq.ensures.value),
    )

pub returns-else-eq : goal.returns-else-eq
returns-else-eq g c = (
  λ eq. absurd (cc),
  λ same. let stored = stored_lists _ _ _ _ c.self.invariant c.other.invariant (c.self.view_is ∙ same ∙ sym c.other.view_is) in search rules,
)

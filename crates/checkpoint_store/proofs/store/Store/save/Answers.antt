use Rattle.std.proofs.Common.{◌≡◌, ◌<◌, ℕ, [], ◌∷◌, ◌++◌, Some, IsSome, length, refl, sym, ap, subst, ◌∙◌}
use Rattle.std.specs.FinMap.{get, insert}
use Rattle.std.specs.List.{slice_index_or}
use Rattle.checkpoint_store.specs.declared.entries.Entry.{Entry}
use Rattle.checkpoint_store.specs.Saved.{IsBelow, Place, same_place}
use Rattle.checkpoint_store.specs.Layout.{found, IsKept}
use Rattle.checkpoint_store.proofs.Found.{found-push}
use Rattle.checkpoint_store.proofs.Order.{kept-push, kept-below, below-apart}
use Rattle.checkpoint_store.proofs.Controls.{after_change, get-found, get-saved}
use Rattle.checkpoint_store.proofs.store.Store.save.Given.{Over}
use Rattle.checkpoint_store.proofs.store.Store.save.Goals as goal

above : (g : Over) (c : goal.After-push_back_reserved g) (d : Entry g.row.C.Denot) (j : ℕ) → j < length c.self.inside.entries.items → IsBelow (slice_index_or c.self.inside.entries.items j d).place (c.args.q, c.args.t)
above g c d = kept-below c.self.inside.entries.items (c.args.q, c.args.t) d c.self.invariant (λ k some.
    c.requires.last k.0 k.1 (subst IsSome (sym (get-found c.self.inside.entries.items k) ∙ ap (λ s. get s.controls k) c.self.view_is) some))

abbrev entry : (g : Over) (c : goal.After-push_back_reserved g) → Place → Entry g.row.C.Denot
entry g c p = record { place = p; control = Some c.args.control }

pushed : (g : Over) (c : goal.After-push_back_reserved g) → c.push_back_reserved.new.self.items ≡ c.self.inside.entries.items ++ entry g c (c.args.q, c.args.t) ∷ []
pushed g c = c.push_back_reserved.ensures.items ∙ ap (λ p. c.self.inside.entries.items ++ entry g c p ∷ []) c.new.ensures

pub invariant_of-self : goal.invariant_of-self
invariant_of-self g c =
    subst IsKept (sym (pushed g c)) (kept-push c.self.inside.entries.items (entry g c (c.args.q, c.args.t)) c.self.invariant (above g c (entry g c (c.args.q, c.args.t))) refl)

pub returns-clause-after : goal.returns-clause-after
returns-clause-after g c =
    let old = c.args.self.now.controls in
    let place : Place = (c.args.q, c.args.t) in
    let e : Entry g.row.C.Denot = entry g c place in
    after_change c.self.inside.entries.items c.push_back_reserved.new.self.items old (insert old place c.args.control) (same_place place) (Some c.args.control) (ap (λ s. s.controls) c.self.view_is)
    (λ k. ap (λ es. found es k) (pushed g c) ∙ found-push c.self.inside.entries.items e k (λ j within. below-apart _ _ (above g c e j within)))
    (λ k. get-saved old place k c.args.control)

pub returns-clause-saved : goal.returns-clause-saved
returns-clause-saved g c = λ r u. ap (λ m. get m (r, u)) (returns-clause-after g c) ∙ get-saved c.args.self.now.controls (c.args.q, c.args.t) (r, u) c.args.control

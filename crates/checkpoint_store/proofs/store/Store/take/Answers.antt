use Rattle.std.proofs.Common.{None, sym, ap, ◌∙◌}
use Rattle.std.specs.FinMap.{get, remove}
use Rattle.checkpoint_store.specs.Saved.{Place, saved_at, same_place}
use Rattle.checkpoint_store.proofs.Controls.{after_change, get-found, get-taken}
use Rattle.checkpoint_store.proofs.store.Store.take.Goals as goal

pub returns-clause-taken : goal.returns-clause-taken
returns-clause-taken g c = c.take.ensures.taken ∙ sym (get-found c.self.inside.entries.items (c.args.q, c.args.t)) ∙ ap (λ s. saved_at s c.args.q c.args.t) c.self.view_is

pub returns-clause-after : goal.returns-clause-after
returns-clause-after g c =
    let old = c.args.self.now.controls in
    let place : Place = (c.args.q, c.args.t) in
    after_change c.self.inside.entries.items c.take.new.entries.items old (remove old place) (same_place place) None (ap (λ s. s.controls) c.self.view_is) c.take.ensures.left (get-taken old place)

pub returns-clause-rest : goal.returns-clause-rest
returns-clause-rest g c = λ r u. ap (λ m. get m (r, u)) (returns-clause-after g c) ∙ get-taken c.args.self.now.controls (c.args.q, c.args.t) (r, u)

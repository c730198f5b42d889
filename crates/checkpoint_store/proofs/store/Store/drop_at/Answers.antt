use Rattle.std.proofs.Common.{None, not, ap, ◌∙◌}
use Rattle.std.specs.FinMap.{get, retain_keys}
use Rattle.checkpoint_store.specs.Saved.{at}
use Rattle.checkpoint_store.proofs.Controls.{after_change, get-dropped}
use Rattle.checkpoint_store.proofs.store.Store.drop_at.Goals as goal

pub returns-clause-after : goal.returns-clause-after
returns-clause-after g c =
    let old = c.args.self.now.controls in
    after_change c.self.inside.entries.items c.drop_at.new.entries.items old (retain_keys old (λ p. not (at c.args.q p))) (at c.args.q) None (ap (λ s. s.controls) c.self.view_is) c.drop_at.ensures.left (get-dropped old (at c.args.q))

pub returns-clause-rest : goal.returns-clause-rest
returns-clause-rest g c = λ r u. ap (λ m. get m (r, u)) (returns-clause-after g c) ∙ get-dropped c.args.self.now.controls (at c.args.q) (r, u)

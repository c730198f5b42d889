use Rattle.std.proofs.Common.{None, not, ap, ◌∙◌}
use Rattle.std.specs.FinMap.{get, retain_keys}
use Rattle.checkpoint_store.specs.Saved.{before}
use Rattle.checkpoint_store.proofs.Controls.{after_change, get-dropped}
use Rattle.checkpoint_store.proofs.store.Store.drop_before.Goals as goal

pub returns-clause-after : goal.returns-clause-after
returns-clause-after g c =
    let old = c.args.self.now.controls in
    after_change c.self.inside.entries.items c.drop_before.new.entries.items old (retain_keys old (λ p. not (before c.args.q p))) (before c.args.q) None (ap (λ s. s.controls) c.self.view_is) c.drop_before.ensures.left (get-dropped old (before c.args.q))

pub returns-clause-rest : goal.returns-clause-rest
returns-clause-rest g c = λ r u. ap (λ m. get m (r, u)) (returns-clause-after g c) ∙ get-dropped c.args.self.now.controls (before c.args.q) (r, u)

use Rattle.std.proofs.Common.{ap, ◌∙◌}
use Rattle.checkpoint_store.specs.Layout.{found}
use Rattle.checkpoint_store.proofs.Controls.{get-found}
use Rattle.checkpoint_store.proofs.store.Store.new.Goals as goal

pub returns-clause-nothing : goal.returns-clause-nothing
returns-clause-nothing g c = λ r u. get-found c.new.result.items (r, u) ∙ ap (λ es. found es (r, u)) c.new.ensures.items

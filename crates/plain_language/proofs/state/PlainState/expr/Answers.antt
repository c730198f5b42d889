use Rattle.std.proofs.Common.{◌∙◌, ap, sym}
use Rattle.language.specs.Held.{Held}
use Rattle.language.specs.Plain.{standing}
use Rattle.language.proofs.Maps.{get_looked}
use Rattle.plain_language.proofs.state.PlainState.expr.Goals as goal

pub returns : goal.returns
returns c = c.get.ensures.value ∙ sym (get_looked c.self.inside.threads.entries c.args.t.0) ∙ ap (λ (h : Held). standing h.state c.args.t.0) c.self.view_is

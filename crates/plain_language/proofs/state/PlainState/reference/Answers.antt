use Rattle.std.proofs.Common.{◌∙◌, ap, sym}
use Rattle.std.specs.FinMap as map
use Rattle.language.specs.Held.{Held}
use Rattle.language.proofs.Maps.{get_looked}
use Rattle.plain_language.proofs.state.PlainState.reference.Goals as goal

pub returns : goal.returns
returns c = c.get.ensures.value ∙ sym (get_looked c.self.inside.references.entries c.args.r.0) ∙ ap (λ (h : Held). map.get h.state.references c.args.r.0) c.self.view_is

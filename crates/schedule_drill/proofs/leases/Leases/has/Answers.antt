use Rattle.std.proofs.Common.{◌∙◌, ap, sym, is_some}
use Rattle.std.specs.FinMap as map
use Rattle.language.proofs.Maps.{get_looked}
use Rattle.schedule_drill.specs.Out.{Out}
use Rattle.schedule_drill.proofs.leases.Leases.has.Goals as goal

pub returns : goal.returns
returns c = c.contains_key.ensures ∙ ap is_some (sym (get_looked c.self.inside.out.entries c.args.k)) ∙ ap (λ (o : Out). map.contains_key o c.args.k) c.self.view_is

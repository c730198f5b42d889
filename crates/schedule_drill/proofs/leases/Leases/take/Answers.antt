use Rattle.std.proofs.Common.{sym, ap, ◌∙◌}
use Rattle.std.specs.FinMap as map
use Rattle.language.proofs.Maps.{get_looked}
use Rattle.schedule_drill.specs.Out.{Out}
use Rattle.schedule_drill.proofs.Outs.{left_map}
use Rattle.schedule_drill.proofs.leases.Leases.take.Goals as goal

pub returns-clause-taken : goal.returns-clause-taken
returns-clause-taken c = c.remove.ensures.value ∙ sym (get_looked c.self.inside.out.entries c.args.k) ∙ ap (λ (o : Out). map.get o c.args.k) c.self.view_is

pub returns-clause-left : goal.returns-clause-left
returns-clause-left c = left_map _ _ c.args.k (λ q. c.remove.ensures.updates.0 q) ∙ ap (λ (o : Out). map.remove o c.args.k) c.self.view_is

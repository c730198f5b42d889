use Rattle.std.proofs.Common.{ap, sym, ◌∙◌}
use Rattle.std.specs.Prelude.{bytes_eq, position}
use Rattle.scope_check.proofs.Tables.{position-map}
use Rattle.scope_check.proofs.plan.Plan.function_named.Goals as goal

pub returns : goal.returns
returns c =
    let plan = c.args.self.now in
    c.get_index_of.ensures.index ∙ sym (position-map (λ k. k.now) (bytes_eq c.args.name.now) plan.names.keys) ∙ ap (position (bytes_eq c.args.name.now)) plan.named

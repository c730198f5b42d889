use Rattle.std.proofs.Common.{◌<◌, nat_le, sym, subst}
use Rattle.std.specs.List.{All}
use Rattle.comm_graph.specs.Node.{Node}
use Rattle.std.proofs.lemmas.List.Elements.{All-filter}
use Rattle.container_trial.proofs.tests.growing.Growing.cut.Goals as goal

pub invariant_of-self : goal.invariant_of-self
invariant_of-self c =
    let s = c.args.self.now in
    record { above = subst (All (λ (n : Node). n.number < s.top)) (sym c.cut.ensures.nodes) (All-filter (λ (n : Node). nat_le c.args.q n.number) (λ (n : Node). n.number < s.top) s.graph.nodes s.above) }

use Rattle.std.proofs.Common.{◌≡◌, ℕ, ◌<◌, ◌≤◌, ◌+◌, true, ap, sym, subst}
use Rattle.std.specs.List.{All}
use Rattle.std.proofs.lemmas.List.Elements.{All-push}
use Rattle.comm_graph.specs.Node.{Node, touches}
use Rattle.comm_graph.specs.Edge.{NodeList}
use Rattle.container_trial.proofs.There.{below_next}
use Rattle.container_trial.proofs.tests.rollbacks.Nodes.add.Goals as goal

pub invariant_of-self : goal.invariant_of-self
invariant_of-self c =
    let few = λ (m : Node). (t : ℕ) → touches t m.kind ≡ true → t ≤ 1000 in
    let nodes = c.args.self.now.graph.nodes in
    let last : Node = record { number = c.args.q; kind = c.args.node } in
    let is = sym (ap (λ (g : NodeList). g.nodes) c.add.ensures) in
    record {
      below = subst (All (λ (m : Node). m.number < c.args.q + 1)) is (below_next nodes last c.args.self.now.next c.requires.next c.args.self.now.below);
      few = subst (All few) is (All-push few nodes last c.args.self.now.few c.requires.few);
    }

use Rattle.std.proofs.Common.{◌≡◌, ◌+◌, suc, ◌∙◌, drop, ap, subst, arith}
use Rattle.std.specs.List.{slice_get}
use Rattle.comm_graph.specs.Edge.{ends}
use Rattle.comm_graph.specs.Left.{left_of, IsTurn}
use Rattle.comm_graph.proofs.Turns.{turn_get, turn_drop, turn_past, turned}
use Rattle.comm_graph.proofs.graph.Graph.end_at.Goals as goal

pub returns-then-is_none : goal.returns-then-is_none
returns-then-is_none c =
    let ns = c.args.self.now.nodes in
    let q = c.args.node.0 in
    let left = left_of ns q c.loop.edges.left in
    let turn : IsTurn ns q left c.advance.result c.advance.new.edges = subst (λ n. IsTurn ns n (left_of ns n c.loop.edges.left) c.advance.result c.advance.new.edges) c.loop.invariant.node c.advance.ensures in
    let lt = c.loop-test.true in
    turn_past ns q c.loop.counter c.args.i left (ends ns q) c.advance.result c.advance.new.edges c.is_none.result turn c.loop.invariant.left c.is_none.ensures c.if-is_none.true (omega arith)

pub loop-preserved : goal.loop-preserved
loop-preserved c =
    let ns = c.args.self.now.nodes in
    let q = c.args.node.0 in
    let left = left_of ns q c.loop.edges.left in
    let turn : IsTurn ns q left c.advance.result c.advance.new.edges = subst (λ n. IsTurn ns n (left_of ns n c.loop.edges.left) c.advance.result c.advance.new.edges) c.loop.invariant.node c.advance.ensures in
    let one : suc c.loop.counter ≡ c.loop.counter + 1 = omega arith in
    record {
      edges = turned ns q left c.advance.result c.loop.edges c.advance.new.edges c.loop.invariant.node c.loop.invariant.edges turn;
      node = turn.same;
      left = turn_drop ns q c.loop.counter left (ends ns q) c.advance.result c.advance.new.edges c.is_none.result turn c.loop.invariant.left c.is_none.ensures c.if-is_none.false ∙ ap (λ n. drop n (ends ns q)) one;
    }

pub returns : goal.returns
returns c =
    let ns = c.args.self.now.nodes in
    let q = c.args.node.0 in
    let left = left_of ns q c.loop.edges.left in
    let turn : IsTurn ns q left c.advance-2.result c.advance-2.new.edges = subst (λ n. IsTurn ns n (left_of ns n c.loop.edges.left) c.advance-2.result c.advance-2.new.edges) c.loop.invariant.node c.advance-2.ensures in
    let low = c.loop.auto.counter-end in
    let high = c.loop-test.false in
    let same : c.loop.counter ≡ c.args.i = omega arith in
    turn_get ns q c.loop.counter left (ends ns q) c.advance-2.result c.advance-2.new.edges turn c.loop.invariant.left ∙ ap (slice_get (ends ns q)) same

use Rattle.std.proofs.Common.{◌≡◌, ◌<◌, ◌≤◌, ◌∷◌, sym, subst, ap, ◌∙◌, arith}
use Rattle.comm_graph.specs.Edge.{ends}
use Rattle.comm_graph.specs.Left.{left_of, IsTurn}
use Rattle.std.proofs.Common.{Some}
use Rattle.reach_line.specs.Progress.{IsPart}
use Rattle.reach_line.proofs.Closing.{next_end, end_among, ends_named, in_room, part_more}
use Rattle.reach_line.proofs.reaching.spread.Goals as goal

pub mark-requires-clause-low : goal.mark-requires-clause-low
mark-requires-clause-low g c =
    let ns = c.args.graph.now.nodes in
    let q = c.args.from.0 in
    let x = c.in-Some.end in
    let inv = c.loop-end.invariant in
    let turn : IsTurn ns q (left_of ns q c.loop-end.edges.left) (Some x) c.next_edge.new.edges = subst (λ n. IsTurn ns n (left_of ns n c.loop-end.edges.left) (Some x) c.next_edge.new.edges) inv.node c.in-Some.ensures.turn in
    let part = next_end ns q (ends ns q) (left_of ns q c.loop-end.edges.left) c.args.marks.now c.loop-end.marks c.args.steps.now c.loop-end.steps x c.next_edge.new.edges inv.part turn in
    let b = in_room c.args.marks.now ns x.0 c.requires.spare (ends_named x.0 q ns (end_among (ends ns q) (left_of ns q c.next_edge.new.edges.left) c.args.marks.now c.loop-end.marks c.args.steps.now c.loop-end.steps x.0 part)) in
    omega (arith, b.0, inv.part.spread.lowest)

pub mark-requires-clause-high : goal.mark-requires-clause-high
mark-requires-clause-high g c =
    let ns = c.args.graph.now.nodes in
    let q = c.args.from.0 in
    let x = c.in-Some.end in
    let inv = c.loop-end.invariant in
    let turn : IsTurn ns q (left_of ns q c.loop-end.edges.left) (Some x) c.next_edge.new.edges = subst (λ n. IsTurn ns n (left_of ns n c.loop-end.edges.left) (Some x) c.next_edge.new.edges) inv.node c.in-Some.ensures.turn in
    let part = next_end ns q (ends ns q) (left_of ns q c.loop-end.edges.left) c.args.marks.now c.loop-end.marks c.args.steps.now c.loop-end.steps x c.next_edge.new.edges inv.part turn in
    let b = in_room c.args.marks.now ns x.0 c.requires.spare (ends_named x.0 q ns (end_among (ends ns q) (left_of ns q c.next_edge.new.edges.left) c.args.marks.now c.loop-end.marks c.args.steps.now c.loop-end.steps x.0 part)) in
    omega (arith, b.1, inv.part.spread.beyond)

pub loop-end-preserved : goal.loop-end-preserved
loop-end-preserved g c =
    let ns = c.args.graph.now.nodes in
    let q = c.args.from.0 in
    let x = c.in-Some.end in
    let inv = c.loop-end.invariant in
    let turn : IsTurn ns q (left_of ns q c.loop-end.edges.left) (Some x) c.next_edge.new.edges = subst (λ n. IsTurn ns n (left_of ns n c.loop-end.edges.left) (Some x) c.next_edge.new.edges) inv.node c.in-Some.ensures.turn in
    let part = next_end ns q (ends ns q) (left_of ns q c.loop-end.edges.left) c.args.marks.now c.loop-end.marks c.args.steps.now c.loop-end.steps x c.next_edge.new.edges inv.part turn in
    record {
      edges = c.in-Some.ensures.edges;
      node = turn.same;
      part = part_more (ends ns q) (left_of ns q c.next_edge.new.edges.left) c.args.marks.now c.loop-end.marks c.mark.new.self c.args.steps.now c.loop-end.steps c.next_edge.new.steps x.0 part c.mark.ensures c.in-Some.ensures.step;
    }

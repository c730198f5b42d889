use Rattle.std.proofs.Common.{subst, ◌∙◌, arith}
use Rattle.std.specs.FinMap as map
use Rattle.restore.specs.Line.{IsLineOf}
use Rattle.restore.proofs.Marked.{line_at_start, mark_at, take_marks, line_next}
use Rattle.restore.proofs.planning.find_all.Goals as goal

pub loop-q-init : goal.loop-q-init
loop-q-init g c = record { lines = λ t. line_at_start c.args.graph.now.nodes t c.clear.new.self.lines c.clear.ensures.lines; spare = c.clear.ensures.spare; steps = omega arith }

pub find-requires-clause-there : goal.find-requires-clause-there
find-requires-clause-there g c =
    c.requires.there _ (mark_at c.nodes-q-items.result.now c.args.marks.now.nodes c.loop-q.q-index c.loop-q-test.true c.nodes-q-items.ensures.nodes)

pub find-requires-clause-spare : goal.find-requires-clause-spare
find-requires-clause-spare g c = λ k there t touches.
    let low = c.requires.spare _ t (record { kind = k; marked = mark_at c.nodes-q-items.result.now c.args.marks.now.nodes c.loop-q.q-index c.loop-q-test.true c.nodes-q-items.ensures.nodes; there = there; passes = touches }) in
    omega (arith, low, c.loop-q.invariant.spare)

pub loop-q-preserved : goal.loop-q-preserved
loop-q-preserved g c = record {
  lines = λ t. line_next c.args.graph.now.nodes c.nodes-q-items.result.now c.args.marks.now.nodes c.loop-q.q-index t (map.get c.loop-q.found.lines t) (map.get c.find.new.found.lines t) c.loop-q-test.true c.nodes-q-items.ensures.nodes
      (c.requires.there _ (mark_at c.nodes-q-items.result.now c.args.marks.now.nodes c.loop-q.q-index c.loop-q-test.true c.nodes-q-items.ensures.nodes))
      (λ k there. c.find.ensures.lines k there t) (c.loop-q.invariant.lines t);
  spare = c.find.ensures.spare ∙ c.loop-q.invariant.spare;
  steps = omega (arith, c.find.ensures.step, c.loop-q.invariant.steps);
}

pub returns-clause-lines : goal.returns-clause-lines
returns-clause-lines g c = λ t.
    subst (λ ms. IsLineOf c.args.graph.now.nodes ms t (map.get c.loop-q.found.lines t)) (take_marks c.nodes-q-items.result.now c.args.marks.now.nodes c.loop-q.q-index (omega arith) c.nodes-q-items.ensures.nodes) (c.loop-q.invariant.lines t)

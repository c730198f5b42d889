use Rattle.std.proofs.Common.{get_or}
use Rattle.restore.proofs.Marked.{mark_at}
use Rattle.commit_book.proofs.Undoing.Uncounted.{no_pin_all, no_pin_next, no_pin_yet, pin_marked}
use Rattle.commit_book.proofs.undo.holds_pin_in.Goals as goal

pub loop-q-init : goal.loop-q-init
loop-q-init g c = no_pin_yet c.args.graph.now.nodes

pub returns-then-is_pin-clause-some : goal.returns-then-is_pin-clause-some
returns-then-is_pin-clause-some g c = λ yes.
    pin_marked c.args.graph.now.nodes c.args.marks.now.nodes (get_or c.nodes-q-items.result.now c.loop-q.q-index (record { 0 = 0 })).0 c.node_near.result
    (mark_at c.nodes-q-items.result.now c.args.marks.now.nodes c.loop-q.q-index c.loop-q-test.true c.nodes-q-items.ensures.nodes) c.node_near.ensures.node (c.is_pin.ensures.some c.if-is_pin.true)

pub loop-q-preserved : goal.loop-q-preserved
loop-q-preserved g c =
    no_pin_next c.args.graph.now.nodes c.nodes-q-items.result.now c.args.marks.now.nodes c.loop-q.q-index c.node_near.result c.loop-q-test.true c.nodes-q-items.ensures.nodes
    (c.requires.there _ (mark_at c.nodes-q-items.result.now c.args.marks.now.nodes c.loop-q.q-index c.loop-q-test.true c.nodes-q-items.ensures.nodes)) c.node_near.ensures.node (c.is_pin.ensures.none c.if-is_pin.false) c.loop-q.invariant

pub returns-clause-none : goal.returns-clause-none
returns-clause-none g c = λ no.
    no_pin_all c.args.graph.now.nodes c.nodes-q-items.result.now c.args.marks.now.nodes c.loop-q.q-index c.loop-q-test.false c.nodes-q-items.ensures.nodes c.loop-q.invariant

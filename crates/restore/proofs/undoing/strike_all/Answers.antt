use Rattle.std.proofs.Common.{cond, not, None, IsSome, nat_eq, take, get_or, refl, sym, ap, subst, ◌∙◌, arith}
use Rattle.std.specs.Prelude.{filter}
use Rattle.comm_graph.specs.Node.{Node}
use Rattle.comm_graph.specs.Edge.{kind_of}
use Rattle.reach_line.specs.Reached.{has}
use Rattle.checkpoint_store.specs.Saved.{saved_at}
use Rattle.restore.specs.Left.{unmarked}
use Rattle.restore.proofs.Carried.{cond_more, kind_unmarked, struck_more, unmarked_none}
use Rattle.restore.proofs.Marked.{mark_at, mark_fresh, marks_more}
use Rattle.restore.proofs.undoing.strike_all.Goals as goal

pub loop-q-init : goal.loop-q-init
loop-q-init g c = record { saved = λ q t. refl; saved_spare = omega arith; nodes = sym (unmarked_none c.args.graph.now.nodes); nodes_spare = omega arith }

pub strike_near-requires : goal.strike_near-requires
strike_near-requires g c =
    let qs = c.nodes-q-items.result.now in
    let q = (get_or qs c.loop-q.q-index (record { 0 = 0 })).0 in
    let done = take c.loop-q.q-index c.args.marks.now.nodes in
    subst (λ k. IsSome k) (sym (ap (λ ns. kind_of ns q) c.loop-q.invariant.nodes ∙ kind_unmarked done q c.args.graph.now.nodes (mark_fresh qs c.args.marks.now.nodes c.loop-q.q-index c.nodes-q-items.ensures.once c.loop-q-test.true c.nodes-q-items.ensures.nodes)))
    (c.requires q (mark_at qs c.args.marks.now.nodes c.loop-q.q-index c.loop-q-test.true c.nodes-q-items.ensures.nodes))

pub loop-q-preserved : goal.loop-q-preserved
loop-q-preserved g c =
    let qs = c.nodes-q-items.result.now in
    let q = (get_or qs c.loop-q.q-index (record { 0 = 0 })).0 in
    let done = take c.loop-q.q-index c.args.marks.now.nodes in
    let more = sym (marks_more qs c.args.marks.now.nodes c.loop-q.q-index c.loop-q-test.true c.nodes-q-items.ensures.nodes) in
    record {
      saved = λ p t.
          c.drop_at.ensures.rest p t ∙ cond_more done q p.0 (saved_at c.loop-q.store p t) (saved_at c.args.store.now p t) (c.loop-q.invariant.saved p t)
          ∙ ap (λ l. cond (has p.0 l) None (saved_at c.args.store.now p t)) more;
      saved_spare = omega (arith, c.drop_at.ensures.spare, c.loop-q.invariant.saved_spare);
      nodes = c.strike_near.ensures.nodes ∙ ap (filter (λ (n : Node). not (nat_eq q n.number))) c.loop-q.invariant.nodes ∙ struck_more done q c.args.graph.now.nodes ∙ ap (λ l. unmarked l c.args.graph.now.nodes) more;
      nodes_spare = omega (arith, c.strike_near.ensures.spare, c.loop-q.invariant.nodes_spare);
    }

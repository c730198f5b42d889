use Rattle.std.proofs.Common.{◌≡◌, ◌≤◌, cond, take, None}
use Rattle.stab_base.specs.declared.numbers.Seq.{Seq}
use Rattle.stab_base.specs.declared.numbers.ThreadId.{ThreadId}
use Rattle.checkpoint_store.specs.Saved.{saved_at}
use Rattle.reach_line.specs.Reached.{has}
use Rattle.restore.specs.Left.{unmarked}
use Rattle.restore.proofs.undoing.strike_all.Given as goal

abbrev pub invariant-loop-q : goal.invariant-loop-q
invariant-loop-q g l = record {
  saved : (p : Seq) (t : ThreadId) → saved_at l.store p t ≡ cond (has p.0 (take l.q-index l.marks.nodes)) None (saved_at l.fn.store p t);
  saved_spare : l.fn.store.spare ≤ l.store.spare;
  nodes : l.graph.nodes ≡ unmarked (take l.q-index l.marks.nodes) l.fn.graph.nodes;
  nodes_spare : l.fn.graph.spare ≤ l.graph.spare;
}

use Rattle.std.proofs.Common.{◌≡◌, ◌+◌, ℕ, take}
use Rattle.std.specs.FinMap as map
use Rattle.restore.specs.Line.{IsLineOf}
use Rattle.restore.proofs.planning.find_all.Given as goal

abbrev pub invariant-loop-q : goal.invariant-loop-q
invariant-loop-q g l = record {
  lines : (t : ℕ) → IsLineOf l.graph.nodes (take l.q-index l.marks.nodes) t (map.get l.found.lines t);
  spare : l.found.spare ≡ l.fn.found.spare;
  steps : l.steps ≡ l.fn.steps + l.q-index;
}

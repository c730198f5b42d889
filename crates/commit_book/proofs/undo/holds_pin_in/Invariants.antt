use Rattle.std.proofs.Common.{ℕ, take}
use Rattle.restore.specs.Line.{IsMarkedAs}
use Rattle.commit_book.specs.Graph.{is_pinned}
use Rattle.commit_book.proofs.undo.holds_pin_in.Given as goal

abbrev pub invariant-loop-q : goal.invariant-loop-q
invariant-loop-q g l = (q : ℕ) → IsMarkedAs l.graph.nodes (take l.q-index l.marks.nodes) is_pinned q → ⊥

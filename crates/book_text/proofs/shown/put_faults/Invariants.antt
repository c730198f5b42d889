use Rattle.std.proofs.Common.{◌≡◌, ◌++◌}
use Rattle.book_text.specs.Written.{fault_lines}
use Rattle.book_text.proofs.shown.put_faults.Given as goal

abbrev pub invariant-loop-t : goal.invariant-loop-t
invariant-loop-t l = l.text.items ≡ l.fn.text.items ++ fault_lines l.book l.t

use Rattle.std.proofs.Common.{◌≡◌}
use Rattle.thread_slots.specs.declared.state.State.TheVariants.{Leased}
use Rattle.commit_book.specs.Counts.{in_state}
use Rattle.lone_worker.specs.Running.{AreTurns, IsLater}
use Rattle.lone_worker.specs.Turn.{left_to_do}
use Rattle.lone_worker.proofs.worker.run.Given as goal

abbrev pub invariant-loop-end : goal.invariant-loop-end
invariant-loop-end l = record { later : IsLater l.fn.book l.book; turns : AreTurns l.fn.book l.book; free : in_state Leased l.book ≡ 0 }

abbrev pub decreases-loop-end : goal.decreases-loop-end
decreases-loop-end l = left_to_do l.book

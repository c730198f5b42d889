use Rattle.std.proofs.Common.{◌≡◌, ℕ, ◌+◌, ◌<◌, ◌≤◌, true, length, take}
use Rattle.std.specs.FinMap as map
use Rattle.stab_code.specs.Program.{ProgramParts}
use Rattle.stab_code.specs.Valid.{IsValid}
use Rattle.thread_slots.specs.Ready.{numbers}
use Rattle.restore.specs.Left.{is_touched}
use Rattle.step_eval.specs.ControlView.{Fits}
use Rattle.commit_book.specs.Counts.{faulted_in, is_faulted_at}
use Rattle.commit_book.specs.Threads.{AllControls}
use Rattle.commit_book.proofs.Undoing.Uncounted.{uncounted}
use Rattle.commit_book.proofs.undo.failed_among.Given as goal

abbrev pub invariant-loop-t : goal.invariant-loop-t
invariant-loop-t l = record {
  few : l.failed ≤ l.t-index;
  count : (p : ProgramParts) → IsValid p → AllControls (Fits p) l.slots.threads → (n : ℕ) → ((t : ℕ) → is_touched l.plan.lines t ≡ true → t < n)
      → l.failed + length (numbers (uncounted (is_faulted_at p l.slots.threads) (take l.t-index (map.keys l.plan.lines))) n) ≡ faulted_in p l.slots.threads n;
}

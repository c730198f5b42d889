-- The count of failed threads while a plan is carried out.
use Rattle.std.specs.Prelude.{◌≡◌, ℕ, ◌+◌, ◌<◌, not, ◌&&◌, true, length}
use Rattle.std.specs.FinMap.{FinMap}
use Rattle.std.specs.Ordering.{nat_cmp}
use Rattle.stab_code.specs.Program.{ProgramParts}
use Rattle.stab_code.specs.Valid.{IsValid}
use Rattle.thread_slots.specs.Ready.{numbers}
use Rattle.thread_slots.specs.Slot.{Slot}
use Rattle.restore.specs.Left.{LineMap, is_touched}
use Rattle.step_eval.specs.ControlView.{ControlView, Fits}
use Rattle.commit_book.specs.Counts.{faulted_in, is_faulted_at}
use Rattle.commit_book.specs.Threads.{AllControls}

-- with those that failed and have no line, so many threads are all that failed, where each line is that of a thread below n
abbrev pub AreFailed : ProgramParts → FinMap nat_cmp (Slot ControlView) → LineMap → ℕ → Type 0
AreFailed p threads lines k =
    IsValid p → AllControls (Fits p) threads → (n : ℕ) → ((t : ℕ) → is_touched lines t ≡ true → t < n)
    → k + length (numbers (λ t. is_faulted_at p threads t && not (is_touched lines t)) n) ≡ faulted_in p threads n

-- What an answer tells of its call.
use Rattle.std.specs.Prelude.{ℕ, true, false, Ok, Err, Option, Some, None}
use Rattle.stab_base.specs.declared.numbers.Seq.{Seq}
use Rattle.commit_book.specs.declared.done.Done.{Done}
use Rattle.commit_book.specs.declared.done.Done.TheVariants.{Taken, Parked, Undone, Stale, Over}
use Rattle.turn_floor.specs.declared.kept.Told.{Told}
use Rattle.worker_lease.specs.declared.ask.DeskAnswer.{DeskAnswer}
use Rattle.worker_lease.specs.declared.ask.DeskAnswer.TheVariants as answer

abbrev pub nothing : Told
nothing = record { first = record { 0 = 0 }; count = 0; committed = false; stale = false }

-- a commit was made, with so many events from this number on
abbrev pub made : Seq → ℕ → Told
made first count = record { first = first; count = count; committed = true; stale = false }

abbrev pub told_done : Done → Told
told_done (Taken first count) = made first count
told_done (Parked first count) = made first count
told_done (Undone first count mark removed marks) = made first count
told_done (Stale generation now) = record nothing { stale = true }
told_done (Over weight) = nothing

abbrev pub told_number : Option Seq → Told
told_number None = nothing
told_number (Some q) = record nothing { first = q; count = 1 }

-- a commit tells of its events, and a release of its one; the others tell of none
abbrev pub told : DeskAnswer → Told
told (answer.Turn turn) = nothing
told (answer.Done (Ok done)) = told_done done
told (answer.Done (Err refused)) = nothing
told answer.Given = nothing
told (answer.Released text (Ok number)) = told_number number
told (answer.Released text (Err none)) = nothing
told answer.Dry = nothing
told answer.Rung = nothing
told answer.Kept = nothing

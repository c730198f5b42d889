-- What was written of a run when it stopped.
use Rattle.std.specs.Prelude.{◌≡◌, ℕ, List, ◌∷◌, ◌++◌, take, Option, Some, None}
use mathlib.Core.List.{IsPrefix}
use Rattle.stab_base.specs.Gain.{SomePrefix}
use Rattle.stab_code.specs.Program.{ProgramParts}
use Rattle.stab_files.specs.Count.{Rose}
use Rattle.stab_files.specs.Told.{Appends}
use Rattle.stab_journal.specs.declared.event.Event.{Event}
use Rattle.stab_journal.specs.Due.{released}
use Rattle.language.specs.Plain.{PlainState}
use Rattle.language.specs.Shown.{value_lines}
use Rattle.commit_book.specs.Book.{BookView}
use Rattle.book_text.specs.Written.{released_lines}
use Rattle.sink_lines.specs.Device.{Device, Gains}
use Rattle.worker_rounds.specs.declared.rounds.Stop.{Stop}
use Rattle.worker_rounds.specs.declared.rounds.Stop.TheVariants.{SinkFault, NoMemory}
use Rattle.worker_rounds.specs.Rounds.{IsUsedUp}

-- the lines of the values that the first events released, out of the output of this state
abbrev pub first_lines : ProgramParts → PlainState → List Event → List ℕ
first_lines p state first = value_lines p (take (released first) state.output)

-- the piece begins with the lines of every release after which there is an event of worker 1
abbrev pub HasReleases : BookView → PlainState → List ℕ → Type 0
HasReleases book state piece =
    (first after : List Event) (e : Event) → book.history.events ≡ first ++ e ∷ after → e.worker ≡ 1
    → (more : List ℕ) × (piece ≡ first_lines book.job.program state first ++ more)

-- All lines that were released were written; or, if the sink failed, a prefix of them was, which has those of the releases above.
abbrev pub StopSays : Stop → BookView → PlainState → Device (List ℕ) → Device (List ℕ) → Type 0
StopSays SinkFault book state sink after =
    SomePrefix (λ front. Appends sink.told after.told front × HasReleases book state front) (released_lines book)
    × Rose sink.faults after.faults
StopSays NoMemory book state sink after = Gains sink after (released_lines book)

-- at some moment nothing was left to do
abbrev pub WasUsedUp : BookView → Type 0
WasUsedUp book = (front : List Event) × IsPrefix front book.history.events × IsUsedUp book.job front

-- where the run wasn't stopped, it came to such a moment, and all that was released was written
abbrev pub EndSays : Option Stop → BookView → PlainState → Device (List ℕ) → Device (List ℕ) → Type 0
EndSays None book state sink after = Gains sink after (released_lines book) × WasUsedUp book
EndSays (Some stop) book state sink after = StopSays stop book state sink after

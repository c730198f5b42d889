-- What is left of a run to which numbers come, and what each status says of it.
use Rattle.std.specs.Prelude.{◌≡◌, ◌⊎◌, ℕ, ℤ, true, List, [], ◌++◌, length, Option, Some, None}
use Rattle.stab_code.specs.JobParts.{JobParts, longer}
use Rattle.stab_code.specs.Limits.{max_script}
use Rattle.stab_words.specs.Command.{most_workers}
use Rattle.number_source.specs.declared.came.Came.{Came}
use Rattle.number_source.specs.declared.came.Came.TheVariants as answers
use Rattle.commit_book.specs.Book.{BookView, IsShown}
use Rattle.commit_book.specs.Probing.{IsWithinScript}
use Rattle.book_text.specs.Written.{released_lines}
use Rattle.turn_floor.specs.Served.{AreOf}
use Rattle.sink_lines.specs.Device.{Device, Gains, Rests}
use Rattle.live_rounds.specs.declared.halt.Halt.{Halt}
use Rattle.live_rounds.specs.declared.halt.Halt.TheVariants as halts
use Rattle.live_rounds.specs.Numbers.{Heard}
use Rattle.call_status.specs.declared.status.Status.{Status}
use Rattle.call_status.specs.declared.status.Status.TheVariants.{BadProbes, FileFault, NoMemory, SinkFault, TooBig}
use Rattle.book_runs.specs.declared.running.LastLine.TheVariants.{Nothing}
use Rattle.book_runs.specs.Ending.{AsReleased, Ends, RestSays, Writing, shown_by}
use Rattle.book_runs.specs.Playing.{IsTextBehind, WritesOf}

-- the status of a run that was halted
abbrev pub halt_status : Halt → Status
halt_status halts.SinkFault = SinkFault
halt_status halts.NoMemory = NoMemory
halt_status (halts.Bad at) = BadProbes
halt_status halts.Failed = FileFault
halt_status halts.TooMany = TooBig

-- the place of the line that is no number, for which it was halted
abbrev pub place_in : Halt → Option ℕ
place_in (halts.Bad at) = Some at
place_in halt = None

-- the first byte of that line, by the source's last answer
abbrev pub bad_place : Status → Option Came → Option ℕ
bad_place BadProbes (Some (answers.Bad at)) = Some at
bad_place status last = None

-- `serve` writes what `run` does; a run that stops for what came has written the lines of all that was released
abbrev pub AsServed : Writing
AsServed workers BadProbes book state sink after = Gains sink after (released_lines book)
AsServed workers FileFault book state sink after = Gains sink after (released_lines book)
AsServed workers TooBig book state sink after = Gains sink after (released_lines book)
AsServed workers status book state sink after = AsReleased shown_by workers status book state sink after

-- Of the numbers that came none is left over, except where memory ran out; where there are too many, one more came than a script has.
-- A line that is no number, and a read that failed, is the source's last answer.
abbrev pub LeftOver : Status → JobParts → Heard → List ℤ → Type 0
LeftOver NoMemory job after over = Unit {0}
LeftOver TooBig job after over = (length job.script ≡ max_script) × (length over ≡ 1)
LeftOver FileFault job after over = (over ≡ []) × (after.last ≡ Some answers.Failed)
LeftOver BadProbes job after over = (over ≡ []) × ((at : ℕ) × (after.last ≡ Some (answers.Bad at)))
LeftOver status job after over = over ≡ []

-- The numbers that came stand behind the job's script, in the order in which they came. Of the job with these numbers it is said what is
-- said of a run by the most workers, since there is a floor also with one; each event carries the number of one of the run's own.
-- Where a probe came past the script's end, the input had ended.
pub record Serves (workers : ℕ) (status : Status) (job : JobParts) (left : Option BookView) (before after : Heard) (sink written : Device (List ℕ)) : Type 0 where
  pub numbers : List ℤ
  pub over : List ℤ
  pub came : after.came ≡ before.came ++ numbers ++ over
  pub ends : Ends AsServed most_workers status (longer job numbers) left sink written
  pub left_over : LeftOver status ends.book.job after over
  pub zeros : IsWithinScript ends.book ⊎ (after.ended ≡ true)
  pub named : AreOf workers ends.book.history.events

-- for want of memory no book is left; then no number was taken and nothing written
abbrev pub ServedEnds : ℕ → Status → JobParts → Option BookView → Heard → Heard → Device (List ℕ) → Device (List ℕ) → Type 0
ServedEnds workers status job left before after sink written =
    ((status ≡ NoMemory) × (left ≡ None) × (after ≡ before) × Rests sink written)
    ⊎ Serves workers status job left before after sink written

-- the run is over, as `end` says, and what was left to write was written, or a prefix of it, or memory ran out before
pub record IsShownOut (status : Status) (book : BookView) (sink after : Device (List ℕ)) : Type 0 where
  pub end : Status
  pub rest : (shown : IsShown book) → RestSays end book shown.state
  pub wrote : ((text : List ℕ) × IsTextBehind Nothing book text × WritesOf end status text sink after) ⊎ ((status ≡ NoMemory) × Rests sink after)

-- What is left of a run to which numbers come.
use Rattle.std.specs.Prelude.{◌≡◌, ◌⊎◌, ℕ, true, List, Option, Some, None}
use Rattle.thread_slots.specs.declared.state.State.TheVariants.{Leased}
use Rattle.commit_book.specs.Book.{BookView, IsShown}
use Rattle.commit_book.specs.Counts.{in_state}
use Rattle.commit_book.specs.Probing.{IsWithinScript}
use Rattle.book_text.specs.Written.{released_lines}
use Rattle.turn_floor.specs.Served.{AreOf}
use Rattle.sink_lines.specs.Device.{Device, Gains}
use Rattle.live_rounds.specs.declared.halt.Halt.{Halt}
use Rattle.live_rounds.specs.declared.halt.Halt.TheVariants.{SinkFault}
use Rattle.live_rounds.specs.Ending.{IsRunOver}
use Rattle.live_rounds.specs.Lines.{IsCutShort}
use Rattle.live_rounds.specs.Numbers.{Heard, IsCaused, IsFed}

-- All lines that were released were written; or, if the sink failed, those of the last release were cut short. Where the run wasn't
-- halted, it is over.
abbrev pub EndSays : Option Halt → BookView → Device (List ℕ) → Device (List ℕ) → Type 0
EndSays None new sink after = Gains sink after (released_lines new) × IsRunOver new
EndSays (Some SinkFault) new sink after = IsCutShort new sink after
EndSays (Some halt) new sink after = Gains sink after (released_lines new)

-- The script is the first one, and behind it the numbers that came. The book shows its history, nobody has a lease, and each event carries
-- the number of one of the workers. No probe came past the script's end before the input's end.
pub record IsServed (workers : ℕ) (halt : Option Halt) (old new : BookView) (before after : Heard) (sink written : Device (List ℕ)) : Type 0 where
  pub fed : IsFed halt old.job new.job before.came after.came
  pub caused : IsCaused halt after
  pub shown : IsShown new
  pub free : in_state Leased new ≡ 0
  pub named : AreOf workers new.history.events
  pub within : IsWithinScript new ⊎ (after.ended ≡ true)
  pub says : EndSays halt new sink written

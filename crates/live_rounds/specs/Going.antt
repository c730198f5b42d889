-- What comes next, and what is then said of the book.
use Rattle.std.specs.Prelude.{◌≡◌, ◌⊎◌, ℤ, true, List, Option, Some, None}
use Rattle.stab_code.specs.JobParts.{JobParts, longer}
use Rattle.thread_slots.specs.declared.state.State.TheVariants.{Leased}
use Rattle.commit_book.specs.Book.{BookView}
use Rattle.commit_book.specs.Counts.{in_state}
use Rattle.commit_book.specs.Probing.{IsWithinScript}
use Rattle.live_rounds.specs.declared.halt.Halt.{Halt}
use Rattle.live_rounds.specs.declared.halt.Halt.TheVariants.{SinkFault, NoMemory, Bad, Failed, TooMany}
use Rattle.live_rounds.specs.declared.next.Next.{Next}
use Rattle.live_rounds.specs.declared.next.Next.TheVariants.{Again, Over, Ended, Halted}
use Rattle.live_rounds.specs.Ending.{IsRunOver}
use Rattle.live_rounds.specs.Numbers.{Heard, IsCaused}

-- a halt for which no source is the cause
abbrev pub IsOwn : Option Halt → Type 0
IsOwn None = Unit {0}
IsOwn (Some SinkFault) = Unit {0}
IsOwn (Some NoMemory) = Unit {0}
IsOwn (Some (Bad at)) = ⊥
IsOwn (Some Failed) = ⊥
IsOwn (Some TooMany) = ⊥

-- neither the job nor the history changes
abbrev pub Stays : BookView → BookView → Type 0
Stays old new = (new.job ≡ old.job) × (new.history ≡ old.history)

abbrev pub halt_of : Next → Option Halt
halt_of Again = None
halt_of Over = None
halt_of Ended = None
halt_of (Halted halt) = Some halt

-- Ended where the input has ended, Bad and Failed where the source said so
abbrev pub NextSays : Next → Heard → Type 0
NextSays Again after = Unit {0}
NextSays Over after = Unit {0}
NextSays Ended after = after.ended ≡ true
NextSays (Halted halt) after = IsCaused (Some halt) after

-- no probe came past the script's end, or the input has ended
abbrev pub IsInTime : BookView → Heard → Type 0
IsInTime b after = IsWithinScript b ⊎ (after.ended ≡ true)

-- the same of rounds over a live desk that were left: the input has ended, or no probe came past the script's end
abbrev pub LeftSays : Next → BookView → Heard → Type 0
LeftSays Again b after = IsWithinScript b
LeftSays Over b after = IsWithinScript b
LeftSays Ended b after = after.ended ≡ true
LeftSays (Halted halt) b after = IsInTime b after × IsCaused (Some halt) after

-- A live desk is left. Where the input has ended, those that wait were committed, or memory is wanted; else its history stays, in which no
-- probe came past the script's end.
abbrev pub LeaveSays : Next → Next → BookView → BookView → Type 0
LeaveSays Ended next old new = (next ≡ Ended) ⊎ (next ≡ Halted NoMemory)
LeaveSays Again next old new = (next ≡ Again) × (new.history ≡ old.history) × IsWithinScript new
LeaveSays Over next old new = (next ≡ Over) × (new.history ≡ old.history) × IsWithinScript new
LeaveSays (Halted halt) next old new = (next ≡ Halted halt) × (new.history ≡ old.history) × IsWithinScript new

-- ---- the end of a run

-- nobody has a lease, and no turn comes
abbrev pub IsDone : BookView → Type 0
IsDone b = IsRunOver b × (in_state Leased b ≡ 0)

-- what is said of a book that was looked at: it is done, or there may be something to do, or memory is wanted
abbrev pub LookSays : Next → BookView → Type 0
LookSays Again b = Unit {0}
LookSays Over b = IsDone b
LookSays Ended b = ⊥
LookSays (Halted halt) b = (halt ≡ NoMemory) × (in_state Leased b ≡ 0)

-- a book that is to be left is recalled, and one that may be done is looked at
abbrev pub SettleSays : Next → Next → BookView → Type 0
SettleSays (Halted halt) next b = (next ≡ Halted halt) × (in_state Leased b ≡ 0)
SettleSays Ended next b = next ≡ Ended
SettleSays Over next b = LookSays next b
SettleSays Again next b = next ≡ Again

-- rounds until the input has ended, until the run is over, or up to a halt
abbrev pub PartSays : Next → BookView → Heard → Type 0
PartSays Again b after = ⊥
PartSays Over b after = IsDone b × IsInTime b after
PartSays Ended b after = after.ended ≡ true
PartSays (Halted halt) b after = (in_state Leased b ≡ 0) × IsInTime b after × IsCaused (Some halt) after

-- the same after the input's end
abbrev pub ClosedSays : Next → BookView → Type 0
ClosedSays Again b = ⊥
ClosedSays Over b = IsDone b
ClosedSays Ended b = ⊥
ClosedSays (Halted halt) b = (in_state Leased b ≡ 0) × IsOwn (Some halt)

-- ---- numbers

-- the script got these numbers or, where memory is wanted, none of them
abbrev pub FeedSays : Next → JobParts → JobParts → List ℤ → Type 0
FeedSays Again old new numbers = new ≡ longer old numbers
FeedSays Over old new numbers = ⊥
FeedSays Ended old new numbers = ⊥
FeedSays (Halted halt) old new numbers = (halt ≡ NoMemory) × ((new ≡ longer old numbers) ⊎ (new ≡ old))

-- What each status says of a run.
use Rattle.std.specs.Prelude.{◌≡◌, ℕ, ◌<◌, ◌≤◌, List, ◌++◌, count_by, Option, Some, None, codes, decimal, ◌⊎◌}
use Rattle.stab_base.specs.Gain.{SomePrefix}
use Rattle.stab_code.specs.JobParts.{JobParts}
use Rattle.stab_files.specs.Count.{Rose}
use Rattle.stab_files.specs.Told.{Appends}
use Rattle.stab_journal.specs.declared.event.Event.{Event}
use Rattle.stab_journal.specs.declared.event.Numbered.{Numbered}
use Rattle.stab_journal.specs.Event.{weight_of}
use Rattle.stab_journal.specs.Script.{FollowsScript}
use Rattle.thread_slots.specs.declared.state.State.TheVariants.{Ready, Leased}
use Rattle.language.specs.Plain.{PlainState, language_of}
use Rattle.language.specs.Quiet.{IsQuiet}
use Rattle.language.specs.Shown.{line, shown}
use Rattle.commit_book.specs.Book.{BookView, ShowsRun}
use Rattle.commit_book.specs.Counts.{in_state, is_undo}
use Rattle.lone_worker.specs.declared.worker.RunEnd.{RunEnd}
use Rattle.lone_worker.specs.Solo.{IsSolo, IsWholeSolo}
use Rattle.turn_floor.specs.Served.{AreOf}
use Rattle.worker_rounds.specs.Releases.{HasReleases}
use Rattle.trace_text.specs.Text.{trace}
use Rattle.call_status.specs.declared.status.Status.{Status}
use Rattle.call_status.specs.declared.status.Status.TheVariants.{Done, Held, SinkFault, Spent, NoMemory}
use Rattle.sink_lines.specs.Device.{Device, Gains, GainsPrefix, Rests}
use Rattle.state_text.specs.Ended.{AllDone, SomeHeld}

-- The events are the first ones of the job's run by one worker.
abbrev pub IsSoloPart : JobParts → List Event → Type 0
IsSoloPart job events = (end : RunEnd) × IsSolo job end events

-- The book is of this job. It shows its history, the run of the steps that weren't undone, and the state in which that run ends.
-- The probes in the history got the numbers of the script. Each event is one of these workers'. With one worker, the events are
-- the first ones of the job's run by one worker.
pub record IsRunOf (workers : ℕ) (job : JobParts) (book : BookView) (state : PlainState) : Type 0 where
  pub of_job : book.job ≡ job
  pub run : List Numbered
  pub shown : ShowsRun book run state
  pub follows : FollowsScript job.script book.history.events
  pub named : AreOf workers book.history.events
  pub solo : workers ≡ 1 → IsSoloPart job book.history.events

-- no thread is ready or leased, and none can step
pub record Rested (book : BookView) (state : PlainState) : Type 0 where
  pub unready : in_state Ready book ≡ 0
  pub free : in_state Leased book ≡ 0
  pub quiet : IsQuiet (language_of book.job.program) state

-- the fuel is used up, and a thread is still ready
pub record IsSpent (book : BookView) : Type 0 where
  pub used : book.job.fuel ≤ weight_of book.history.events
  pub ready : 0 < in_state Ready book

-- what each status says of the end of a run
abbrev pub RestSays : Status → BookView → PlainState → Type 0
RestSays Done book state = Rested book state × AllDone book.job.program state
RestSays Held book state = Rested book state × SomeHeld book.job.program state
RestSays Spent book state = IsSpent book
RestSays _ book state = ⊥

-- the run is over: at rest or spent; with one worker, its events are those of the whole run of the job by one worker
pub record IsOver (workers : ℕ) (book : BookView) (state : PlainState) : Type 0 where
  pub whole : workers ≡ 1 → IsWholeSolo book.job book.history.events
  pub rest : Rested book state ⊎ IsSpent book

-- ---- what is written of a run

-- what a run shows that ends in this state
abbrev pub shown_by : BookView → PlainState → List ℕ
shown_by book state = shown book.job.program state

-- the line with the mill's size and the number of undos, and what a mill's run shows with this line after it
abbrev pub mill_line : ℕ → List Event → List ℕ
mill_line size events = line (codes "mill " ++ decimal size ++ codes " undos " ++ decimal (count_by is_undo events))

abbrev pub milled_by : ℕ → BookView → PlainState → List ℕ
milled_by size book state = shown_by book state ++ mill_line size book.history.events

-- a prefix of the text was written, which begins with the lines of every release after which worker 1 has an event
abbrev pub WritesReleases : BookView → PlainState → List ℕ → Device (List ℕ) → Device (List ℕ) → Type 0
WritesReleases book state text sink after =
    SomePrefix (λ front. Appends sink.told after.told front × HasReleases book state front) text

-- the run is over as the status says, and the whole text was written; with one worker, its events are those of the whole run
pub record IsWritten (workers : ℕ) (status : Status) (book : BookView) (state : PlainState) (text : List ℕ) (sink after : Device (List ℕ)) : Type 0 where
  pub whole : workers ≡ 1 → IsWholeSolo book.job book.history.events
  pub rest : RestSays status book state
  pub gains : Gains sink after text

-- what a command writes of a run by this many workers that ended with this status
abbrev pub Writing : Type 1
Writing = ℕ → Status → BookView → PlainState → Device (List ℕ) → Device (List ℕ) → Type 0

module _ (text_by : BookView → PlainState → List ℕ) where
  -- `run` and `mill` write the lines of values as soon as they are released, and the rest of their text at the end
  abbrev pub AsReleased : Writing
  AsReleased workers SinkFault book state sink after = WritesReleases book state (text_by book state) sink after × Rose sink.faults after.faults
  AsReleased workers NoMemory book state sink after = WritesReleases book state (text_by book state) sink after × (after.faults ≡ sink.faults)
  AsReleased workers status book state sink after = IsWritten workers status book state (text_by book state) sink after

-- `trace` writes the trace of the history, at the end
abbrev pub AtTheEnd : Writing
AtTheEnd workers SinkFault book state sink after = IsOver workers book state × GainsPrefix sink after (trace book.history)
AtTheEnd workers NoMemory book state sink after = ⊥
AtTheEnd workers status book state sink after = IsWritten workers status book state (trace book.history) sink after

module _ (WritesBy : Writing) (workers : ℕ) where
  -- the book of the job's run is left, and the status says how far the run came and what was written
  pub record Ends (status : Status) (job : JobParts) (left : Option BookView) (sink after : Device (List ℕ)) : Type 0 where
    pub book : BookView
    pub state : PlainState
    pub is_left : left ≡ Some book
    pub run : IsRunOf workers job book state
    pub writes : WritesBy workers status book state sink after

  -- What each status says of a job that was to be run, and of the book that it left. NoMemory is always allowed: either no book is
  -- left and nothing was written, or the book of the run is left.
  abbrev pub RunEnds : Status → JobParts → Option BookView → Device (List ℕ) → Device (List ℕ) → Type 0
  RunEnds NoMemory job left sink after = ((left ≡ None) × Rests sink after) ⊎ Ends NoMemory job left sink after
  RunEnds status job left sink after = Ends status job left sink after

-- What a watched run shows, and the last lines of all runs.
use Rattle.std.specs.Prelude.{ℕ, List, [], ◌++◌, codes, decimal}
use Rattle.stab_journal.specs.declared.event.Event.{Event}
use Rattle.stab_journal.specs.Event.{weight_of}
use Rattle.language.specs.Plain.{PlainState}
use Rattle.language.specs.Shown.{line}
use Rattle.commit_book.specs.Book.{BookView}
use Rattle.stab_watch.specs.Counts.{cuts_in, undos_in}
use Rattle.stab_words.specs.Command.{most_workers}
use Rattle.book_runs.specs.declared.running.LastLine.{LastLine}
use Rattle.book_runs.specs.declared.running.LastLine.TheVariants.{Nothing, Mill, Watch}
use Rattle.book_runs.specs.Ending.{mill_line, milled_by, shown_by}

-- the line that tells what a board shows of these events: their weight, the undos and the cuts
abbrev pub watch_line : List Event → List ℕ
watch_line events =
    line (codes "watch weight " ++ decimal (weight_of events) ++ codes " undos " ++ decimal (undos_in events) ++ codes " cuts " ++ decimal (cuts_in events))

-- what a run shows, and that line
abbrev pub watched_by : BookView → PlainState → List ℕ
watched_by book state = shown_by book state ++ watch_line book.history.events

-- the line behind what a run shows
abbrev pub line_behind : LastLine → List Event → List ℕ
line_behind Nothing events = []
line_behind (Mill size) events = mill_line size events
line_behind Watch events = watch_line events

-- the whole text of a run with such a line
abbrev pub text_with : LastLine → BookView → PlainState → List ℕ
text_with Nothing = shown_by
text_with (Mill size) = milled_by size
text_with Watch = watched_by

-- A watched run has a floor also with one worker: of it is said what is said of a run by the most workers.
abbrev pub run_as : LastLine → ℕ → ℕ
run_as Watch workers = most_workers
run_as last workers = workers

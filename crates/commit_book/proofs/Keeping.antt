-- What is kept of the run beside its threads: writes, prints, saved controls, nodes, numbers, and room for more.

-- The last cut of a run with one more step.
pub mod Floors
-- The kept writes of references after a step.
pub mod WriteSteps
-- The saved controls after a step.
pub mod SavedSteps
-- The nodes of the graph after a step.
pub mod NodeSteps
-- A number that no event names is new in the state to which the events lead.
pub mod Unnamed
-- The script, the generations and what is due, after an event.
pub mod EventSteps
-- A step keeps what is kept of the run.
pub mod JournalSteps
-- The numbers in a state are below those that are handed out next, and these follow each step.
pub mod Named
-- Steps that are pushed.
pub mod Pushing
-- What one step leaves of each part that is kept of the run, from what the calls on the part leave.
pub mod KeptParts
-- What each kind of step leaves of what is kept of a run, from what its calls leave.
pub mod KeptSteps
-- The counts that are kept, after one step.
pub mod KeptTallies
-- There is room for the next steps: no number and no weight that they need is out of its range.
pub mod Room
-- What is there has its line and its number, and what comes next isn't there yet.
pub mod RoomHere
-- The next event may be added to the log of writes, to the saved controls and to the graph.
pub mod RoomKept
-- What is there has a number of 1 or more: no event names 0.
pub mod RoomNames
-- The next event comes after all that is kept of the run.
pub mod RoomRun
-- What is kept of the run once the pure steps of a commit were pushed.
pub mod KeptLocal
-- What callers see of a book stays while room is made, and what they see once the steps of a commit are pushed.
pub mod SeenAfter
-- What is read of the steps of a run, with one event more.
pub mod ReadSteps
-- What was read stays read while the journal grows.
pub mod ReadKept
-- What was read of the journal stays so while steps are pushed.
pub mod SeenRead
-- The kept writes, the saved controls and the nodes after a cut.
pub mod Cutting
-- A cut keeps what is kept of the run.
pub mod CuttingJournal
-- The pure steps of a commit leave which sections can be taken back.
pub mod SameSections
-- Nothing is read after a cut.
pub mod ReadCut
-- The kept prints while the run goes on, loses steps and is cut.
pub mod Prints

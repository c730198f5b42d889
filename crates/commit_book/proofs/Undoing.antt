-- A stabilize that is granted: what is reached, taken out and put back, and that the book shows what is left.

-- Steps that are taken out from the end of a thread, down to a line.
pub mod GatheredSteps
-- Steps that are taken out of one thread after the other.
pub mod GatheredLines
-- What stays of a run when some of its steps go: its writes, where its actors stood and its last cut, by the pass of the law of surviving runs.
pub mod UndoneParts
-- What an undo leaves of threads, of saved controls and of writes, by the law of surviving runs.
pub mod Undone
-- The nodes of the graph after an undo.
pub mod UndoneNodes
-- An undo keeps what is kept of the run.
pub mod UndoneJournal
-- What threads are and do after an undo, from what carrying it out leaves of their slots.
pub mod UndoneThreads
-- Who waits on channels after an undo: touched threads withdraw, and then the channels are removed whose making was taken away.
pub mod UndoneOffers
-- What edges of the graph reach from a section is what is reached from it in the run: nodes and edges of the graph, from those of the run.
pub mod UndoneMarks
-- The edges of the graph are those of the run above its last cut, so what they reach from a section is what is reached from it.
pub mod UndoneEdges
-- The lines that a plan has, from what a run loses: so carrying the plan out leaves the threads as an undo does.
pub mod UndoneLines
-- Where the actors of a step stood before it that saves their controls: at an act, so not at an end.
pub mod UndoneStood
-- What a book that shows a run says of the threads that an undo touches: what carrying a plan out asks, and that its lines are the first lost steps.
pub mod UndoneKnown
-- The queue after an undo: touched threads leave it, and those that go back come to its tail.
pub mod UndoneQueue
-- A book after an undo, put together: its threads, their generations, states, queue and offers.
pub mod UndoneBook
-- What carrying a plan out leaves of the nodes and of the saved controls is what an undo leaves.
pub mod UndoneKept
-- Which steps an undo takes away, by the lines of their threads: of each thread that has a line, all from there on.
pub mod UndoneSteps
-- A pin is reached from a section exactly where one of the marked nodes is a pin's.
pub mod UndonePins
-- A step that enters no section, cuts nothing and is no pin leaves which sections can be taken back.
pub mod UndoneLocal
-- What can be struck of a book: a step of the run above its last cut, with what it wrote and made.
pub mod StruckSteps
-- On a channel whose making an undo takes away nobody waits, once the touched threads have withdrawn.
pub mod UndoneWaiting
-- The steps that are gathered are those that an undo takes away, and what was read stays read without them.
pub mod LostSteps
-- What the calls of an undo need, from what the book shows before it.
pub mod UndoneNeeds
-- The threads that go back by a plan, in the order of their numbers.
pub mod UndoneTail
-- A section that was taken back, from what its calls leave: the book shows it, what it does, and what is told of it.
pub mod UndoneDone
-- The innermost section of a thread is one that the thread entered in the run.
pub mod MarkEntered
-- A stabilize that is granted, from what its calls leave: what it does, and that the book shows it.
pub mod UndoLasts
-- Whether a stabilize is granted, and what its calls need.
pub mod Granting
-- One step that is struck, and several one after another.
pub mod StrikeCalls
-- The count of failed threads, when one touched thread after the other isn't counted any more; and pins among marked nodes.
pub mod Uncounted
-- What the calls of an undo leave, from what they say of themselves.
pub mod UndoCalls
-- A stabilize of a section above the last cut on which no pin depends: what its calls need, and what they leave.
pub mod TakeBack

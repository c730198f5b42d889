-- A commit of each act but a stabilize that is granted: what its calls need, what they leave, and that the book shows it.

-- Who is met on a channel waits there.
pub mod Meeting
-- What is left of a book by an act after which the thread goes on from a control that was made for it: a section that is entered, a reference that is read, a stabilize that is refused.
pub mod Lasted
-- What is left of a book by each act that moves no thread but its own and gets a value: the thread's probe, attempt, pin, reference, or write.
pub mod Lasting
-- What each step of one thread changes, from what the thread looks at.
pub mod Effects
-- What a control answers when it is asked, in the words of the plain language.
pub mod EffectsAsked
-- What a get and a set change, and that the references and channels at which a thread stands are there.
pub mod EffectsHeld
-- What the pure steps of a progress change, and what they leave.
pub mod EffectsLocal
-- What a meeting of a sender and a receiver changes.
pub mod EffectsMeeting
-- What the calls of an act need that moves no thread but its own, and what its answer leaves.
pub mod Acted
-- Which row an act is in.
pub mod Rowing
-- A commit whose act moves no thread but its own.
pub mod SingleActs
-- What the calls of an act leave that moves no thread but its own, put together.
pub mod SingleCalls
-- The step of each act that moves no thread but its own, from what its calls leave.
pub mod SingleLabels
-- The step of a print, from what its calls leave.
pub mod SinglePrints
-- What the parts of a book need for the step of an act, once the pure steps are pushed.
pub mod Needed
-- An act's step has a number of 32 bits, as a saved control has place for.
pub mod Narrow
-- What is left of a book once a thread has made a channel, whose lines were made with the room for its step.
pub mod Opened
-- Each number of 64 bits may be what a probe gets.
pub mod ProbeWords
-- A commit whose act moves a second thread: a child that it starts, or a partner that it meets.
pub mod PairActs
-- A commit after which a thread waits.
pub mod WaitActs
-- A commit of a thread that offers nothing and makes no step of an act: it goes on, or has ended.
pub mod RestActs
-- What a commit does, by what is asked of its thread.
pub mod Performed
-- Whom a thread meets on a channel, and what both then stand at.
pub mod Exchanging
-- Who is met by a thread with an offer, and that the channels of the offer are there.
pub mod Matched
-- A commit after which two threads have met.
pub mod MeetActs
-- What the calls of a meeting leave, put together.
pub mod MeetCalls
-- What a meeting needs: both threads can meet so.
pub mod MeetNeeds
-- The row of a thread with an offer.
pub mod RowsMet
-- What the calls need of an act that starts a child, or in which two threads meet.
pub mod PairNeeds
-- What the calls leave by which a thread begins to wait.
pub mod WaitCalls
-- What the calls leave by which a child is started.
pub mod SpawnCalls
-- What the calls leave by which two threads meet.
pub mod CommCalls
-- What is performed where a thread has an offer.
pub mod ExchangeCalls
-- A commit at a cut, from what its calls leave: what it does, and that the book shows it.
pub mod CutActs
-- A release, from what its calls leave: the book shows it.
pub mod ReleaseActs
-- What a release needs of a book, and what its calls leave.
pub mod Releasing
-- What a commit answers and leaves, once it was performed and is counted.
pub mod Committed

-- Who is there, who waits, who comes next: what a book shows of its threads, their queue and their offers.

-- Which threads and channels there are after a step.
pub mod ThreadSteps
-- Threads that change between Ready and Leased, and nothing else.
pub mod Requeued
-- Offers that leave the lines, offers that join them, and channels that are made.
pub mod Waiting
-- Where nobody is ready and nobody leased, no thread can step.
pub mod Resting
-- A book shows its start.
pub mod Starting
-- What a lease, its return and a recall leave of a book.
pub mod Lending
-- A recall leaves nobody a lease.
pub mod Recalled
-- Which turn comes next, from what a book keeps.
pub mod Choosing
-- What is told of a thread's end.
pub mod Telling
-- What holds of each live thread, once one has changed or was added.
pub mod Changed
-- A thread that no event names was never put back.
pub mod Fresh
-- What holds of the threads, but for the queue, and how it stays so while they change one at a time.
pub mod Standing
-- What a progress says of the thread from which it began: one that waits or has ended makes no step.
pub mod Staying
-- The threads once one begins to wait, and once one that waits is met.
pub mod Parking
-- The threads once one is added, and once a channel is made.
pub mod Adding
-- How many threads failed, once one has changed or was added.
pub mod Faulted
-- What a book shows of its threads after each kind of commit.
pub mod Going
-- The queue once threads came to its tail.
pub mod Queueing
-- Who waits, who meets whom, and who may begin to wait.
pub mod Partners
-- What a book shows doesn't depend on how many commits were answered how.
pub mod Recounted
-- A thread goes on, by the calls on the slots.
pub mod GoneOn
-- Who is in a state, and how many are.
pub mod Holding
-- What follows where a turn was chosen.
pub mod Chosen

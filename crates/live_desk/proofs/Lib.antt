-- Who waits, while the book changes.
pub mod Living
-- What a live desk answers.
pub mod Answering
-- Commits and leases of those that wait.
pub mod Committing

-- The lemmas behind `Book`, in six rooms. The root of a room says of each file what it proves.
--
-- What every book keeps (`IsShown` of specs/Book.antt), and where it is shown that each call keeps it:
--
--     journal: history, script, channels, writes, references, printed     a step: Keeping     an undo: Undoing
--     journal: next, few                                                  Keeping (Named, Unnamed, Room)
--     journal: saved, saved_fit, nodes                                    a step, a cut: Keeping     an undo: Undoing
--     threads: threads, fit, generations, doing, queue, offers, found     a step: Threads     an undo: Undoing
--
-- The clauses of its calls:
--
--     new, lease, give_back, recall                  Threads
--     counts, due, fault_of                          Threads
--     commit, commit_current, release                Acting
--     both commits, of a stabilize that is granted   Undoing
--     feed, unused, is_held, asks_probe              Numbers
--     the laws of src/laws.rt                        Lawful
--     released, unreleased                           Lawful (Firm)
--     job, history, printed, reference, last_thread  no room: what the call hands out is what the view says

-- Threads, states, queue and offers.
pub mod Threads
-- What is kept of the run beside its threads.
pub mod Keeping
-- A commit of each act but a stabilize that is granted.
pub mod Acting
-- A stabilize that is granted.
pub mod Undoing
-- The numbers that probes get.
pub mod Numbers
-- The laws of books.
pub mod Lawful

-- A book crosses threads since its program and what it keeps do.
use denote.Param.Send.{sendable}
use Rattle.std.proofs.Crossing.{crosses}
use Rattle.stab_code.proofs.Crossing.{program-send, program-sync}
use Rattle.commit_book.proofs.Lawful.Crossing.{parts-send, parts-sync}
use Rattle.commit_book.proofs.book_crosses_threads.Goals as goal

pub crosses_threads-requires-send-T : goal.crosses_threads-requires-send-T
crosses_threads-requires-send-T c κs = search (program-send, program-sync, parts-send, sendable, crosses) depth 60 fits 100000

pub crosses_threads-requires-sync-T : goal.crosses_threads-requires-sync-T
crosses_threads-requires-sync-T c κs = search (program-send, program-sync, parts-sync, sendable, crosses) depth 60 fits 100000

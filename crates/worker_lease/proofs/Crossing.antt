-- Desks cross threads since their books do.
use denote.Param.Send.{IsSend, sendable}
use Rattle.std.proofs.Crossing.{crosses}
use Rattle.stab_code.proofs.Crossing.{program-send, program-sync}
use Rattle.commit_book.proofs.Lawful.Crossing.{parts-send}
use Rattle.worker_lease.specs.contracts.desk.Desk as desks

pub desk-send : IsSend desks.the_row
desk-send = search (parts-send, program-send, program-sync, sendable, crosses) depth 60 fits 100000

-- What a book keeps crosses threads, which is shown by itself, since a search over all parts of a book ends at a limit.
use denote.Param.Send.{IsSend, IsSync, sendable}
use Rattle.std.proofs.Crossing.{crosses}
use Rattle.stab_base.proofs.value.Value.TheLaws.TheKnot.{both_send-Value, both_sync-Value}
use Rattle.step_eval.proofs.Crossing.{control-send, control-sync}
use Rattle.commit_book.specs.contracts.rollback.Rollback as rollbacks
use Rattle.commit_book.specs.contracts.parts.Parts as parts

rollback-send : IsSend (rollbacks.the_field).row
rollback-send = search (sendable, crosses) depth 60 fits 100000

rollback-sync : IsSync (rollbacks.the_field).row
rollback-sync = search (sendable, crosses) depth 60 fits 100000

pub parts-send : IsSend (parts.the_field).row
parts-send = search (rollback-send, control-send, control-sync, both_send-Value, both_sync-Value, sendable, crosses) depth 60 fits 100000

pub parts-sync : IsSync (parts.the_field).row
parts-sync = search (rollback-sync, control-send, control-sync, both_send-Value, both_sync-Value, sendable, crosses) depth 60 fits 100000

-- Counters cross threads since their jobs do.
use denote.Param.Send.{IsSend, sendable}
use Rattle.std.proofs.Crossing.{crosses}
use Rattle.stab_code.proofs.Crossing.{program-send, program-sync}
use Rattle.turn_trial.specs.contracts.counter.Counter as counters

pub counter-send : IsSend counters.the_row
counter-send = search (program-send, program-sync, sendable, crosses) depth 60 fits 100000

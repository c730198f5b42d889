-- A control crosses threads since its parts do.
use denote.Param.Send.{sendable}
use Rattle.std.proofs.Crossing.{crosses}
use Rattle.step_eval.proofs.Crossing.{control-send, control-sync}
use Rattle.step_eval.proofs.control_crosses_threads.Goals as goal

pub crosses_threads-requires-send-T : goal.crosses_threads-requires-send-T
crosses_threads-requires-send-T c κs = search (control-send, sendable, crosses) depth 60 fits 100000

pub crosses_threads-requires-sync-T : goal.crosses_threads-requires-sync-T
crosses_threads-requires-sync-T c κs = search (control-sync, sendable, crosses) depth 60 fits 100000

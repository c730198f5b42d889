-- A progress crosses threads since its program and its controls do.
use denote.Param.Send.{sendable}
use Rattle.std.proofs.Crossing.{crosses}
use Rattle.stab_code.proofs.Crossing.{program-send, program-sync}
use Rattle.step_eval.proofs.Crossing.{control-send, control-sync}
use Rattle.step_eval.proofs.progress_crosses_threads.Goals as goal

pub crosses_threads-requires-send-T : goal.crosses_threads-requires-send-T
crosses_threads-requires-send-T c κs = search (program-send, program-sync, control-send, sendable, crosses) depth 60 fits 100000

pub crosses_threads-requires-sync-T : goal.crosses_threads-requires-sync-T
crosses_threads-requires-sync-T c κs = search (program-send, program-sync, control-sync, sendable, crosses) depth 60 fits 100000

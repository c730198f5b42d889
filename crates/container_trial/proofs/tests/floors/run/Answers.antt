use denote.Param.Send.{sendable}
use Rattle.std.proofs.Crossing.{crosses}
use Rattle.turn_trial.proofs.Crossing.{counter-send}
use Rattle.container_trial.proofs.tests.floors.run.Goals as goal

pub work_all-requires-send-K : goal.work_all-requires-send-K
work_all-requires-send-K g c κs within = search (counter-send, sendable, crosses) depth 40

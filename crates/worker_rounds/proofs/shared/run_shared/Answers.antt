use Rattle.std.proofs.Common.{subst}
use denote.Param.Send.{sendable}
use Rattle.std.proofs.Crossing.{crosses}
use Rattle.commit_book.specs.Book.{BookView}
use Rattle.sink_lines.specs.Device.{device}
use Rattle.worker_lease.proofs.Crossing.{desk-send}
use Rattle.worker_rounds.specs.Shared.{IsShared}
use Rattle.worker_rounds.proofs.Sharing.{shared_from}
use Rattle.worker_rounds.proofs.shared.run_shared.Goals as goal

pub run_state-state-requires-send-D : goal.run_state-state-requires-send-D
run_state-state-requires-send-D g c κs within = search (desk-send, sendable, crosses) depth 40

pub returns : goal.returns
returns g c =
    let before = device g.K.Sink.told g.K.Sink.faults c.args.sink.now in
    let after = device g.K.Sink.told g.K.Sink.faults c.run_state-state.new.sink in
    let r = c.recalled.ensures in
    subst (λ (d : BookView). IsShared c.args.workers d c.recalled.result c.run_state-state.result.stop before after) c.new-desk.ensures
    (shared_from c.args.workers c.new-desk.result.job c.run_state-state.result.state c.recalled.result c.run_state-state.result.stop before after c.run_state-state.ensures r.recalled r.shown r.free r.by_one)

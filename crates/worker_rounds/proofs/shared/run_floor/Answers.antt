use Rattle.std.proofs.Common.{inl, inr, sym, subst, Some, arith}
use denote.Param.Send.{sendable}
use Rattle.std.proofs.Crossing.{crosses}
use Rattle.stab_code.proofs.Crossing.{program-send, program-sync}
use Rattle.sink_lines.specs.Device.{device}
use Rattle.turn_floor.specs.Parts.{AreAll}
use Rattle.worker_lease.specs.Answers.{IsHistoryOf}
use Rattle.worker_rounds.specs.declared.rounds.Stop.TheVariants.{NoMemory}
use Rattle.worker_rounds.specs.Rounds.{RoundsSay, first_seen}
use Rattle.worker_rounds.proofs.Sharing.{left_by, passes_left}
use Rattle.worker_rounds.proofs.Written.{none_seen}
use Rattle.worker_rounds.proofs.shared.run_floor.Goals as goal

pub returns-in_default : goal.returns-in_default
returns-in_default g c =
    let e = c.close-state.ensures in
    let sink = device g.K.Sink.told g.K.Sink.faults c.args.sink.now in
    left_by c.args.floor c.args.passes.items (g.D.Kept.job_of c.close-state.result.0) (g.D.Kept.events_of c.close-state.result.0) (Some NoMemory) sink sink c.requires.all c.requires.some e.job e.seen e.own e.named
    (inl c.requires.new) (none_seen c.args.floor.start.job (first_seen c.args.passes.items) sink c.requires.new)

pub play_rounds-stop-requires-sync-J : goal.play_rounds-stop-requires-sync-J
play_rounds-stop-requires-sync-J g c κs within = search (program-send, program-sync, sendable, crosses) depth 60 fits 100000

pub close-state-requires-2-clause-all : goal.close-state-requires-2-clause-all
close-state-requires-2-clause-all g c =
    let m = c.play_rounds-stop.auto.cells in
    let n = c.as_mut_slice.ensures.len in
    let is = passes_left (λ c. c.pass) c.cells_of-cells.result c.play_rounds-stop.new.cells c.passes_of.result.items c.passes_of.ensures (omega (arith, m, n)) in
    subst (AreAll c.args.floor) (sym is) c.play_rounds-stop.ensures.all

pub returns : goal.returns
returns g c =
    let m = c.play_rounds-stop.auto.cells in
    let n = c.as_mut_slice.ensures.len in
    let is = passes_left (λ c. c.pass) c.cells_of-cells.result c.play_rounds-stop.new.cells c.passes_of.result.items c.passes_of.ensures (omega (arith, m, n)) in
    let before = device g.K.Sink.told g.K.Sink.faults c.args.sink.now in
    let after = device g.K.Sink.told g.K.Sink.faults c.play_rounds-stop.new.sink in
    let all = subst (AreAll c.args.floor) (sym is) c.play_rounds-stop.ensures.all in
    let e = c.close-state-2.ensures in
    left_by c.args.floor c.passes_of.result.items (g.D.Kept.job_of c.close-state-2.result.0) (g.D.Kept.events_of c.close-state-2.result.0) c.play_rounds-stop.result before after all c.requires.some e.job e.seen e.own e.named
    (inr (subst (λ ps. IsHistoryOf c.args.floor.start.job (first_seen ps)) (sym is) c.play_rounds-stop.ensures.history))
    (subst (λ ps. RoundsSay c.play_rounds-stop.result c.args.floor.start.job (first_seen ps) before after) (sym is) c.play_rounds-stop.ensures.says)

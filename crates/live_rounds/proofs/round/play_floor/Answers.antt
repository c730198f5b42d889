use Rattle.std.proofs.Common.{map, ◌∙◌, sym, ap, subst, arith}
use denote.Param.Send.{sendable}
use Rattle.std.proofs.Crossing.{crosses}
use Rattle.stab_code.proofs.Crossing.{program-send, program-sync}
use Rattle.turn_floor.specs.Parts.{AreAll}
use Rattle.live_rounds.proofs.Rounding.{not_played, passes_left, played}
use Rattle.live_rounds.proofs.round.play_floor.Goals as goal

pub run_round-requires-sync-J : goal.run_round-requires-sync-J
run_round-requires-sync-J g c κs within = search (program-send, program-sync, sendable, crosses) depth 60 fits 100000

pub returns-in_default : goal.returns-in_default
returns-in_default g c =
    let e = c.close-state.ensures in
    let r = c.requires in
    not_played c.args.floor.start.workers c.args.floor (g.D.Kept.job_of c.close-state.result.0) (g.D.Kept.events_of c.close-state.result.0) e.job e.begins e.named c.args.passes.items r.some r.new e.own

pub close-state-requires-2-clause-all : goal.close-state-requires-2-clause-all
close-state-requires-2-clause-all g c =
    let m = c.run_round.auto.cells in
    let n = c.as_mut_slice.ensures.len in
    let is = passes_left (λ c. c.pass) c.cells_of-cells.result c.run_round.new.cells c.passes_of.result.items c.passes_of.ensures (omega (arith, m, n)) in
    subst (AreAll c.args.floor) (sym is) c.run_round.ensures.all

pub returns : goal.returns
returns g c =
    let m = c.run_round.auto.cells in
    let n = c.as_mut_slice.ensures.len in
    let is = passes_left (λ c. c.pass) c.cells_of-cells.result c.run_round.new.cells c.passes_of.result.items c.passes_of.ensures (omega (arith, m, n)) in
    let e = c.close-state-2.ensures in
    let r = c.requires in
    played c.args.floor.start.workers c.args.floor (g.D.Kept.job_of c.close-state-2.result.0) (g.D.Kept.events_of c.close-state-2.result.0) e.job e.begins e.named
    g.D.OnDesk.pauses (λ c. c.pass) (λ c. c.end) c.as_mut_slice.result.now c.run_round.new.cells c.passes_of.result.items r.some
    (ap (map (λ c. c.pass)) c.as_mut_slice.ensures.value ∙ c.cells_of-cells.ensures ∙ r.new) c.run_round.ensures.rounds is e.own

use Rattle.std.proofs.Common.{◌≡◌, length, map, sym, ap, ◌∙◌, slice_index_or, arith}
use denote.Param.Send.{sendable}
use Rattle.std.proofs.Crossing.{crosses}
use Rattle.stab_code.proofs.Crossing.{program-send, program-sync}
use Rattle.worker_lease.proofs.Crossing.{desk-send}
use Rattle.worker_lease.proofs.Rounding.{all_set, at_map, length_map}
use Rattle.worker_trial.proofs.two.work_both.Goals as goal

pub turn-end-requires-clause-own : goal.turn-end-requires-clause-own
turn-end-requires-clause-own g c =
    let two = c.requires.two in
    let long : length (map (λ c. c.pass) c.args.cells.now) ≡ length c.args.cells.now = length_map (λ c. c.pass) c.args.cells.now in
    let there = at_map (λ c. c.pass) c.args.cells.now 1 c.index-cells-1.result.pass c.index-cells-1.result (omega (arith, two)) in
    ap (λ q. q.floor) (sym there) ∙ c.requires.all.own 1 c.index-cells-1.result.pass (omega (arith, two, long))

pub run_round-requires-clause-all : goal.run_round-requires-clause-all
run_round-requires-clause-all g c κs within =
    let two = c.requires.two in
    let later = c.turn-end.ensures.later in
    let here = at_map (λ c. c.pass) c.args.cells.now 1 c.index-cells-1.result.pass c.index-cells-1.result (omega (arith, two)) in
    all_set (λ c. c.pass) c.args.floor.now c.args.cells.now 1
    (record { pass = c.turn-end.new.pass; end = (slice_index_or c.args.cells.now 1 c.index-cells-1.result).end })
    (λ e.
    let there = at_map (λ c. c.pass) c.args.cells.now 1 c.index-cells-1.result.pass e (omega (arith, two)) in
    (later.floor ∙ ap (λ q. q.floor) (sym here ∙ there), later.worker ∙ ap (λ q. q.worker) (sym here ∙ there))) c.requires.all

pub run_round-requires-send-D : goal.run_round-requires-send-D
run_round-requires-send-D g c κs within = search (desk-send, sendable, crosses) depth 40

pub run_round-requires-sync-J : goal.run_round-requires-sync-J
run_round-requires-sync-J g c κs within = search (program-send, program-sync, sendable, crosses) depth 60 fits 100000

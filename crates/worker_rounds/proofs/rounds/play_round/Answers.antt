use Rattle.std.proofs.Common.{◌<◌, length, map, sym, subst, arith}
use Rattle.std.specs.Prelude.{slice_index_or}
use Rattle.sink_lines.specs.Device.{device}
use Rattle.worker_lease.specs.Answers.{IsHistoryOf}
use Rattle.worker_rounds.specs.Rounds.{NextSays, first_seen}
use Rattle.worker_rounds.proofs.First.{all_first, first_floor, first_is, first_round, first_set, first_worker, never, next_from, used_up, wrote_none}
use Rattle.worker_rounds.proofs.rounds.play_round.Goals as goal

pub returns-then-has_ended-clause-history : goal.returns-then-has_ended-clause-history
returns-then-has_ended-clause-history g c =
    (first_round (λ c. c.pass) (λ c. c.end) c.args.floor.now.start.job c.args.floor.now c.args.cells.now c.run_round.new.cells c.requires.all c.run_round.ensures.rounds c.requires.some c.requires.begun).history

pub returns-then-has_ended-clause-says : goal.returns-then-has_ended-clause-says
returns-then-has_ended-clause-says g c =
    wrote_none c.args.floor.now.start.job _ _ (device g.K.Sink.told g.K.Sink.faults c.args.sink.now)
    (first_round (λ c. c.pass) (λ c. c.end) c.args.floor.now.start.job c.args.floor.now c.args.cells.now c.run_round.new.cells c.requires.all c.run_round.ensures.rounds c.requires.some c.requires.begun)

pub returns-then-not-has_ended-clause-history : goal.returns-then-not-has_ended-clause-history
returns-then-not-has_ended-clause-history g c =
    (first_round (λ c. c.pass) (λ c. c.end) c.args.floor.now.start.job c.args.floor.now c.args.cells.now c.run_round.new.cells c.requires.all c.run_round.ensures.rounds c.requires.some c.requires.begun).history

pub returns-then-not-has_ended-clause-says : goal.returns-then-not-has_ended-clause-says
returns-then-not-has_ended-clause-says g c = (
  wrote_none c.args.floor.now.start.job _ _ (device g.K.Sink.told g.K.Sink.faults c.args.sink.now)
      (first_round (λ c. c.pass) (λ c. c.end) c.args.floor.now.start.job c.args.floor.now c.args.cells.now c.run_round.new.cells c.requires.all c.run_round.ensures.rounds c.requires.some c.requires.begun),
  used_up (λ c. c.pass) (λ c. c.end) (g.met.D.NeverPauses g.world.𝓛 g.world.𝓜 g.world.𝓡 ((λ s x. x), (λ x. x), (λ x. x), λ x. x)).never c.args.floor.now.start.job c.args.cells.now c.run_round.new.cells c.run_round.ensures.rounds c.requires.some (never _ c.if-has_ended.false c.has_ended.ensures.1) (never _ c.if-not-has_ended.true c.has_ended-2.ensures.1),
)

pub write_due-requires-clause-own : goal.write_due-requires-clause-own
write_due-requires-clause-own g c =
    let m = c.run_round.ensures.rounds.as_many in
    let s = c.requires.some in
    first_floor (λ c. c.pass) (λ c. c.end) c.args.floor.now c.run_round.new.cells c.index-cells-0.result c.run_round.ensures.all (omega (arith, m, s))

pub write_due-requires-clause-worker : goal.write_due-requires-clause-worker
write_due-requires-clause-worker g c =
    let m = c.run_round.ensures.rounds.as_many in
    let s = c.requires.some in
    first_worker (λ c. c.pass) (λ c. c.end) c.args.floor.now c.run_round.new.cells c.index-cells-0.result c.run_round.ensures.all (omega (arith, m, s))

pub write_due-requires-clause-history : goal.write_due-requires-clause-history
write_due-requires-clause-history g c =
    let m = c.run_round.ensures.rounds.as_many in
    let s = c.requires.some in
    subst (IsHistoryOf c.args.floor.now.start.job) (first_is (λ c. c.pass) (λ c. c.end) c.run_round.new.cells c.index-cells-0.result (omega (arith, m, s)))
    (first_round (λ c. c.pass) (λ c. c.end) c.args.floor.now.start.job c.args.floor.now c.args.cells.now c.run_round.new.cells c.requires.all c.run_round.ensures.rounds c.requires.some c.requires.begun).history

pub returns-clause-all : goal.returns-clause-all
returns-clause-all g c =
    let m = c.run_round.ensures.rounds.as_many in
    let s = c.requires.some in
    all_first (λ c. c.pass) (λ c. c.end) c.args.floor.now c.run_round.new.cells
    (record { pass = c.write_due.new.pass; end = (slice_index_or c.run_round.new.cells 0 c.index-cells-0.result).end }) c.index-cells-0.result (omega (arith, m, s))
    (c.write_due.ensures.floor, c.write_due.ensures.worker) c.run_round.ensures.all

pub returns-clause-history : goal.returns-clause-history
returns-clause-history g c =
    let m = c.run_round.ensures.rounds.as_many in
    let s = c.requires.some in
    subst (IsHistoryOf c.args.floor.now.start.job)
    (sym (first_set (λ c. c.pass) (λ c. c.end) c.run_round.new.cells (record { pass = c.write_due.new.pass; end = (slice_index_or c.run_round.new.cells 0 c.index-cells-0.result).end }) (omega (arith, m, s))))
    c.write_due.ensures.history

pub returns-clause-says : goal.returns-clause-says
returns-clause-says g c =
    let m = c.run_round.ensures.rounds.as_many in
    let s = c.requires.some in
    let job = c.args.floor.now.start.job in
    let before = device g.K.Sink.told g.K.Sink.faults c.args.sink.now in
    let after = device g.K.Sink.told g.K.Sink.faults c.write_due.new.sink in
    let some : 0 < length c.run_round.new.cells = omega (arith, m, s) in
    let round = first_round (λ c. c.pass) (λ c. c.end) job c.args.floor.now c.args.cells.now c.run_round.new.cells c.requires.all c.run_round.ensures.rounds c.requires.some c.requires.begun in
    subst (λ es. NextSays c.write_due.result job (first_seen (map (λ c. c.pass) c.args.cells.now)) es before after)
    (sym (first_set (λ c. c.pass) (λ c. c.end) c.run_round.new.cells (record { pass = c.write_due.new.pass; end = (slice_index_or c.run_round.new.cells 0 c.index-cells-0.result).end }) some))
    (next_from c.write_due.result job (first_seen (map (λ c. c.pass) c.args.cells.now)) (first_seen (map (λ c. c.pass) c.run_round.new.cells)) c.write_due.new.pass.seen before after round
    (subst (λ es. NextSays c.write_due.result job es c.write_due.new.pass.seen before after) (sym (first_is (λ c. c.pass) (λ c. c.end) c.run_round.new.cells c.index-cells-0.result some)) c.write_due.ensures.says))

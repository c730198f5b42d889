use Rattle.std.proofs.Common.{◌<◌, length, map}
use Rattle.sink_lines.specs.Device.{Gains, device}
use Rattle.turn_floor.specs.Parts.{AreAll}
use Rattle.worker_lease.specs.Releases.{released_text}
use Rattle.worker_lease.specs.Working.{IsBegun}
use Rattle.worker_rounds.specs.Rounds.{first_seen}
use Rattle.worker_rounds.proofs.rounds.play_rounds.Given as goal

abbrev pub invariant-loop : goal.invariant-loop
invariant-loop g l = record {
  can : (goal.iterator-loop g).can_next l.iterator';
  finite : (goal.iterator-loop g).is_finite l.iterator';
  all : AreAll l.fn.floor (map (λ c. c.pass) l.cells);
  some : 0 < length l.cells;
  begun : IsBegun l.fn.floor.start.job (first_seen (map (λ c. c.pass) l.cells));
  gains : Gains (device g.K.Sink.told g.K.Sink.faults l.fn.sink) (device g.K.Sink.told g.K.Sink.faults l.sink) (released_text l.fn.floor.start.job (first_seen (map (λ c. c.pass) l.cells)));
}

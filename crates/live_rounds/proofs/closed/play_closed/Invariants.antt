use Rattle.std.proofs.Common.{◌≡◌}
use Rattle.sink_lines.specs.Device.{device}
use Rattle.live_rounds.specs.Rounds.{IsOf}
use Rattle.live_rounds.specs.Stretches.{GainsSince}
use Rattle.live_rounds.proofs.closed.play_closed.Given as goal

abbrev pub invariant-loop : goal.invariant-loop
invariant-loop g l = record {
  can : (goal.iterator-loop g).can_next l.iterator';
  finite : (goal.iterator-loop g).is_finite l.iterator';
  of : IsOf l.fn.workers l.left;
  job : l.left.job ≡ l.fn.book.job;
  wrote : GainsSince l.fn.book l.left (device g.K.Sink.told g.K.Sink.faults l.fn.sink) (device g.K.Sink.told g.K.Sink.faults l.sink);
}

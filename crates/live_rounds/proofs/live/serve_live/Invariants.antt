use Rattle.sink_lines.specs.Device.{device}
use Rattle.std.proofs.Common.{None}
use Rattle.commit_book.specs.Probing.{IsWithinScript}
use Rattle.live_rounds.specs.Numbers.{heard}
use Rattle.live_rounds.specs.Rounds.{IsOf}
use Rattle.live_rounds.specs.Stretches.{IsStretch}
use Rattle.live_rounds.proofs.live.serve_live.Given as goal

abbrev pub invariant-loop : goal.invariant-loop
invariant-loop g l = record {
  can : (goal.iterator-loop g).can_next l.iterator';
  finite : (goal.iterator-loop g).is_finite l.iterator';
  of : IsOf l.fn.workers l.left;
  within : IsWithinScript l.left;
  stretch : IsStretch None l.fn.book l.left
      (heard g.N.NumberSource.came g.N.NumberSource.ended g.N.NumberSource.last l.fn.source) (heard g.N.NumberSource.came g.N.NumberSource.ended g.N.NumberSource.last l.source)
      (device g.K.Sink.told g.K.Sink.faults l.fn.sink) (device g.K.Sink.told g.K.Sink.faults l.sink);
}

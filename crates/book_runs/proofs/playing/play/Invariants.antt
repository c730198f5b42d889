use Rattle.lone_worker.specs.Desk.{IsUnlent}
use Rattle.lone_worker.specs.Rounds.{AreRounds}
use Rattle.lone_worker.specs.Running.{IsLater}
use Rattle.sink_lines.specs.Device.{device}
use Rattle.book_runs.specs.Playing.{GainsSince}
use Rattle.book_runs.specs.Rounds.{rounds_left}
use Rattle.book_runs.proofs.playing.play.Given as goal

abbrev pub invariant-loop-sink : goal.invariant-loop-sink
invariant-loop-sink g l =
    AreRounds l.fn.book l.book × IsLater l.fn.book l.book × IsUnlent l.book
    × GainsSince l.fn.book l.book (device g.K.Sink.told g.K.Sink.faults l.fn.sink) (device g.K.Sink.told g.K.Sink.faults l.sink)

abbrev pub decreases-loop-sink : goal.decreases-loop-sink
decreases-loop-sink g l = rounds_left l.book

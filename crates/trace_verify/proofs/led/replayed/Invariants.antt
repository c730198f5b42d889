-- The events so far were replayed.
use Rattle.std.proofs.Common.{◌+◌, take}
use Rattle.trace_verify.specs.Replayed.{IsReady, IsReplayed}
use Rattle.trace_verify.proofs.led.replayed.Given as goal

abbrev pub invariant-loop-i : goal.invariant-loop-i
invariant-loop-i l = IsReady (l.i + 1) l.replay × IsReplayed l.job.program l.job.script (take l.i l.history.events) l.replay

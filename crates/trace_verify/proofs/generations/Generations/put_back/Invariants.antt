-- The undo is counted for the threads that act in the steps so far.
use Rattle.trace_verify.proofs.Counting.{CountsAll, acts_so_far}
use Rattle.trace_verify.proofs.generations.Generations.put_back.Given as goal

abbrev pub invariant-loop-step : goal.invariant-loop-step
invariant-loop-step l = CountsAll l.undo.0 (acts_so_far l.goes l.step-index) l.initial.self l.self

-- So many steps are made.
use Rattle.trace_verify.specs.Stretch.{AreMade}
use Rattle.trace_verify.proofs.stretch.made_in.Given as goal

abbrev pub invariant-loop-made : goal.invariant-loop-made
invariant-loop-made l = AreMade l.seq.0 l.t l.initial.state l.state l.made

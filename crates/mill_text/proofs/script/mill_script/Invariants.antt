use Rattle.std.proofs.Common.{◌≡◌}
use Rattle.mill_text.specs.Mill.{mill_script}
use Rattle.mill_text.proofs.script.mill_script.Given as goal

abbrev pub invariant-loop-before : goal.invariant-loop-before
invariant-loop-before l = l.script.items ≡ mill_script l.before

use Rattle.std.proofs.Common.{◌≡◌, [], drop, take}
use Rattle.scope_check.specs.Scope.{param_fault}
use Rattle.scope_check.proofs.header.first_fault.Given as goal

abbrev pub invariant-loop-i : goal.invariant-loop-i
invariant-loop-i l = param_fault l.bytes [] l.params ≡ param_fault l.bytes (take l.i l.params) (drop l.i l.params)

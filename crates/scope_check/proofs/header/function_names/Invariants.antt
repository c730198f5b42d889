use Rattle.std.proofs.Common.{◌≡◌, [], drop, map, take}
use Rattle.scope_check.specs.Scope.{function_fault, names_of}
use Rattle.scope_check.proofs.header.function_names.Given as goal

abbrev pub invariant-loop-function : goal.invariant-loop-function
invariant-loop-function l = record {
  fault : function_fault l.bytes [] l.functions ≡ function_fault l.bytes (take l.function-index l.functions) (drop l.function-index l.functions);
  names : map (λ name. name.now) l.names.keys ≡ names_of l.bytes (take l.function-index l.functions);
}

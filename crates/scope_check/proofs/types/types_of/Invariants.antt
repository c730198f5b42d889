use Rattle.std.proofs.Common.{◌≡◌, map, take}
use Rattle.scope_check.proofs.types.types_of.Given as goal

abbrev pub invariant-loop-param : goal.invariant-loop-param
invariant-loop-param l = l.types.items ≡ map (λ param. param.ty) (take l.param-index l.params)

use Rattle.std.proofs.Common.{◌≡◌, Some, map, take}
use Rattle.stab_types.specs.declared.given.Given.TheVariants.{Of}
use Rattle.stab_types.proofs.variables.parameters.Given as goal

abbrev pub invariant-loop-n : goal.invariant-loop-n
invariant-loop-n l = l.seen.items ≡ map (λ n. Some (Of n)) (take l.n-index l.takes)

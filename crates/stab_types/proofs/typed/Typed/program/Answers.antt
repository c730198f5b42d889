use Rattle.std.proofs.Common.{subst}
use Rattle.stab_types.specs.Typed.{IsTyped}
use Rattle.stab_types.proofs.typed.Typed.program.Goals as goal

pub returns-clause-typed : goal.returns-clause-typed
returns-clause-typed c = subst (λ p. ∥ IsTyped p ∥₁) c.self.view_is c.self.invariant

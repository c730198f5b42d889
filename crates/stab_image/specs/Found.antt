-- How often the threads of a state were put back.
use Rattle.std.specs.Prelude.{◌≡◌, ℕ, Some, None, IfSome}
use Rattle.std.specs.Ordering.{nat_cmp}
use Rattle.std.specs.FinMap as map
use Rattle.std.specs.FinMap.{FinMap}
use Rattle.language.specs.Plain.{PlainState, standing}
use Rattle.trace_verify.specs.declared.generations.Generations.{Generations}
use Rattle.trace_verify.specs.Generations.{times}

-- each thread of the state has its number, and no other one has any
pub record AreFound (s : PlainState) (g : Generations) (m : FinMap nat_cmp ℕ) : Type 0 where
  pub each : (t : ℕ) → IfSome (standing s t) (λ e. map.get m t ≡ Some (times g t))
  pub only : (t : ℕ) → standing s t ≡ None → map.get m t ≡ None

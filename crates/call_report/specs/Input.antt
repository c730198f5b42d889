-- The numbers that came to a call.
use Rattle.std.specs.Prelude.{Bool, false, ℤ, List, [], Option, Some, None}
use Rattle.number_source.specs.declared.came.Came.{Came}

-- what a source of numbers has told: the numbers that it answered, whether the input has ended, and the answer after which no number
-- comes
pub record Input : Type 0 where
  pub came : List ℤ
  pub ended : Bool
  pub last : Option Came

-- nothing was told
abbrev pub no_input : Input
no_input = record { came = []; ended = false; last = None }

-- a source, if there is one, as what it has told
abbrev pub input_of : {N : Type 0} → (N → List ℤ) → (N → Bool) → (N → Option Came) → Option N → Input
input_of came ended last None = no_input
input_of came ended last (Some source) = record { came = came source; ended = ended source; last = last source }

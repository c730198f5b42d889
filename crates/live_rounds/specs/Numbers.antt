-- The numbers that came while a run went on.
use Rattle.std.specs.Prelude.{◌≡◌, ℤ, Bool, List, [], ◌++◌, length, Option, Some, None}
use Rattle.stab_code.specs.JobParts.{JobParts, longer}
use Rattle.stab_code.specs.Limits.{max_script}
use Rattle.number_source.specs.declared.came.Came.{Came}
use Rattle.number_source.specs.declared.came.Came.TheVariants as came
use Rattle.live_rounds.specs.declared.halt.Halt.{Halt}
use Rattle.live_rounds.specs.declared.halt.Halt.TheVariants.{SinkFault, NoMemory, Bad, Failed, TooMany}

-- what a source has told: the numbers that came, whether the input has ended, and the answer after which no number comes
pub record Heard : Type 0 where
  pub came : List ℤ
  pub ended : Bool
  pub last : Option Came

-- a source as what it has told
abbrev pub heard : {T : Type 0} → (T → List ℤ) → (T → Bool) → (T → Option Came) → T → Heard
heard came ended last source = record { came = came source; ended = ended source; last = last source }

-- of the numbers that came none is left over; except where memory is wanted, and where the script is full, with one more that came
abbrev pub IsLeftOver : Option Halt → JobParts → List ℤ → Type 0
IsLeftOver None job over = over ≡ []
IsLeftOver (Some SinkFault) job over = over ≡ []
IsLeftOver (Some NoMemory) job over = Unit {0}
IsLeftOver (Some (Bad at)) job over = over ≡ []
IsLeftOver (Some Failed) job over = over ≡ []
IsLeftOver (Some TooMany) job over = (length job.script ≡ max_script) × (length over ≡ 1)

-- the numbers that came stand behind the script, except for those that are left over
pub record IsFed (halt : Option Halt) (old new : JobParts) (before after : List ℤ) : Type 0 where
  pub numbers : List ℤ
  pub over : List ℤ
  pub came : after ≡ before ++ numbers ++ over
  pub script : new ≡ longer old numbers
  pub left : IsLeftOver halt new over

-- a halt for what the source answered: that is its last answer
abbrev pub IsCaused : Option Halt → Heard → Type 0
IsCaused (Some (Bad at)) after = after.last ≡ Some (came.Bad at)
IsCaused (Some Failed) after = after.last ≡ Some came.Failed
IsCaused _ after = Unit {0}

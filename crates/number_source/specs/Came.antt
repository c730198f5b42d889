-- What an answer of a source says.
use Rattle.std.specs.Prelude.{Bool, true, false, ℤ, List, [], ◌∷◌, ◌++◌, Option, Some, None}
use Rattle.number_source.specs.declared.came.Came.{Came}
use Rattle.number_source.specs.declared.came.Came.TheVariants.{Number, Nothing, End, Bad, Failed}

-- the number that came, alone, if one did
abbrev pub numbers_in : Came → List ℤ
numbers_in (Number n) = n ∷ []
numbers_in Nothing = []
numbers_in End = []
numbers_in (Bad at) = []
numbers_in Failed = []

-- the numbers that came in several answers, in order
abbrev pub numbers_of : List Came → List ℤ
numbers_of [] = []
numbers_of (answer ∷ answers) = numbers_in answer ++ numbers_of answers

-- the input has ended
abbrev pub is_end : Came → Bool
is_end (Number n) = false
is_end Nothing = false
is_end End = true
is_end (Bad at) = false
is_end Failed = false

-- the answer, where no number comes after it
abbrev pub final_in : Came → Option Came
final_in (Number n) = None
final_in Nothing = None
final_in End = Some End
final_in (Bad at) = Some (Bad at)
final_in Failed = Some Failed

-- Sources as contracts see them.
use Rattle.std.specs.Prelude.{Bool, false, ℤ, List, [], ◌∷◌, Option, Some, None, if◌then◌else◌}
use Rattle.number_source.specs.declared.came.Came.{Came}
use Rattle.number_source.specs.declared.came.Came.TheVariants.{Number, Nothing, End, Bad, Failed}
use Rattle.number_source.specs.Came.{final_in, is_end}

-- the numbers that it has answered, and the answer that it gives from now on, if there is one
pub record Taken : Type 0 where
  pub came : List ℤ
  pub last : Option Came

-- the answer that it gives from now on is that the input has ended
abbrev pub has_ended : Option Came → Bool
has_ended None = false
has_ended (Some answer) = is_end answer

-- the answer, if no number comes after it
abbrev pub kept : Option Came → Option Came
kept None = None
kept (Some answer) = final_in answer

-- a source in memory: what is left of its plan, too
pub record Planned : Type 0 where
  pub plan : List Came
  pub came : List ℤ
  pub last : Option Came

-- the next answer of a plan: where the caller waits, the first that isn't a gap
abbrev pub next_answer : Bool → List Came → Came
next_answer waits [] = End
next_answer waits (Number n ∷ plan) = Number n
next_answer waits (Nothing ∷ plan) = if waits then next_answer waits plan else Nothing
next_answer waits (End ∷ plan) = End
next_answer waits (Bad at ∷ plan) = Bad at
next_answer waits (Failed ∷ plan) = Failed

-- what is left of the plan behind that answer
abbrev pub plan_behind : Bool → List Came → List Came
plan_behind waits [] = []
plan_behind waits (Number n ∷ plan) = plan
plan_behind waits (Nothing ∷ plan) = if waits then plan_behind waits plan else plan
plan_behind waits (End ∷ plan) = plan
plan_behind waits (Bad at ∷ plan) = plan
plan_behind waits (Failed ∷ plan) = plan

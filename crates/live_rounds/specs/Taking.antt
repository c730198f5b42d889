-- What is taken from a source.
use Rattle.std.specs.Prelude.{◌≡◌, ℕ, ℤ, ◌≤◌, true, List, [], ◌∷◌, ◌++◌, length, Some}
use Rattle.live_rounds.specs.declared.halt.Halt.TheVariants.{SinkFault, NoMemory, Bad, Failed, TooMany}
use Rattle.live_rounds.specs.declared.taking.Taken.{Taken}
use Rattle.live_rounds.specs.declared.taking.Taken.TheVariants.{Numbers, End, Halted}
use Rattle.live_rounds.specs.Numbers.{Heard, IsCaused}

-- numbers for which the script has room; or the end of the input; or why no number can be taken
abbrev pub TakenSays : Taken → ℕ → List ℤ → Heard → Type 0
TakenSays (Numbers numbers) room before after = (after.came ≡ before ++ numbers.items) × (length numbers.items ≤ room)
TakenSays End room before after = (after.came ≡ before) × (after.ended ≡ true)
TakenSays (Halted SinkFault) room before after = ⊥
TakenSays (Halted NoMemory) room before after = (over : List ℤ) × (after.came ≡ before ++ over)
TakenSays (Halted (Bad at)) room before after = (after.came ≡ before) × IsCaused (Some (Bad at)) after
TakenSays (Halted Failed) room before after = (after.came ≡ before) × IsCaused (Some Failed) after
TakenSays (Halted TooMany) room before after = (room ≡ 0) × (number : ℤ) × (after.came ≡ before ++ number ∷ [])

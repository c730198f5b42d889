-- How many operands an act has.
use Rattle.std.specs.Prelude.{◌≡◌, ℕ, List, Option, Some, option_map, slice_get}
use Rattle.stab_code.specs.Program.{FunctionParts, ProgramParts, arity_of}
use Rattle.step_eval.specs.declared.act.Act.{Act}
use Rattle.step_eval.specs.declared.act.Act.TheVariants.{Spawn, NewRef, Get, Set, Send, Recv, Pick, Enter, Print}
use Rattle.step_eval.specs.Turns.{Takes}

-- one for each argument of a body that is spawned or entered
abbrev pub operand_count : List FunctionParts → Act → Option ℕ
operand_count functions (Spawn f) = option_map arity_of (slice_get functions f.0)
operand_count functions (Enter f) = option_map arity_of (slice_get functions f.0)
operand_count functions NewRef = Some 1
operand_count functions (Get r) = Some 1
operand_count functions (Recv c) = Some 1
operand_count functions Print = Some 1
operand_count functions (Set r) = Some 2
operand_count functions (Send c) = Some 2
operand_count functions (Pick c d) = Some 2
operand_count functions act = Some 0

-- the act of the program has so many operands
abbrev pub HasOperands : ProgramParts → ℕ → Act → Type 0
HasOperands p count (Spawn f) = Takes p f count
HasOperands p count (Enter f) = Takes p f count
HasOperands p count act = operand_count p.functions act ≡ Some count

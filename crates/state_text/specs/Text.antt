-- The lines of the threads that failed.
use Rattle.std.specs.Prelude.{ℕ, List}
use Rattle.std.specs.List.{flat_map}
use Rattle.std.specs.FinMap as map
use Rattle.language.specs.Expression.{Expr}
use Rattle.language.specs.Plain.{PlainState, look_in}
use Rattle.language.specs.Shown.{fault_line}
use Rattle.stab_code.specs.Program.{ProgramParts}

-- the line of a thread that failed, and none of another
abbrev pub fault_line_of : ProgramParts → ℕ × Expr → List ℕ
fault_line_of p t = fault_line t.0 (look_in p t.1)

-- those of all threads, in the order of their numbers
abbrev pub fault_lines : ProgramParts → PlainState → List ℕ
fault_lines p s = flat_map (fault_line_of p) (map.entries s.threads)

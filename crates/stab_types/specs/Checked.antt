-- What the check of a program answers.
use Rattle.std.specs.Prelude.{◌≡◌, nat_lt, Bool, true, false, List, map, length}
use Rattle.std.specs.List.{AllByRecursion}
use Rattle.stab_code.specs.Program.{FunctionParts, ProgramParts}
use Rattle.stab_code.specs.Written.{Written}
use Rattle.type_table.specs.declared.shape.TypeId.{TypeId}
use Rattle.type_table.specs.Table.{type_at, IsLonger}
use Rattle.stab_types.specs.declared.typed.TypeFault.{TypeFault}
use Rattle.stab_types.specs.declared.typed.TypeFault.TheVariants.{Untyped, NoMemory}
use Rattle.stab_types.specs.Typed.{IsBodyTyped, IsFirstUntyped}

-- a program is refused at its first function that isn't typed; want of memory is free
abbrev pub IsFaultOf : ProgramParts → TypeFault → Type 0
IsFaultOf p (Untyped f) = IsFirstUntyped p f
IsFaultOf p NoMemory = Unit {0}

-- the answer is whether the body of the function is typed
abbrev pub IsVerdictOn : ProgramParts → FunctionParts → Bool → Type 0
IsVerdictOn p f true = IsBodyTyped p f
IsVerdictOn p f false = IsBodyTyped p f → ⊥

-- the table has grown, and there the number is the type's
pub record IsNumbered (old new : List Written) (n : TypeId) (w : Written) : Type 0 where
  pub longer : IsLonger old new
  pub below : nat_lt n.0 (length new) ≡ true
  pub is : (all : List Written) → IsLonger new all → type_at all n ≡ w

pub record AreNumbered (old new : List Written) (ns : List TypeId) (ws : List Written) : Type 0 where
  pub longer : IsLonger old new
  pub below : AllByRecursion (λ (n : TypeId). nat_lt n.0 (length new) ≡ true) ns
  pub is : (all : List Written) → IsLonger new all → map (type_at all) ns ≡ ws

use Rattle.std.proofs.Common.{◌≡◌, IfOk, Result, Ok, Err, sym, subst}
use Rattle.std.specs.Prelude.{OnOk}
use Rattle.stab_code.specs.Program.{ProgramParts}
use Rattle.stab_types.specs.declared.typed.TypeFault.{TypeFault}
use Rattle.stab_types.specs.Typed.{IsTyped}
use Rattle.file_commands.proofs.typing.typed_program.Goals as goal

-- a program that equals a typed one is typed
same_typed : (p : ProgramParts) (r : Result ProgramParts TypeFault) → IfOk r (λ typed. typed ≡ p) → OnOk r (IsTyped p) → IfOk r (λ typed. IsTyped typed)
same_typed p (Ok typed) same is = subst IsTyped (sym same) is
same_typed p (Err fault) same is = tt

pub returns-clause-typed : goal.returns-clause-typed
returns-clause-typed c = same_typed _ c.check_types.result c.check_types.ensures.same c.check_types.ensures.typed

-- What a call says of the types of a program that is held.
use Rattle.std.proofs.Common.{◌≡◌, ◌≤◌, ℕ, List, length, Ok, ◌⊎◌, inl, inr, sym, subst, ◌∙◌}
use Rattle.std.specs.Prelude.{IfOk}
use Rattle.scope_check.specs.Scope.{program_scoped}
use Rattle.stab_code.specs.Program.{ProgramParts}
use Rattle.stab_code.specs.Valid.{IsValid}
use Rattle.stab_lex.specs.declared.token.Token.{Token}
use Rattle.stab_lex.specs.Limits.{max_text}
use Rattle.stab_lex.specs.Readings.{Reads}
use Rattle.stab_parse.specs.Faults.{IsParsed}
use Rattle.stab_parse.specs.Grammar.{Program as Syntax}
use Rattle.stab_types.specs.Typed.{IsTyped}
use Rattle.stab_text.specs.Text.{IsTextOf}
use Rattle.stab_words.specs.Asked.{asked}
use Rattle.stab_words.specs.declared.request.Request.TheVariants.{Types}
use Rattle.call_status.specs.declared.role.Role.TheVariants as roles
use Rattle.call_status.specs.declared.status.Status.{Status}
use Rattle.call_status.specs.declared.status.Status.TheVariants.{Done, Held, BadWords, BadText, NoFile, TooBig, FileFault, SinkFault, Spent, NoMemory, BadProbes, BadTrace, BadScript, No, Untyped, NoCut, BadImage}
use Rattle.call_report.specs.Call.{Call, CountedFault, status_of}
use Rattle.stab_top.specs.Call.{Says}
use Rattle.file_commands.specs.Typing.{TypesEnds, TypesSays}
use Rattle.stab_top.specs.Complete.{IsHeld, TypesFound}
use Rattle.stab_top.proofs.Complete.{Failed, program_said, request_said}

types_found : (status : Status) (c : Call) (program : ProgramParts) → TypesEnds status program c.outcome → TypesFound status program ⊎ CountedFault c
types_found Done c program says = inl says.0
types_found Held c program says = elim says [ ]
types_found BadWords c program says = elim says [ ]
types_found BadText c program says = elim says [ ]
types_found NoFile c program says = elim says [ ]
types_found TooBig c program says = elim says [ ]
types_found FileFault c program says = elim says [ ]
types_found SinkFault c program says = inr (inr says.2.1)
types_found Spent c program says = elim says [ ]
types_found NoMemory c program says = inl tt
types_found BadProbes c program says = elim says [ ]
types_found BadTrace c program says = elim says [ ]
types_found BadScript c program says = elim says [ ]
types_found No c program says = elim says [ ]
types_found Untyped c program says = inl (says.0, says.1)
types_found NoCut c program says = elim says [ ]
types_found BadImage c program says = elim says [ ]

failed_found : (c : Call) (program : ProgramParts) → Failed (status_of c) c → TypesFound (status_of c) program ⊎ CountedFault c
failed_found c program (inl none) = inl (subst (λ s. TypesFound s program) (sym none) tt)
failed_found c program (inr counted) = inr counted.1

came : (c : Call) (program : ProgramParts) → Failed (status_of c) c ⊎ TypesEnds (status_of c) program c.outcome → TypesFound (status_of c) program ⊎ CountedFault c
came c program (inl failed) = failed_found c program failed
came c program (inr ends) = types_found (status_of c) c program ends

pub types_told : (words : List (List ℕ)) (c : Call) (file bytes : List ℕ) (program : ProgramParts) → Says words c → asked words ≡ Ok (Types file) → IsHeld roles.Program c file bytes → IsTextOf bytes program →
    TypesFound (status_of c) program ⊎ CountedFault c
types_told words c file bytes program says is held text =
    let types : TypesSays c file = request_said words c (Types file) says is in
    came c program (program_said c file bytes program held text c.files_after (λ p. TypesEnds (status_of c) p c.outcome) types)

failed_done : (c : Call) → status_of c ≡ Done → Failed (status_of c) c → ⊥
failed_done c done (inl none) = let same : Done ≡ NoMemory = sym done ∙ none in cc
failed_done c done (inr counted) = let same : Done ≡ FileFault = sym done ∙ counted.0 in cc

done_typed : (c : Call) (program : ProgramParts) → status_of c ≡ Done → Failed (status_of c) c ⊎ TypesEnds (status_of c) program c.outcome → IsTyped program
done_typed c program done (inl failed) = absurd (failed_done c done failed)
done_typed c program done (inr ends) = (subst (λ s. TypesEnds s program c.outcome) done ends).0

-- a program is typed if the call's status is Done
pub told_typed : (words : List (List ℕ)) (c : Call) (file bytes : List ℕ) (program : ProgramParts) → Says words c → asked words ≡ Ok (Types file) → status_of c ≡ Done → IsHeld roles.Program c file bytes → IsTextOf bytes program →
    IsTyped program
told_typed words c file bytes program says is done held text =
    let types : TypesSays c file = request_said words c (Types file) says is in
    done_typed c program done (program_said c file bytes program held text c.files_after (λ p. TypesEnds (status_of c) p c.outcome) types)

-- each program that a text has can be run
abbrev pub TextsAreValid : Type 0
TextsAreValid = (bytes : List ℕ) (tokens : List Token) (syntax : Syntax) → length bytes ≤ max_text → Reads bytes tokens → IsParsed tokens syntax → IfOk (program_scoped bytes syntax) IsValid

pub text_valid : TextsAreValid → (bytes : List ℕ) (program : ProgramParts) → length bytes ≤ max_text → IsTextOf bytes program → IsValid program
text_valid valid bytes program few text =
    subst (λ r. IfOk r IsValid) text.scoped (valid bytes text.is_syntax.tokens text.syntax few text.is_syntax.reads text.is_syntax.parsed)

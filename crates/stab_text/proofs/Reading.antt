-- A text has one syntax at most, so one program or one fault.
use Rattle.std.proofs.Common.{◌≡◌, ℕ, List, ◌⊎◌, inl, inr, refl, ap, subst, ◌∙◌}
use Rattle.std.specs.Prelude.{Result, Ok, Err}
use Rattle.stab_code.specs.Program.{ProgramParts}
use Rattle.stab_lex.proofs.Unique.{one_reading, one_fault as one_lex_fault, not_both as not_both_lex}
use Rattle.stab_lex.proofs.Total.{reading_or_fault}
use Rattle.stab_parse.specs.declared.fault.ParseFault.{ParseFault}
use Rattle.stab_parse.specs.Faults.{HasFault as ParseHasFault}
use Rattle.stab_parse.specs.Grammar.{Program, IsProgram}
use Rattle.stab_parse.proofs.Reading.{one_program as one_syntax}
use Rattle.stab_parse.proofs.Verdicts.{one_fault as one_parse_fault, not_both as not_both_parse, program_or_fault as syntax_or_fault}
use Rattle.scope_check.specs.declared.fault.ScopeFault.{ScopeFault}
use Rattle.scope_check.specs.Scope.{program_scoped}
use Rattle.stab_text.specs.declared.fault.TextFault.{TextFault}
use Rattle.stab_text.specs.declared.fault.TextFault.TheVariants.{Lex, Parse, Scope}
use Rattle.stab_text.specs.Text.{HasFault, HasParseFault, IsSyntaxOf, IsTextOf}

same_ok : (p q : ProgramParts) (r : Result ProgramParts ScopeFault) → r ≡ Ok p → r ≡ Ok q → p ≡ q
same_ok p q r a b = cc

same_err : (f g : ScopeFault) (r : Result ProgramParts ScopeFault) → r ≡ Err f → r ≡ Err g → f ≡ g
same_err f g r a b = cc

ok_or_err : (p : ProgramParts) (f : ScopeFault) (r : Result ProgramParts ScopeFault) → r ≡ Ok p → r ≡ Err f → ⊥
ok_or_err p f r a b = absurd cc

same_syntax : (bytes : List ℕ) (s t : Program) → IsSyntaxOf bytes s → IsSyntaxOf bytes t → s ≡ t
same_syntax bytes s t a b =
    let e : b.tokens ≡ a.tokens = one_reading bytes b.tokens a.tokens b.reads a.reads in
    one_syntax a.tokens s t a.parsed.is_program.written (subst (λ tokens. IsProgram tokens t) e b.parsed.is_program.written)

pub one_program : (bytes : List ℕ) (program other : ProgramParts) → IsTextOf bytes program → IsTextOf bytes other → program ≡ other
one_program bytes program other a b =
    same_ok program other (program_scoped bytes a.syntax) a.scoped (ap (program_scoped bytes) (same_syntax bytes a.syntax b.syntax a.is_syntax b.is_syntax) ∙ b.scoped)

-- tokens that are a syntax have no fault
parsed_fault : (bytes : List ℕ) (s : Program) (fault : ParseFault) → IsSyntaxOf bytes s → HasParseFault bytes fault → ⊥
parsed_fault bytes s fault a h =
    let e : h.tokens ≡ a.tokens = one_reading bytes h.tokens a.tokens h.reads a.reads in
    not_both_parse a.tokens s fault a.parsed (subst (λ tokens. ParseHasFault tokens fault) e h.has)

pub not_both : (bytes : List ℕ) (program : ProgramParts) (fault : TextFault) → IsTextOf bytes program → HasFault bytes fault → ⊥
not_both bytes program (Lex f) a h = not_both_lex bytes a.is_syntax.tokens f a.is_syntax.reads h
not_both bytes program (Parse f) a h = parsed_fault bytes a.syntax f a.is_syntax h
not_both bytes program (Scope f) a h =
    ok_or_err program f (program_scoped bytes a.syntax) a.scoped (ap (program_scoped bytes) (same_syntax bytes a.syntax h.syntax a.is_syntax h.is_syntax) ∙ h.scoped)

pub one_fault : (bytes : List ℕ) (fault other : TextFault) → HasFault bytes fault → HasFault bytes other → fault ≡ other
one_fault bytes (Lex f) (Lex g) h k = ap Lex (one_lex_fault bytes f g h k)
one_fault bytes (Lex f) (Parse g) h k = absurd (not_both_lex bytes k.tokens f k.reads h)
one_fault bytes (Lex f) (Scope g) h k = absurd (not_both_lex bytes k.is_syntax.tokens f k.is_syntax.reads h)
one_fault bytes (Parse f) (Lex g) h k = absurd (not_both_lex bytes h.tokens g h.reads k)
one_fault bytes (Parse f) (Parse g) h k =
    let e : k.tokens ≡ h.tokens = one_reading bytes k.tokens h.tokens k.reads h.reads in
    ap Parse (one_parse_fault h.tokens f g h.has (subst (λ tokens. ParseHasFault tokens g) e k.has))
one_fault bytes (Parse f) (Scope g) h k = absurd (parsed_fault bytes k.syntax f k.is_syntax h)
one_fault bytes (Scope f) (Lex g) h k = absurd (not_both_lex bytes h.is_syntax.tokens g h.is_syntax.reads k)
one_fault bytes (Scope f) (Parse g) h k = absurd (parsed_fault bytes h.syntax g h.is_syntax k)
one_fault bytes (Scope f) (Scope g) h k =
    ap Scope (same_err f g (program_scoped bytes h.syntax) h.scoped (ap (program_scoped bytes) (same_syntax bytes h.syntax k.syntax h.is_syntax k.is_syntax) ∙ k.scoped))

abbrev Decided : List ℕ → Type 0
Decided bytes = ((program : ProgramParts) × IsTextOf bytes program) ⊎ ((fault : TextFault) × HasFault bytes fault)

scoped_case : (bytes : List ℕ) (s : Program) → IsSyntaxOf bytes s → (r : Result ProgramParts ScopeFault) → program_scoped bytes s ≡ r → Decided bytes
scoped_case bytes s is (Ok program) e = inl (program, record { syntax = s; is_syntax = is; scoped = e })
scoped_case bytes s is (Err fault) e = inr (Scope fault, record { syntax = s; is_syntax = is; scoped = e })

pub program_or_fault : (bytes : List ℕ) → Decided bytes
program_or_fault bytes =
    elim (reading_or_fault bytes) [
      | inl read ↦ elim (syntax_or_fault read.0) [
        | inl parsed ↦ scoped_case bytes parsed.0 (record { tokens = read.0; reads = read.1; parsed = parsed.1 }) (program_scoped bytes parsed.0) refl
        | inr fault ↦ inr (Parse fault.0, record { tokens = read.0; reads = read.1; has = fault.1 })
      ]
      | inr fault ↦ inr (Lex fault.0, fault.1)
    ]

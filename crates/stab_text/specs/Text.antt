-- Which bytes are the text of a program, and which fault others have.
use Rattle.std.specs.Prelude.{◌≡◌, ℕ, List, Ok, Err}
use Rattle.stab_code.specs.Program.{ProgramParts}
use Rattle.stab_lex.specs.declared.token.LexFault.TheVariants as lex
use Rattle.stab_lex.specs.declared.token.Token.{Token}
use Rattle.stab_lex.specs.Readings.{Reads, HasFault as LexHasFault}
use Rattle.stab_parse.specs.declared.fault.ParseFault.{ParseFault}
use Rattle.stab_parse.specs.declared.fault.ParseFault.TheVariants as parse
use Rattle.stab_parse.specs.Faults.{IsParsed, HasFault as ParseHasFault}
use Rattle.stab_parse.specs.Grammar.{Program}
use Rattle.scope_check.specs.declared.fault.ScopeFault.{ScopeFault}
use Rattle.scope_check.specs.declared.fault.ScopeFault.TheVariants as scope
use Rattle.scope_check.specs.Scope.{program_scoped}
use Rattle.stab_text.specs.declared.fault.TextFault.{TextFault}
use Rattle.stab_text.specs.declared.fault.TextFault.TheVariants.{Lex, Parse, Scope}

-- the bytes are read as tokens that are the syntax
pub record IsSyntaxOf (bytes : List ℕ) (syntax : Program) : Type 0 where
  pub tokens : List Token
  pub reads : Reads bytes tokens
  pub parsed : IsParsed tokens syntax

-- the bytes are the text of the program
pub record IsTextOf (bytes : List ℕ) (program : ProgramParts) : Type 0 where
  pub syntax : Program
  pub is_syntax : IsSyntaxOf bytes syntax
  pub scoped : program_scoped bytes syntax ≡ Ok program

-- the bytes are read as tokens that are no program
pub record HasParseFault (bytes : List ℕ) (fault : ParseFault) : Type 0 where
  pub tokens : List Token
  pub reads : Reads bytes tokens
  pub has : ParseHasFault tokens fault

-- the bytes are a syntax in which names don't fit
pub record HasScopeFault (bytes : List ℕ) (fault : ScopeFault) : Type 0 where
  pub syntax : Program
  pub is_syntax : IsSyntaxOf bytes syntax
  pub scoped : program_scoped bytes syntax ≡ Err fault

-- the first fault of bytes that are no text of a program
abbrev pub HasFault : List ℕ → TextFault → Type 0
HasFault bytes (Lex fault) = LexHasFault bytes fault
HasFault bytes (Parse fault) = HasParseFault bytes fault
HasFault bytes (Scope fault) = HasScopeFault bytes fault

-- there was no memory
abbrev pub IsNoMemory : TextFault → Type 0
IsNoMemory (Lex fault) = fault ≡ lex.NoMemory
IsNoMemory (Parse fault) = fault ≡ parse.NoMemory
IsNoMemory (Scope fault) = fault ≡ scope.NoMemory

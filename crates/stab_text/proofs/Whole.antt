-- From the tokens, the syntax and the names of a text to its program or its fault.
use Rattle.std.proofs.Common.{◌≡◌, ◌≤◌, ◌⊎◌, inl, inr, ℕ, List, length, subst}
use Rattle.std.specs.Prelude.{Ok, Err}
use Rattle.stab_code.specs.Program.{ProgramParts}
use Rattle.stab_lex.specs.declared.token.Token.{Token}
use Rattle.stab_lex.specs.Limits.{max_text}
use Rattle.stab_lex.specs.Readings.{Reads}
use Rattle.stab_parse.specs.declared.tree.Tree.{Tree}
use Rattle.stab_parse.specs.Faults.{IsParsed}
use Rattle.stab_parse.specs.FormList.{IsTreeOf}
use Rattle.stab_parse.specs.Grammar.{Program}
use Rattle.scope_check.specs.declared.fault.ScopeFault.{ScopeFault}
use Rattle.scope_check.specs.declared.fault.ScopeFault.TheVariants.{NoMemory}
use Rattle.scope_check.specs.Reading.{IsReadFrom}
use Rattle.scope_check.specs.Scope.{program_scoped}
use Rattle.stab_text.specs.declared.fault.TextFault.TheVariants.{Scope}
use Rattle.stab_text.specs.Text.{HasFault, IsNoMemory, IsTextOf}

-- the tree of the tokens of the bytes was read from the bytes
pub read_from : (bytes : List ℕ) (tokens seen : List Token) (tree : Tree) → length bytes ≤ max_text → Reads bytes tokens → seen ≡ tokens → (p : Program) × IsParsed seen p × IsTreeOf tree p → IsReadFrom bytes tree
read_from bytes tokens seen tree small reads same parsed =
    record { small = small; tokens = tokens; syntax = parsed.0; reads = reads; parsed = subst (λ ts. IsParsed ts parsed.0) same parsed.1; is_tree = parsed.2 }

pub is_text_of : (bytes : List ℕ) (tree : Tree) (program : ProgramParts) (read : IsReadFrom bytes tree) → program_scoped bytes read.syntax ≡ Ok program → IsTextOf bytes program
is_text_of bytes tree program read scoped =
    record { syntax = read.syntax; is_syntax = record { tokens = read.tokens; reads = read.reads; parsed = read.parsed }; scoped = scoped }

pub has_scope_fault : (bytes : List ℕ) (tree : Tree) (fault : ScopeFault) (read : IsReadFrom bytes tree) → (fault ≡ NoMemory) ⊎ (program_scoped bytes read.syntax ≡ Err fault) →
    IsNoMemory (Scope fault) ⊎ HasFault bytes (Scope fault)
has_scope_fault bytes tree fault read (inl none) = inl none
has_scope_fault bytes tree fault read (inr scoped) =
    inr (record { syntax = read.syntax; is_syntax = record { tokens = read.tokens; reads = read.reads; parsed = read.parsed }; scoped = scoped })

-- The names of faults of texts, and what they tell of the place.
use Rattle.std.specs.Prelude.{ℕ, List, Option, Some, None, codes}
use Rattle.stab_lex.specs.declared.token.LexFault.{LexFault}
use Rattle.stab_lex.specs.declared.token.LexFault.TheVariants as lex
use Rattle.stab_parse.specs.declared.fault.ParseFault.{ParseFault}
use Rattle.stab_parse.specs.declared.fault.ParseFault.TheVariants as parse
use Rattle.scope_check.specs.declared.fault.ScopeFault.{ScopeFault}
use Rattle.scope_check.specs.declared.fault.ScopeFault.TheVariants as scope
use Rattle.stab_text.specs.declared.fault.TextFault.{TextFault}
use Rattle.stab_text.specs.declared.fault.TextFault.TheVariants.{Lex, Parse, Scope}

abbrev pub lex_name : LexFault → List ℕ
lex_name (lex.NotUtf8 at) = codes "NotUtf8"
lex_name (lex.BadChar at) = codes "BadChar"
lex_name (lex.BigNumber at) = codes "BigNumber"
lex_name (lex.OpenText at) = codes "OpenText"
lex_name lex.NoMemory = codes "NoMemory"

abbrev pub parse_name : ParseFault → List ℕ
parse_name (parse.Unexpected at) = codes "Unexpected"
parse_name parse.EarlyEnd = codes "EarlyEnd"
parse_name (parse.TooNested at) = codes "TooNested"
parse_name parse.NoMemory = codes "NoMemory"

abbrev pub scope_name : ScopeFault → List ℕ
scope_name scope.NoMain = codes "NoMain"
scope_name scope.MainTakes = codes "MainTakes"
scope_name (scope.Twice at len) = codes "Twice"
scope_name (scope.Unknown at len) = codes "Unknown"
scope_name (scope.Arity at) = codes "Arity"
scope_name (scope.TooMany at) = codes "TooMany"
scope_name scope.NoMemory = codes "NoMemory"

-- the name of a fault
abbrev pub fault_name : TextFault → List ℕ
fault_name (Lex fault) = lex_name fault
fault_name (Parse fault) = parse_name fault
fault_name (Scope fault) = scope_name fault

abbrev pub lex_place : LexFault → Option ℕ
lex_place (lex.NotUtf8 at) = Some at
lex_place (lex.BadChar at) = Some at
lex_place (lex.BigNumber at) = Some at
lex_place (lex.OpenText at) = Some at
lex_place lex.NoMemory = None

abbrev pub parse_place : ParseFault → Option ℕ
parse_place (parse.Unexpected at) = Some at
parse_place (parse.TooNested at) = Some at
parse_place _ = None

abbrev pub scope_place : ScopeFault → Option ℕ
scope_place (scope.Twice at len) = Some at
scope_place (scope.Unknown at len) = Some at
scope_place (scope.Arity at) = Some at
scope_place (scope.TooMany at) = Some at
scope_place _ = None

-- the byte that a fault is about, if it is about one
abbrev pub fault_place : TextFault → Option ℕ
fault_place (Lex fault) = lex_place fault
fault_place (Parse fault) = parse_place fault
fault_place (Scope fault) = scope_place fault

-- the length of the name that a fault is about, if it tells one
abbrev pub fault_length : TextFault → Option ℕ
fault_length (Scope (scope.Twice at len)) = Some len
fault_length (Scope (scope.Unknown at len)) = Some len
fault_length _ = None

-- Which names are reserved, and which marks there are.
use Rattle.std.specs.Prelude.{ℕ, List, [], ◌∷◌, Option, Some, None, codes, unwrap_or, if◌then◌else◌}
use Rattle.std.specs.Str.{bytes_eq}
use Rattle.stab_lex.specs.declared.kind.Kind.{Kind}
use Rattle.stab_lex.specs.declared.kind.Kind.TheVariants.{Name, KeywordFn, KeywordLet, KeywordIf, KeywordElse, KeywordTrue, KeywordFalse, KeywordUnit, KeywordBool, KeywordInt, KeywordText, KeywordChan, KeywordRef, KeywordGet, KeywordSet, KeywordSend, KeywordRecv, KeywordPick, KeywordSpawn, KeywordStable, KeywordStabilize, KeywordCut, KeywordPrint, KeywordProbe, KeywordFst, KeywordSnd, KeywordPin, KeywordAttempt, EqualEqual, NotEqual, LessEqual, GreaterEqual, AndAnd, OrOr, OpenParen, CloseParen, OpenBrace, CloseBrace, OpenBracket, CloseBracket, Comma, Semicolon, Colon, Equal, Plus, Minus, Star, Slash, Percent, LessThan, GreaterThan, Not}

-- the kind that a table has for a spelling
abbrev pub kind_in : List (List ℕ × Kind) → List ℕ → Option Kind
kind_in [] spelling = None
kind_in (row ∷ rows) spelling = if bytes_eq row.0 spelling then Some row.1 else kind_in rows spelling

-- the reserved names
abbrev pub reserved_names : List (List ℕ × Kind)
reserved_names =
    (codes "fn", KeywordFn) ∷ (codes "let", KeywordLet) ∷ (codes "if", KeywordIf) ∷ (codes "else", KeywordElse)
    ∷ (codes "true", KeywordTrue) ∷ (codes "false", KeywordFalse) ∷ (codes "unit", KeywordUnit) ∷ (codes "bool", KeywordBool)
    ∷ (codes "int", KeywordInt) ∷ (codes "text", KeywordText) ∷ (codes "chan", KeywordChan) ∷ (codes "ref", KeywordRef)
    ∷ (codes "get", KeywordGet) ∷ (codes "set", KeywordSet) ∷ (codes "send", KeywordSend) ∷ (codes "recv", KeywordRecv)
    ∷ (codes "pick", KeywordPick) ∷ (codes "spawn", KeywordSpawn) ∷ (codes "stable", KeywordStable)
    ∷ (codes "stabilize", KeywordStabilize) ∷ (codes "cut", KeywordCut) ∷ (codes "print", KeywordPrint)
    ∷ (codes "probe", KeywordProbe) ∷ (codes "fst", KeywordFst) ∷ (codes "snd", KeywordSnd) ∷ (codes "pin", KeywordPin)
    ∷ (codes "attempt", KeywordAttempt) ∷ []

-- the kind of a name, from its bytes
abbrev pub name_kind : List ℕ → Kind
name_kind name = unwrap_or (kind_in reserved_names name) Name

-- the marks
abbrev pub marks : List (List ℕ × Kind)
marks =
    (codes "==", EqualEqual) ∷ (codes "!=", NotEqual) ∷ (codes "<=", LessEqual) ∷ (codes ">=", GreaterEqual)
    ∷ (codes "&&", AndAnd) ∷ (codes "||", OrOr) ∷ (codes "(", OpenParen) ∷ (codes ")", CloseParen)
    ∷ (codes "{", OpenBrace) ∷ (codes "}", CloseBrace) ∷ (codes "[", OpenBracket) ∷ (codes "]", CloseBracket)
    ∷ (codes ",", Comma) ∷ (codes ";", Semicolon) ∷ (codes ":", Colon) ∷ (codes "=", Equal) ∷ (codes "+", Plus)
    ∷ (codes "-", Minus) ∷ (codes "*", Star) ∷ (codes "/", Slash) ∷ (codes "%", Percent) ∷ (codes "<", LessThan)
    ∷ (codes ">", GreaterThan) ∷ (codes "!", Not) ∷ []

-- the kind of a mark, from its characters
abbrev pub mark_kind : List ℕ → Option Kind
mark_kind mark = kind_in marks mark

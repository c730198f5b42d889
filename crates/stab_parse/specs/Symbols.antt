-- What the grammar sees of a token: its symbol, and where it stands.
use Rattle.std.specs.Prelude.{◌^◌, ◌<◌, true, false, nat_lt, if◌then◌else◌}
use Rattle.stab_code.specs.declared.head.Op.TheVariants.{Eq, Ne, Lt, Le, Gt, Ge, Mul, Div, Rem}
use Rattle.stab_lex.specs.declared.kind.Kind.{Kind}
use Rattle.stab_lex.specs.declared.kind.Kind.TheVariants as kind
use Rattle.stab_lex.specs.declared.token.Token.{Token}
use Rattle.stab_parse.specs.declared.symbol.ActWord.TheVariants.{Ref, Get, Recv, Print, Fst, Snd, Set, Send, Pick, Stabilize, Cut, Probe, Pin, Attempt}
use Rattle.stab_parse.specs.declared.symbol.BasicType.TheVariants as basic
use Rattle.stab_parse.specs.declared.symbol.CallWord.TheVariants.{Spawn, Stable}
use Rattle.stab_parse.specs.declared.symbol.Span.{Span}
use Rattle.stab_parse.specs.declared.symbol.Symbol.{Symbol}
use Rattle.stab_parse.specs.declared.symbol.Symbol.TheVariants.{Name, Number, Greatest, Text, Truth, WordFn, WordLet, WordIf, WordElse, WordChan, Basic, Call, ActAlone, ActOne, ActTwo, OrOr, AndAnd, Relation, Plus, Minus, Product, Not, OpenParen, CloseParen, OpenBrace, CloseBrace, OpenBracket, CloseBracket, Comma, Semicolon, Colon, Equal}

-- the symbol of each kind of token; the number 2 ^ 63 is one of its own
abbrev pub symbol_of : Kind → Symbol
symbol_of kind.Name = Name
symbol_of (kind.Number value) = if nat_lt value (2 ^ 63) then Number value else Greatest
symbol_of kind.Text = Text
symbol_of kind.KeywordTrue = Truth true
symbol_of kind.KeywordFalse = Truth false
symbol_of kind.KeywordFn = WordFn
symbol_of kind.KeywordLet = WordLet
symbol_of kind.KeywordIf = WordIf
symbol_of kind.KeywordElse = WordElse
symbol_of kind.KeywordChan = WordChan
symbol_of kind.KeywordUnit = Basic basic.Unit
symbol_of kind.KeywordBool = Basic basic.Bool
symbol_of kind.KeywordInt = Basic basic.Int
symbol_of kind.KeywordText = Basic basic.Text
symbol_of kind.KeywordSpawn = Call Spawn
symbol_of kind.KeywordStable = Call Stable
symbol_of kind.KeywordStabilize = ActAlone Stabilize
symbol_of kind.KeywordCut = ActAlone Cut
symbol_of kind.KeywordProbe = ActAlone Probe
symbol_of kind.KeywordPin = ActAlone Pin
symbol_of kind.KeywordAttempt = ActAlone Attempt
symbol_of kind.KeywordRef = ActOne Ref
symbol_of kind.KeywordGet = ActOne Get
symbol_of kind.KeywordRecv = ActOne Recv
symbol_of kind.KeywordPrint = ActOne Print
symbol_of kind.KeywordFst = ActOne Fst
symbol_of kind.KeywordSnd = ActOne Snd
symbol_of kind.KeywordSet = ActTwo Set
symbol_of kind.KeywordSend = ActTwo Send
symbol_of kind.KeywordPick = ActTwo Pick
symbol_of kind.OrOr = OrOr
symbol_of kind.AndAnd = AndAnd
symbol_of kind.EqualEqual = Relation Eq
symbol_of kind.NotEqual = Relation Ne
symbol_of kind.LessThan = Relation Lt
symbol_of kind.LessEqual = Relation Le
symbol_of kind.GreaterThan = Relation Gt
symbol_of kind.GreaterEqual = Relation Ge
symbol_of kind.Plus = Plus
symbol_of kind.Minus = Minus
symbol_of kind.Star = Product Mul
symbol_of kind.Slash = Product Div
symbol_of kind.Percent = Product Rem
symbol_of kind.Not = Not
symbol_of kind.OpenParen = OpenParen
symbol_of kind.CloseParen = CloseParen
symbol_of kind.OpenBrace = OpenBrace
symbol_of kind.CloseBrace = CloseBrace
symbol_of kind.OpenBracket = OpenBracket
symbol_of kind.CloseBracket = CloseBracket
symbol_of kind.Comma = Comma
symbol_of kind.Semicolon = Semicolon
symbol_of kind.Colon = Colon
symbol_of kind.Equal = Equal

abbrev pub span_of : Token → Span
span_of token = record { start = token.start; end = token.end }

-- a symbol, and where it stands
pub record Sign : Type 0 where
  pub symbol : Symbol
  pub span : Span

abbrev pub sign_of : Token → Sign
sign_of token = record { symbol = symbol_of token.kind; span = span_of token }

-- a number that the symbol has fits 64 signed bits
abbrev pub IsSmall : Symbol → Type 0
IsSmall (Number value) = value < 2 ^ 63
IsSmall _ = Unit {0}

-- The text of a word: the name of its form, and then its numbers, each behind a blank.
use Rattle.std.specs.Prelude.{ℕ, List, [], ◌∷◌, Option, Some, None, true, false, codes, decimal}
use Rattle.std.specs.List.{flat_map}
use Rattle.std.specs.Fmt.{signed_decimal}
use Rattle.stab_base.specs.FaultName.{fault_name}
use Rattle.stab_code.specs.declared.head.Op.{Op}
use Rattle.stab_code.specs.declared.head.Op.TheVariants.{Or, And, Eq, Ne, Lt, Le, Gt, Ge, Add, Sub, Mul, Div, Rem}
use Rattle.expression_text.specs.Spelling.{item_word}
use Rattle.expression_text.specs.declared.word.Word.{Word}
use Rattle.expression_text.specs.declared.word.Word.TheVariants.{Unit, Truth, Int, Text, Chan, Ref, Both, Var, Fault, Block, Let, Do, If, Two, Not, Neg, Pair, Fst, Snd, Call, Spawn, Stable, NewChan, NewRef, Get, Set, Send, Recv, Pick, Stabilize, Cut, Pin, Print, Probe, Attempt, Section}

-- the mark of an operator between two operands
abbrev pub mark : Op → List ℕ
mark Or = codes "||"
mark And = codes "&&"
mark Eq = codes "=="
mark Ne = codes "!="
mark Lt = codes "<"
mark Le = codes "<="
mark Gt = codes ">"
mark Ge = codes ">="
mark Add = codes "+"
mark Sub = codes "-"
mark Mul = codes "*"
mark Div = codes "/"
mark Rem = codes "%"

abbrev pub name : Word → List ℕ
name Unit = codes "u"
name (Truth true) = codes "t"
name (Truth false) = codes "f"
name (Int n) = codes "i"
name (Text t) = codes "s"
name (Chan c) = codes "c"
name (Ref r) = codes "r"
name Both = codes "p"
name (Var x) = codes "v"
name (Fault k) = codes "fault"
name (Block n) = codes "b"
name (Let x) = codes "l"
name Do = codes "e"
name If = codes "?"
name (Two op) = mark op
name Not = codes "!"
name Neg = codes "~"
name Pair = codes ","
name Fst = codes "fst"
name Snd = codes "snd"
name (Call f n) = codes "call"
name (Spawn f n) = codes "spawn"
name (Stable f n) = codes "stable"
name NewChan = codes "chan"
name NewRef = codes "ref"
name Get = codes "get"
name Set = codes "set"
name Send = codes "send"
name Recv = codes "recv"
name Pick = codes "pick"
name Stabilize = codes "stabilize"
name Cut = codes "cut"
name Pin = codes "pin"
name (Print) = codes "print"
name Probe = codes "probe"
name Attempt = codes "attempt"
name (Section m) = codes "sect"

-- what follows the name: a function's number and how many arguments it has, any other number, or the name of a fault
abbrev pub numbers : Word → List (List ℕ)
numbers (Int n) = signed_decimal n ∷ []
numbers (Text t) = decimal t.0 ∷ []
numbers (Chan c) = decimal c.0 ∷ []
numbers (Ref r) = decimal r.0 ∷ []
numbers (Var x) = decimal x ∷ []
numbers (Fault k) = fault_name k ∷ []
numbers (Block n) = decimal n ∷ []
numbers (Let x) = decimal x ∷ []
numbers (Call f n) = decimal f.0 ∷ decimal n ∷ []
numbers (Spawn f n) = decimal f.0 ∷ decimal n ∷ []
numbers (Stable f n) = decimal f.0 ∷ decimal n ∷ []
numbers (Section m) = decimal m.0 ∷ []
numbers w = []

-- each of these behind a blank
abbrev pub spaced : List (List ℕ) → List ℕ
spaced texts = flat_map (λ (t : List ℕ). 32 ∷ t) texts

-- each of these words behind a blank
abbrev pub words_text : List Word → List ℕ
words_text ws = flat_map (λ (w : Word). spaced (name w ∷ numbers w)) ws

-- what stands before a part that is an item of a block, or any other part
abbrev pub before : Option (Option ℕ) → List Word
before None = []
before (Some o) = item_word o ∷ []

-- The grammar. Each rule is a type, each way of writing it a constructor, with the spans of the tokens that it writes. A `{ .. }` of a rule
-- is a list that grows at its end, so chains of operators group to the left.
-- The rules are those of docs/language.md, and their order and names differ from it in this: a rule stands before its use, so types and
-- parameters come first, and functions and the program last; `type` is `WrittenType`, since `Type` is a word of antt's own; `unary` is in
-- two, `Unary` and `Other`, and a number stands there and not in `primary`; and calls with `spawn` and `stable` stand beside other calls.
use Rattle.std.specs.Prelude.{◌≡◌, ℕ, suc, Bool, List, [], ◌∷◌, map}
use Rattle.stab_code.specs.declared.head.Op.{Op}
use Rattle.stab_lex.specs.declared.token.Token.{Token}
use Rattle.stab_parse.specs.declared.symbol.ActWord.{ActWord}
use Rattle.stab_parse.specs.declared.symbol.ActWord.TheVariants.{Ref}
use Rattle.stab_parse.specs.declared.symbol.BasicType.{BasicType}
use Rattle.stab_parse.specs.declared.symbol.CallWord.{CallWord}
use Rattle.stab_parse.specs.declared.symbol.Span.{Span}
use Rattle.stab_parse.specs.declared.symbol.Symbol.{Symbol}
use Rattle.stab_parse.specs.declared.symbol.Symbol.TheVariants.{Name, Number, Greatest, Text, Truth, WordFn, WordLet, WordIf, WordElse, WordChan, Basic, Call, ActAlone, ActOne, ActTwo, OrOr, AndAnd, Relation, Plus, Minus, Product, Not, OpenParen, CloseParen, OpenBrace, CloseBrace, OpenBracket, CloseBracket, Comma, Semicolon, Colon, Equal}
use Rattle.stab_parse.specs.Symbols.{Sign, sign_of}

-- type = "unit" | "bool" | "int" | "text" | "chan" "[" type "]" | "ref" "[" type "]" | "(" type "," type ")"
pub data WrittenType : Type 0 where
  basic_type : BasicType → Span → WrittenType
  chan_type : Span → Span → WrittenType → Span → WrittenType
  ref_type : Span → Span → WrittenType → Span → WrittenType
  pair_type : Span → WrittenType → Span → WrittenType → Span → WrittenType

-- param = name ":" type
pub data Param : Type 0 where
  param : Span → Span → WrittenType → Param

-- param { "," param }
pub data ParamList : Type 0 where
  one_param : Param → ParamList
  next_param : ParamList → Span → Param → ParamList

-- [ param { "," param } ]
pub data Params : Type 0 where
  no_params : Params
  some_params : ParamList → Params

-- what a call begins with: name | ( "spawn" | "stable" ) name
pub data Callee : Type 0 where
  called : Span → Callee
  started : CallWord → Span → Span → Callee

mutual
  -- block = "{" { item ";" } [ expr ] "}"
  pub data Block : Type 0 where
    block : Span → Items → Span → Block
    block_with_last : Span → Items → Expr → Span → Block

  -- { item ";" }
  pub data Items : Type 0 where
    no_items : Items
    next_item : Items → Item → Span → Items

  -- item = "let" name "=" expr | expr
  pub data Item : Type 0 where
    let_item : Span → Span → Span → Expr → Item
    form_item : Expr → Item

  -- expr = and { "||" and }
  pub data Expr : Type 0 where
    one_and : And → Expr
    or : Expr → Span → And → Expr

  -- and = cmp { "&&" cmp }
  pub data And : Type 0 where
    one_cmp : Cmp → And
    and : And → Span → Cmp → And

  -- cmp = sum [ ( "==" | "!=" | "<" | "<=" | ">" | ">=" ) sum ]
  pub data Cmp : Type 0 where
    one_sum : Sum → Cmp
    compare : Sum → Op → Span → Sum → Cmp

  -- sum = term { ( "+" | "-" ) term }
  pub data Sum : Type 0 where
    one_term : Term → Sum
    plus : Sum → Span → Term → Sum
    minus : Sum → Span → Term → Sum

  -- term = unary { ( "*" | "/" | "%" ) unary }
  pub data Term : Type 0 where
    one_unary : Unary → Term
    times : Term → Op → Span → Unary → Term

  -- unary = "-" number | "-" unary | "!" unary | primary. A `-` directly before a number is a literal's, so an `Other` is a
  -- unary that doesn't begin with a number.
  pub data Unary : Type 0 where
    number : ℕ → Span → Unary
    other : Other → Unary

  pub data Other : Type 0 where
    literal : Span → ℕ → Span → Other
    least : Span → Span → Other
    negate : Span → Other → Other
    not : Span → Unary → Other
    primary : Primary → Other

  -- primary = number | text | "true" | "false" | name | name "(" [ args ] ")" | "(" ")" | "(" expr ")"
  --         | "(" expr "," expr ")" | block | if | act. A number is a unary above. The calls of the rule act, which have a word before
  -- the name, stand here too.
  pub data Primary : Type 0 where
    text : Span → Primary
    truth : Bool → Span → Primary
    variable : Span → Primary
    call : Callee → Span → Span → Primary
    call_with : Callee → Span → Args → Span → Primary
    unit : Span → Span → Primary
    group : Span → Expr → Span → Primary
    pair : Span → Expr → Span → Expr → Span → Primary
    in_block : Block → Primary
    in_if : If → Primary
    act : Act → Primary

  -- args = expr { "," expr }
  pub data Args : Type 0 where
    one_arg : Expr → Args
    next_arg : Args → Span → Expr → Args

  -- if = "if" expr block [ "else" ( block | if ) ]
  pub data If : Type 0 where
    if_then : Span → Expr → Block → If
    if_else : Span → Expr → Block → Span → Block → If
    if_else_if : Span → Expr → Block → Span → If → If

  -- act = ( "spawn" | "stable" ) name "(" [ args ] ")" | "chan" "[" type "]" "(" ")"
  --     | ( "ref" | "get" | "recv" | "print" | "fst" | "snd" ) "(" expr ")"
  --     | ( "set" | "send" | "pick" ) "(" expr "," expr ")" | ( "stabilize" | "cut" | "probe" | "pin" | "attempt" ) "(" ")"
  pub data Act : Type 0 where
    new_chan : Span → Span → WrittenType → Span → Span → Span → Act
    act_one : ActWord → Span → Span → Expr → Span → Act
    act_two : ActWord → Span → Span → Expr → Span → Expr → Span → Act
    act_alone : ActWord → Span → Span → Span → Act

-- function = "fn" name "(" [ param { "," param } ] ")" ":" type block
pub data Function : Type 0 where
  function : Span → Span → Span → Params → Span → Span → WrittenType → Block → Function

-- program = { function }
pub data Program : Type 0 where
  no_functions : Program
  next_function : Program → Function → Program

-- A token as it is written: one that opens something comes with how much is open with it.
pub data Piece : Type 0 where
  plain : Symbol → Span → Piece
  opener : ℕ → Symbol → Span → Piece

abbrev pub sign_of_piece : Piece → Sign
sign_of_piece (plain k p) = record { symbol = k; span = p }
sign_of_piece (opener n k p) = record { symbol = k; span = p }

-- What is written for each, before further pieces, where n are open round it. Open are the brackets, the prefix operators whose operand is
-- being read with the `-` of a negative literal, and an `if` after an `else` whose form is being read.
abbrev pub spell_type : ℕ → WrittenType → List Piece → List Piece
spell_type n (basic_type b p) rest = plain (Basic b) p ∷ rest
spell_type n (chan_type c o t e) rest = plain WordChan c ∷ opener (suc n) OpenBracket o ∷ spell_type (suc n) t (plain CloseBracket e ∷ rest)
spell_type n (ref_type r o t e) rest = plain (ActOne Ref) r ∷ opener (suc n) OpenBracket o ∷ spell_type (suc n) t (plain CloseBracket e ∷ rest)
spell_type n (pair_type o t m u e) rest =
    opener (suc n) OpenParen o ∷ spell_type (suc n) t (plain Comma m ∷ spell_type (suc n) u (plain CloseParen e ∷ rest))

abbrev pub spell_param : ℕ → Param → List Piece → List Piece
spell_param n (param x c t) rest = plain Name x ∷ plain Colon c ∷ spell_type n t rest

abbrev pub spell_param_list : ℕ → ParamList → List Piece → List Piece
spell_param_list n (one_param x) rest = spell_param n x rest
spell_param_list n (next_param xs m x) rest = spell_param_list n xs (plain Comma m ∷ spell_param n x rest)

abbrev pub spell_params : ℕ → Params → List Piece → List Piece
spell_params n no_params rest = rest
spell_params n (some_params xs) rest = spell_param_list n xs rest

abbrev pub spell_callee : Callee → List Piece → List Piece
spell_callee (called f) rest = plain Name f ∷ rest
spell_callee (started w p f) rest = plain (Call w) p ∷ plain Name f ∷ rest

abbrev mutual
  pub spell_block : ℕ → Block → List Piece → List Piece
  spell_block n (block o is e) rest = opener (suc n) OpenBrace o ∷ spell_items (suc n) is (plain CloseBrace e ∷ rest)
  spell_block n (block_with_last o is x e) rest =
      opener (suc n) OpenBrace o ∷ spell_items (suc n) is (spell_expr (suc n) x (plain CloseBrace e ∷ rest))

  pub spell_items : ℕ → Items → List Piece → List Piece
  spell_items n no_items rest = rest
  spell_items n (next_item is i e) rest = spell_items n is (spell_item n i (plain Semicolon e ∷ rest))

  pub spell_item : ℕ → Item → List Piece → List Piece
  spell_item n (let_item l x q e) rest = plain WordLet l ∷ plain Name x ∷ plain Equal q ∷ spell_expr n e rest
  spell_item n (form_item e) rest = spell_expr n e rest

  pub spell_expr : ℕ → Expr → List Piece → List Piece
  spell_expr n (one_and a) rest = spell_and n a rest
  spell_expr n (or e p a) rest = spell_expr n e (plain OrOr p ∷ spell_and n a rest)

  pub spell_and : ℕ → And → List Piece → List Piece
  spell_and n (one_cmp c) rest = spell_cmp n c rest
  spell_and n (and a p c) rest = spell_and n a (plain AndAnd p ∷ spell_cmp n c rest)

  pub spell_cmp : ℕ → Cmp → List Piece → List Piece
  spell_cmp n (one_sum s) rest = spell_sum n s rest
  spell_cmp n (compare s op p u) rest = spell_sum n s (plain (Relation op) p ∷ spell_sum n u rest)

  pub spell_sum : ℕ → Sum → List Piece → List Piece
  spell_sum n (one_term t) rest = spell_term n t rest
  spell_sum n (plus s p t) rest = spell_sum n s (plain Plus p ∷ spell_term n t rest)
  spell_sum n (minus s p t) rest = spell_sum n s (plain Minus p ∷ spell_term n t rest)

  pub spell_term : ℕ → Term → List Piece → List Piece
  spell_term n (one_unary u) rest = spell_unary n u rest
  spell_term n (times t op p u) rest = spell_term n t (plain (Product op) p ∷ spell_unary n u rest)

  pub spell_unary : ℕ → Unary → List Piece → List Piece
  spell_unary n (number v p) rest = plain (Number v) p ∷ rest
  spell_unary n (other o) rest = spell_other n o rest

  pub spell_other : ℕ → Other → List Piece → List Piece
  spell_other n (literal m v p) rest = opener (suc n) Minus m ∷ plain (Number v) p ∷ rest
  spell_other n (least m p) rest = opener (suc n) Minus m ∷ plain Greatest p ∷ rest
  spell_other n (negate m o) rest = opener (suc n) Minus m ∷ spell_other (suc n) o rest
  spell_other n (not p u) rest = opener (suc n) Not p ∷ spell_unary (suc n) u rest
  spell_other n (primary x) rest = spell_primary n x rest

  pub spell_primary : ℕ → Primary → List Piece → List Piece
  spell_primary n (text p) rest = plain Text p ∷ rest
  spell_primary n (truth b p) rest = plain (Truth b) p ∷ rest
  spell_primary n (variable p) rest = plain Name p ∷ rest
  spell_primary n (call f o e) rest = spell_callee f (opener (suc n) OpenParen o ∷ plain CloseParen e ∷ rest)
  spell_primary n (call_with f o a e) rest = spell_callee f (opener (suc n) OpenParen o ∷ spell_args (suc n) a (plain CloseParen e ∷ rest))
  spell_primary n (unit o e) rest = opener (suc n) OpenParen o ∷ plain CloseParen e ∷ rest
  spell_primary n (group o x e) rest = opener (suc n) OpenParen o ∷ spell_expr (suc n) x (plain CloseParen e ∷ rest)
  spell_primary n (pair o x m y e) rest =
      opener (suc n) OpenParen o ∷ spell_expr (suc n) x (plain Comma m ∷ spell_expr (suc n) y (plain CloseParen e ∷ rest))
  spell_primary n (in_block b) rest = spell_block n b rest
  spell_primary n (in_if f) rest = spell_if n (plain WordIf) f rest
  spell_primary n (act a) rest = spell_act n a rest

  pub spell_args : ℕ → Args → List Piece → List Piece
  spell_args n (one_arg e) rest = spell_expr n e rest
  spell_args n (next_arg a m e) rest = spell_args n a (plain Comma m ∷ spell_expr n e rest)

  -- its first word is written as the caller says
  pub spell_if : ℕ → (Span → Piece) → If → List Piece → List Piece
  spell_if n word (if_then i e b) rest = word i ∷ spell_expr n e (spell_block n b rest)
  spell_if n word (if_else i e b l c) rest = word i ∷ spell_expr n e (spell_block n b (plain WordElse l ∷ spell_block n c rest))
  spell_if n word (if_else_if i e b l f) rest =
      word i ∷ spell_expr n e (spell_block n b (plain WordElse l ∷ spell_if (suc n) (opener (suc n) WordIf) f rest))

  pub spell_act : ℕ → Act → List Piece → List Piece
  spell_act n (new_chan c o t e p q) rest =
      plain WordChan c ∷ opener (suc n) OpenBracket o ∷ spell_type (suc n) t (plain CloseBracket e ∷ opener (suc n) OpenParen p ∷ plain CloseParen q ∷ rest)
  spell_act n (act_one w p o x e) rest = plain (ActOne w) p ∷ opener (suc n) OpenParen o ∷ spell_expr (suc n) x (plain CloseParen e ∷ rest)
  spell_act n (act_two w p o x m y e) rest =
      plain (ActTwo w) p ∷ opener (suc n) OpenParen o ∷ spell_expr (suc n) x (plain Comma m ∷ spell_expr (suc n) y (plain CloseParen e ∷ rest))
  spell_act n (act_alone w p o e) rest = plain (ActAlone w) p ∷ opener (suc n) OpenParen o ∷ plain CloseParen e ∷ rest

abbrev pub spell_function : Function → List Piece → List Piece
spell_function (function f x o ps e c t b) rest =
    plain WordFn f ∷ plain Name x ∷ opener 1 OpenParen o ∷ spell_params 1 ps (plain CloseParen e ∷ plain Colon c ∷ spell_type 0 t (spell_block 0 b rest))

abbrev pub spell_program : Program → List Piece → List Piece
spell_program no_functions rest = rest
spell_program (next_function p f) rest = spell_program p (spell_function f rest)

-- the pieces of a program
abbrev pub pieces_of : Program → List Piece
pieces_of p = spell_program p []

-- The tokens are the program.
abbrev pub IsProgram : List Token → Program → Type 0
IsProgram tokens p = map sign_of tokens ≡ map sign_of_piece (pieces_of p)

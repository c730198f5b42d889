-- The reader of the grammar as a machine: its state is what was read last and what stands round it, and each step takes a token.
use Rattle.std.specs.Prelude.{ℕ, suc, ◌==◌, List, [], ◌∷◌, Option, Some, None, option_and_then, if◌then◌else◌}
use Rattle.stab_code.specs.declared.head.Op.{Op}
use Rattle.stab_parse.specs.declared.symbol.ActWord.{ActWord}
use Rattle.stab_parse.specs.declared.symbol.ActWord.TheVariants.{Ref}
use Rattle.stab_parse.specs.declared.symbol.CallWord.{CallWord}
use Rattle.stab_parse.specs.declared.symbol.Span.{Span}
use Rattle.stab_parse.specs.declared.symbol.Symbol.{Symbol}
use Rattle.stab_parse.specs.declared.symbol.Symbol.TheVariants.{Name, Number, Greatest, Text, Truth, WordFn, WordLet, WordIf, WordElse, WordChan, Basic, Call, ActAlone, ActOne, ActTwo, OrOr, AndAnd, Relation, Plus, Minus, Product, Not, OpenParen, CloseParen, OpenBrace, CloseBrace, OpenBracket, CloseBracket, Comma, Semicolon, Colon, Equal}
use Rattle.stab_parse.specs.Grammar.{WrittenType, basic_type, chan_type, ref_type, pair_type, Param, param, ParamList, one_param, next_param, Params, no_params, some_params, Callee, called, started, Block, block, block_with_last, Items, no_items, next_item, let_item, form_item, Expr, one_and, or, And, one_cmp, and, Cmp, one_sum, compare, Sum, one_term, plus, minus, Term, one_unary, times, Unary, number, other, Other, literal, least, negate, not, primary, Primary, text, truth, variable, call, call_with, unit, group, pair, in_block, in_if, act, Args, one_arg, next_arg, If, if_then, if_else, if_else_if, new_chan, act_one, act_two, act_alone, function, Program, no_functions, next_function, Piece, plain, opener}

-- ---- what stands round a place

-- the functions before, `fn`, the name and the bracket
pub data Opening : Type 0 where
  opening : Program → Span → Span → Span → Opening

pub data RoundParam : Type 0 where
  first_param : Opening → RoundParam
  later_param : Opening → ParamList → Span → RoundParam

mutual
  pub data RoundType : Type 0 where
    of_param : RoundParam → Span → Span → RoundType
    of_result : Opening → Params → Span → Span → RoundType
    in_chan : Span → Span → RoundType → RoundType
    in_ref : Span → Span → RoundType → RoundType
    pair_left : Span → RoundType → RoundType
    pair_right : Span → WrittenType → Span → RoundType → RoundType
    of_chan : Span → Span → RoundOther → RoundType

  -- the bracket, the items so far, and what stands round the block
  pub data RoundItems : Type 0 where
    items_in : Span → Items → RoundBlock → RoundItems

  pub data RoundBlock : Type 0 where
    body : Opening → Params → Span → Span → WrittenType → RoundBlock
    block_primary : RoundOther → RoundBlock
    then_block : Span → Expr → RoundIf → RoundBlock
    else_block : Span → Expr → Block → Span → RoundIf → RoundBlock

  pub data RoundIf : Type 0 where
    if_primary : RoundOther → RoundIf
    after_else : Span → Expr → Block → Span → RoundIf → RoundIf

  pub data RoundExpr : Type 0 where
    group_in : Span → RoundOther → RoundExpr
    second_in : Span → Expr → Span → RoundOther → RoundExpr
    first_arg : Callee → Span → RoundOther → RoundExpr
    later_arg : Callee → Span → Args → Span → RoundOther → RoundExpr
    one_in : ActWord → Span → Span → RoundOther → RoundExpr
    two_left : ActWord → Span → Span → RoundOther → RoundExpr
    two_right : ActWord → Span → Span → Expr → Span → RoundOther → RoundExpr
    let_value : Span → Span → Span → RoundItems → RoundExpr
    item_in : RoundItems → RoundExpr
    condition : Span → RoundIf → RoundExpr

  pub data RoundAnd : Type 0 where
    first_and : RoundExpr → RoundAnd
    after_or : Expr → Span → RoundExpr → RoundAnd

  pub data RoundCmp : Type 0 where
    first_cmp : RoundAnd → RoundCmp
    after_and : And → Span → RoundAnd → RoundCmp

  pub data RoundSum : Type 0 where
    first_sum : RoundCmp → RoundSum
    after_compare : Sum → Op → Span → RoundCmp → RoundSum

  pub data RoundTerm : Type 0 where
    first_term : RoundSum → RoundTerm
    after_plus : Sum → Span → RoundSum → RoundTerm
    after_minus : Sum → Span → RoundSum → RoundTerm

  pub data RoundUnary : Type 0 where
    first_unary : RoundTerm → RoundUnary
    after_times : Term → Op → Span → RoundTerm → RoundUnary
    after_not : Span → RoundOther → RoundUnary

  pub data RoundOther : Type 0 where
    no_sign : RoundUnary → RoundOther
    after_negate : Span → RoundOther → RoundOther

-- ---- how much is open there

abbrev mutual
  pub open_items : RoundItems → ℕ
  open_items (items_in o is c) = suc (open_block c)

  pub open_block : RoundBlock → ℕ
  open_block (body o ps e q t) = 0
  open_block (block_primary c) = open_other c
  open_block (then_block i e c) = open_if c
  open_block (else_block i e b l c) = open_if c

  pub open_if : RoundIf → ℕ
  open_if (if_primary c) = open_other c
  open_if (after_else i e b l c) = suc (open_if c)

  pub open_expr : RoundExpr → ℕ
  open_expr (group_in o c) = suc (open_other c)
  open_expr (second_in o e m c) = suc (open_other c)
  open_expr (first_arg f o c) = suc (open_other c)
  open_expr (later_arg f o a m c) = suc (open_other c)
  open_expr (one_in w p o c) = suc (open_other c)
  open_expr (two_left w p o c) = suc (open_other c)
  open_expr (two_right w p o e m c) = suc (open_other c)
  open_expr (let_value l x q c) = open_items c
  open_expr (item_in c) = open_items c
  open_expr (condition i c) = open_if c

  pub open_and : RoundAnd → ℕ
  open_and (first_and c) = open_expr c
  open_and (after_or e p c) = open_expr c

  pub open_cmp : RoundCmp → ℕ
  open_cmp (first_cmp c) = open_and c
  open_cmp (after_and a p c) = open_and c

  pub open_sum : RoundSum → ℕ
  open_sum (first_sum c) = open_cmp c
  open_sum (after_compare s op p c) = open_cmp c

  pub open_term : RoundTerm → ℕ
  open_term (first_term c) = open_sum c
  open_term (after_plus s p c) = open_sum c
  open_term (after_minus s p c) = open_sum c

  pub open_unary : RoundUnary → ℕ
  open_unary (first_unary c) = open_term c
  open_unary (after_times t op p c) = open_term c
  open_unary (after_not p c) = suc (open_other c)

  pub open_other : RoundOther → ℕ
  open_other (no_sign c) = open_unary c
  open_other (after_negate p c) = suc (open_other c)

abbrev pub open_type : RoundType → ℕ
open_type (of_param c x q) = 1
open_type (of_result o ps e q) = 0
open_type (in_chan c o r) = suc (open_type r)
open_type (in_ref c o r) = suc (open_type r)
open_type (pair_left o r) = suc (open_type r)
open_type (pair_right o t m r) = suc (open_type r)
open_type (of_chan c o r) = suc (open_other r)

-- ---- the states

pub data State : Type 0 where
  between : Program → State
  fn_read : Program → Span → State
  fn_named : Program → Span → Span → State
  params_open : Opening → State
  param_owed : Opening → ParamList → Span → State
  param_named : RoundParam → Span → State
  params_closed : Opening → Params → Span → State
  -- a type is owed; its first word was read; it was read
  owes_type : RoundType → State
  chan_type_read : Span → RoundType → State
  ref_type_read : Span → RoundType → State
  has_type : RoundType → WrittenType → State
  -- a unary is owed
  owes : RoundUnary → State
  signed : Span → RoundOther → State
  opened : Span → RoundOther → State
  named : Span → RoundOther → State
  call_open : Callee → Span → RoundOther → State
  word_read : CallWord → Span → RoundOther → State
  word_named : CallWord → Span → Span → RoundOther → State
  alone_read : ActWord → Span → RoundOther → State
  alone_open : ActWord → Span → Span → RoundOther → State
  one_read : ActWord → Span → RoundOther → State
  two_read : ActWord → Span → RoundOther → State
  chan_read : Span → RoundOther → State
  chan_typed : Span → Span → WrittenType → Span → RoundOther → State
  chan_open : Span → Span → WrittenType → Span → Span → RoundOther → State
  in_items : RoundItems → State
  let_read : Span → RoundItems → State
  let_named : Span → Span → RoundItems → State
  -- a term was read, which may go on
  has : RoundTerm → Term → State
  -- a block behind a condition was read, and then an else
  then_read : Span → Expr → Block → RoundIf → State
  else_read : Span → Expr → Block → Span → RoundIf → State

abbrev pub open_of : State → ℕ
open_of (between ps) = 0
open_of (fn_read ps f) = 0
open_of (fn_named ps f x) = 0
open_of (params_open o) = 1
open_of (param_owed o xs m) = 1
open_of (param_named c x) = 1
open_of (params_closed o ps e) = 0
open_of (owes_type c) = open_type c
open_of (chan_type_read p c) = open_type c
open_of (ref_type_read p c) = open_type c
open_of (has_type c t) = open_type c
open_of (owes c) = open_unary c
open_of (signed p c) = suc (open_other c)
open_of (opened o c) = suc (open_other c)
open_of (named x c) = open_other c
open_of (call_open f o c) = suc (open_other c)
open_of (word_read w p c) = open_other c
open_of (word_named w p x c) = open_other c
open_of (alone_read w p c) = open_other c
open_of (alone_open w p o c) = suc (open_other c)
open_of (one_read w p c) = open_other c
open_of (two_read w p c) = open_other c
open_of (chan_read p c) = open_other c
open_of (chan_typed p o t e c) = open_other c
open_of (chan_open p o t e q c) = suc (open_other c)
open_of (in_items c) = open_items c
open_of (let_read l c) = open_items c
open_of (let_named l x c) = open_items c
open_of (has c t) = open_term c
open_of (then_read i e b c) = open_if c
open_of (else_read i e b l c) = open_if c

-- ---- a form that was read goes to its place

abbrev pub unary_at : RoundExpr → RoundUnary
unary_at c = first_unary (first_term (first_sum (first_cmp (first_and c))))

abbrev mutual
  pub put : RoundUnary → Unary → State
  put (first_unary c) u = has c (one_unary u)
  put (after_times t op p c) u = has c (times t op p u)
  put (after_not p c) u = put_other c (not p u)

  pub put_other : RoundOther → Other → State
  put_other (no_sign c) o = put c (other o)
  put_other (after_negate p c) o = put_other c (negate p o)

abbrev pub put_primary : RoundOther → Primary → State
put_primary c x = put_other c (primary x)

abbrev pub put_if : RoundIf → If → State
put_if (if_primary c) f = put_primary c (in_if f)
put_if (after_else i e b l c) f = put_if c (if_else_if i e b l f)

abbrev pub put_block : RoundBlock → Block → State
put_block (body (opening ps f x o) xs e q t) b = between (next_function ps (function f x o xs e q t b))
put_block (block_primary c) b = put_primary c (in_block b)
put_block (then_block i e c) b = then_read i e b c
put_block (else_block i e b l c) d = put_if c (if_else i e b l d)

-- ---- the form that ends at a place, and what stands round it

abbrev pub sum_with : RoundTerm → Term → Sum
sum_with (first_term c) t = one_term t
sum_with (after_plus s p c) t = plus s p t
sum_with (after_minus s p c) t = minus s p t

abbrev pub round_term : RoundTerm → RoundSum
round_term (first_term c) = c
round_term (after_plus s p c) = c
round_term (after_minus s p c) = c

abbrev pub cmp_with : RoundSum → Sum → Cmp
cmp_with (first_sum c) s = one_sum s
cmp_with (after_compare l op p c) s = compare l op p s

abbrev pub round_sum : RoundSum → RoundCmp
round_sum (first_sum c) = c
round_sum (after_compare l op p c) = c

abbrev pub and_with : RoundCmp → Cmp → And
and_with (first_cmp c) m = one_cmp m
and_with (after_and a p c) m = and a p m

abbrev pub round_cmp : RoundCmp → RoundAnd
round_cmp (first_cmp c) = c
round_cmp (after_and a p c) = c

abbrev pub expr_with : RoundAnd → And → Expr
expr_with (first_and c) a = one_and a
expr_with (after_or e p c) a = or e p a

abbrev pub round_and : RoundAnd → RoundExpr
round_and (first_and c) = c
round_and (after_or e p c) = c

abbrev pub params_with : RoundParam → Param → ParamList
params_with (first_param o) x = one_param x
params_with (later_param o xs m) x = next_param xs m x

abbrev pub opening_of : RoundParam → Opening
opening_of (first_param o) = o
opening_of (later_param o xs m) = o

-- ---- the steps

pub data Move : Type 0 where
  fails : Move
  goes : State → Move
  opens : State → Move

abbrev pub close_paren : RoundExpr → Expr → Span → Move
close_paren (group_in o c) e p = goes (put_primary c (group o e p))
close_paren (second_in o x m c) e p = goes (put_primary c (pair o x m e p))
close_paren (first_arg f o c) e p = goes (put_primary c (call_with f o (one_arg e) p))
close_paren (later_arg f o a m c) e p = goes (put_primary c (call_with f o (next_arg a m e) p))
close_paren (one_in w q o c) e p = goes (put_primary c (act (act_one w q o e p)))
close_paren (two_left w q o c) e p = fails
close_paren (two_right w q o x m c) e p = goes (put_primary c (act (act_two w q o x m e p)))
close_paren (let_value l x q c) e p = fails
close_paren (item_in c) e p = fails
close_paren (condition i c) e p = fails

abbrev pub comma : RoundExpr → Expr → Span → Move
comma (group_in o c) e p = goes (owes (unary_at (second_in o e p c)))
comma (second_in o x m c) e p = fails
comma (first_arg f o c) e p = goes (owes (unary_at (later_arg f o (one_arg e) p c)))
comma (later_arg f o a m c) e p = goes (owes (unary_at (later_arg f o (next_arg a m e) p c)))
comma (one_in w q o c) e p = fails
comma (two_left w q o c) e p = goes (owes (unary_at (two_right w q o e p c)))
comma (two_right w q o x m c) e p = fails
comma (let_value l x q c) e p = fails
comma (item_in c) e p = fails
comma (condition i c) e p = fails

abbrev pub semicolon : RoundExpr → Expr → Span → Move
semicolon (group_in o c) e p = fails
semicolon (second_in o x m c) e p = fails
semicolon (first_arg f o c) e p = fails
semicolon (later_arg f o a m c) e p = fails
semicolon (one_in w q o c) e p = fails
semicolon (two_left w q o c) e p = fails
semicolon (two_right w q o x m c) e p = fails
semicolon (let_value l x q (items_in o is c)) e p = goes (in_items (items_in o (next_item is (let_item l x q e) p) c))
semicolon (item_in (items_in o is c)) e p = goes (in_items (items_in o (next_item is (form_item e) p) c))
semicolon (condition i c) e p = fails

abbrev pub close_brace : RoundExpr → Expr → Span → Move
close_brace (group_in o c) e p = fails
close_brace (second_in o x m c) e p = fails
close_brace (first_arg f o c) e p = fails
close_brace (later_arg f o a m c) e p = fails
close_brace (one_in w q o c) e p = fails
close_brace (two_left w q o c) e p = fails
close_brace (two_right w q o x m c) e p = fails
close_brace (let_value l x q c) e p = fails
close_brace (item_in (items_in o is c)) e p = goes (put_block c (block_with_last o is e p))
close_brace (condition i c) e p = fails

abbrev pub open_brace : RoundExpr → Expr → Span → Move
open_brace (group_in o c) e p = fails
open_brace (second_in o x m c) e p = fails
open_brace (first_arg f o c) e p = fails
open_brace (later_arg f o a m c) e p = fails
open_brace (one_in w q o c) e p = fails
open_brace (two_left w q o c) e p = fails
open_brace (two_right w q o x m c) e p = fails
open_brace (let_value l x q c) e p = fails
open_brace (item_in c) e p = fails
open_brace (condition i c) e p = opens (in_items (items_in p no_items (then_block i e c)))

-- a token behind an expression, and behind what may be a part of one
abbrev pub ends_expr : RoundExpr → Expr → Symbol → Span → Move
ends_expr c e CloseParen p = close_paren c e p
ends_expr c e Comma p = comma c e p
ends_expr c e Semicolon p = semicolon c e p
ends_expr c e CloseBrace p = close_brace c e p
ends_expr c e OpenBrace p = open_brace c e p
ends_expr c e _ p = fails

abbrev pub ends_and : RoundAnd → And → Symbol → Span → Move
ends_and c a OrOr p = goes (owes (first_unary (first_term (first_sum (first_cmp (after_or (expr_with c a) p (round_and c)))))))
ends_and c a k p = ends_expr (round_and c) (expr_with c a) k p

abbrev pub ends_cmp : RoundCmp → Cmp → Symbol → Span → Move
ends_cmp c m AndAnd p = goes (owes (first_unary (first_term (first_sum (after_and (and_with c m) p (round_cmp c))))))
ends_cmp c m k p = ends_and (round_cmp c) (and_with c m) k p

abbrev pub relate : RoundSum → Sum → Op → Span → Move
relate (first_sum c) s op p = goes (owes (first_unary (first_term (after_compare s op p c))))
relate (after_compare l o q c) s op p = fails

abbrev pub ends_sum : RoundSum → Sum → Symbol → Span → Move
ends_sum c s Plus p = goes (owes (first_unary (after_plus s p c)))
ends_sum c s Minus p = goes (owes (first_unary (after_minus s p c)))
ends_sum c s (Relation op) p = relate c s op p
ends_sum c s k p = ends_cmp (round_sum c) (cmp_with c s) k p

abbrev pub ends_term : RoundTerm → Term → Symbol → Span → Move
ends_term c t (Product op) p = goes (owes (after_times t op p c))
ends_term c t k p = ends_sum (round_term c) (sum_with c t) k p

abbrev pub step_done : State → Symbol → Span → Move
step_done (has c t) k p = ends_term c t k p
step_done _ k p = fails

-- a unary begins that doesn't begin with a number
abbrev pub begin_other : RoundOther → Symbol → Span → Move
begin_other c Minus p = opens (signed p c)
begin_other c Not p = opens (owes (after_not p c))
begin_other c Text p = goes (put_primary c (text p))
begin_other c (Truth b) p = goes (put_primary c (truth b p))
begin_other c Name p = goes (named p c)
begin_other c (Call w) p = goes (word_read w p c)
begin_other c OpenParen p = opens (opened p c)
begin_other c OpenBrace p = opens (in_items (items_in p no_items (block_primary c)))
begin_other c WordIf p = goes (owes (unary_at (condition p (if_primary c))))
begin_other c WordChan p = goes (chan_read p c)
begin_other c (ActOne w) p = goes (one_read w p c)
begin_other c (ActTwo w) p = goes (two_read w p c)
begin_other c (ActAlone w) p = goes (alone_read w p c)
begin_other c _ p = fails

abbrev pub step_owes : RoundUnary → Symbol → Span → Move
step_owes c (Number v) p = goes (put c (number v p))
step_owes c k p = begin_other (no_sign c) k p

abbrev pub step_signed : Span → RoundOther → Symbol → Span → Move
step_signed m c (Number v) p = goes (put_other c (literal m v p))
step_signed m c Greatest p = goes (put_other c (least m p))
step_signed m c k p = begin_other (after_negate m c) k p

abbrev pub step_opened : Span → RoundOther → Symbol → Span → Move
step_opened o c CloseParen p = goes (put_primary c (unit o p))
step_opened o c k p = step_owes (unary_at (group_in o c)) k p

abbrev pub step_call_open : Callee → Span → RoundOther → Symbol → Span → Move
step_call_open f o c CloseParen p = goes (put_primary c (call f o p))
step_call_open f o c k p = step_owes (unary_at (first_arg f o c)) k p

abbrev pub end_block : RoundItems → Span → Move
end_block (items_in o is c) p = goes (put_block c (block o is p))

abbrev pub step_items : RoundItems → Symbol → Span → Move
step_items c WordLet p = goes (let_read p c)
step_items c CloseBrace p = end_block c p
step_items c k p = step_owes (unary_at (item_in c)) k p

abbrev pub step_named : Span → RoundOther → Symbol → Span → Move
step_named x c OpenParen p = opens (call_open (called x) p c)
step_named x c k p = step_done (put_primary c (variable x)) k p

abbrev pub step_then : Span → Expr → Block → RoundIf → Symbol → Span → Move
step_then i e b c WordElse p = goes (else_read i e b p c)
step_then i e b c k p = step_done (put_if c (if_then i e b)) k p

abbrev pub step_else : Span → Expr → Block → Span → RoundIf → Symbol → Span → Move
step_else i e b l c OpenBrace p = opens (in_items (items_in p no_items (else_block i e b l c)))
step_else i e b l c WordIf p = opens (owes (unary_at (condition p (after_else i e b l c))))
step_else i e b l c _ p = fails

abbrev pub step_word_read : CallWord → Span → RoundOther → Symbol → Span → Move
step_word_read w q c Name p = goes (word_named w q p c)
step_word_read w q c _ p = fails

abbrev pub step_word_named : CallWord → Span → Span → RoundOther → Symbol → Span → Move
step_word_named w q x c OpenParen p = opens (call_open (started w q x) p c)
step_word_named w q x c _ p = fails

abbrev pub step_alone_read : ActWord → Span → RoundOther → Symbol → Span → Move
step_alone_read w q c OpenParen p = opens (alone_open w q p c)
step_alone_read w q c _ p = fails

abbrev pub step_alone_open : ActWord → Span → Span → RoundOther → Symbol → Span → Move
step_alone_open w q o c CloseParen p = goes (put_primary c (act (act_alone w q o p)))
step_alone_open w q o c _ p = fails

abbrev pub step_one_read : ActWord → Span → RoundOther → Symbol → Span → Move
step_one_read w q c OpenParen p = opens (owes (unary_at (one_in w q p c)))
step_one_read w q c _ p = fails

abbrev pub step_two_read : ActWord → Span → RoundOther → Symbol → Span → Move
step_two_read w q c OpenParen p = opens (owes (unary_at (two_left w q p c)))
step_two_read w q c _ p = fails

abbrev pub step_chan_read : Span → RoundOther → Symbol → Span → Move
step_chan_read q c OpenBracket p = opens (owes_type (of_chan q p c))
step_chan_read q c _ p = fails

abbrev pub step_chan_typed : Span → Span → WrittenType → Span → RoundOther → Symbol → Span → Move
step_chan_typed q o t e c OpenParen p = opens (chan_open q o t e p c)
step_chan_typed q o t e c _ p = fails

abbrev pub step_chan_open : Span → Span → WrittenType → Span → Span → RoundOther → Symbol → Span → Move
step_chan_open q o t e b c CloseParen p = goes (put_primary c (act (new_chan q o t e b p)))
step_chan_open q o t e b c _ p = fails

abbrev pub step_let_read : Span → RoundItems → Symbol → Span → Move
step_let_read l c Name p = goes (let_named l p c)
step_let_read l c _ p = fails

abbrev pub step_let_named : Span → Span → RoundItems → Symbol → Span → Move
step_let_named l x c Equal p = goes (owes (unary_at (let_value l x p c)))
step_let_named l x c _ p = fails

abbrev pub step_owes_type : RoundType → Symbol → Span → Move
step_owes_type c (Basic b) p = goes (has_type c (basic_type b p))
step_owes_type c WordChan p = goes (chan_type_read p c)
step_owes_type c (ActOne Ref) p = goes (ref_type_read p c)
step_owes_type c OpenParen p = opens (owes_type (pair_left p c))
step_owes_type c _ p = fails

abbrev pub step_chan_type_read : Span → RoundType → Symbol → Span → Move
step_chan_type_read q c OpenBracket p = opens (owes_type (in_chan q p c))
step_chan_type_read q c _ p = fails

abbrev pub step_ref_type_read : Span → RoundType → Symbol → Span → Move
step_ref_type_read q c OpenBracket p = opens (owes_type (in_ref q p c))
step_ref_type_read q c _ p = fails

abbrev pub step_has_type : RoundType → WrittenType → Symbol → Span → Move
step_has_type (of_param c x q) t Comma p = goes (param_owed (opening_of c) (params_with c (param x q t)) p)
step_has_type (of_param c x q) t CloseParen p = goes (params_closed (opening_of c) (some_params (params_with c (param x q t))) p)
step_has_type (of_param c x q) t _ p = fails
step_has_type (of_result o ps e q) t OpenBrace p = opens (in_items (items_in p no_items (body o ps e q t)))
step_has_type (of_result o ps e q) t _ p = fails
step_has_type (in_chan w o c) t CloseBracket p = goes (has_type c (chan_type w o t p))
step_has_type (in_chan w o c) t _ p = fails
step_has_type (in_ref w o c) t CloseBracket p = goes (has_type c (ref_type w o t p))
step_has_type (in_ref w o c) t _ p = fails
step_has_type (pair_left o c) t Comma p = goes (owes_type (pair_right o t p c))
step_has_type (pair_left o c) t _ p = fails
step_has_type (pair_right o l m c) t CloseParen p = goes (has_type c (pair_type o l m t p))
step_has_type (pair_right o l m c) t _ p = fails
step_has_type (of_chan w o c) t CloseBracket p = goes (chan_typed w o t p c)
step_has_type (of_chan w o c) t _ p = fails

abbrev pub step_between : Program → Symbol → Span → Move
step_between ps WordFn p = goes (fn_read ps p)
step_between ps _ p = fails

abbrev pub step_fn_read : Program → Span → Symbol → Span → Move
step_fn_read ps f Name p = goes (fn_named ps f p)
step_fn_read ps f _ p = fails

abbrev pub step_fn_named : Program → Span → Span → Symbol → Span → Move
step_fn_named ps f x OpenParen p = opens (params_open (opening ps f x p))
step_fn_named ps f x _ p = fails

abbrev pub step_params_open : Opening → Symbol → Span → Move
step_params_open o CloseParen p = goes (params_closed o no_params p)
step_params_open o Name p = goes (param_named (first_param o) p)
step_params_open o _ p = fails

abbrev pub step_param_owed : Opening → ParamList → Span → Symbol → Span → Move
step_param_owed o xs m Name p = goes (param_named (later_param o xs m) p)
step_param_owed o xs m _ p = fails

abbrev pub step_param_named : RoundParam → Span → Symbol → Span → Move
step_param_named c x Colon p = goes (owes_type (of_param c x p))
step_param_named c x _ p = fails

abbrev pub step_params_closed : Opening → Params → Span → Symbol → Span → Move
step_params_closed o ps e Colon p = goes (owes_type (of_result o ps e p))
step_params_closed o ps e _ p = fails

abbrev pub step : State → Symbol → Span → Move
step (between ps) k p = step_between ps k p
step (fn_read ps f) k p = step_fn_read ps f k p
step (fn_named ps f x) k p = step_fn_named ps f x k p
step (params_open o) k p = step_params_open o k p
step (param_owed o xs m) k p = step_param_owed o xs m k p
step (param_named c x) k p = step_param_named c x k p
step (params_closed o ps e) k p = step_params_closed o ps e k p
step (owes_type c) k p = step_owes_type c k p
step (chan_type_read q c) k p = step_chan_type_read q c k p
step (ref_type_read q c) k p = step_ref_type_read q c k p
step (has_type c t) k p = step_has_type c t k p
step (owes c) k p = step_owes c k p
step (signed m c) k p = step_signed m c k p
step (opened o c) k p = step_opened o c k p
step (named x c) k p = step_named x c k p
step (call_open f o c) k p = step_call_open f o c k p
step (word_read w q c) k p = step_word_read w q c k p
step (word_named w q x c) k p = step_word_named w q x c k p
step (alone_read w q c) k p = step_alone_read w q c k p
step (alone_open w q o c) k p = step_alone_open w q o c k p
step (one_read w q c) k p = step_one_read w q c k p
step (two_read w q c) k p = step_two_read w q c k p
step (chan_read q c) k p = step_chan_read q c k p
step (chan_typed q o t e c) k p = step_chan_typed q o t e c k p
step (chan_open q o t e b c) k p = step_chan_open q o t e b c k p
step (in_items c) k p = step_items c k p
step (let_read l c) k p = step_let_read l c k p
step (let_named l x c) k p = step_let_named l x c k p
step (has c t) k p = ends_term c t k p
step (then_read i e b c) k p = step_then i e b c k p
step (else_read i e b l c) k p = step_else i e b l c k p

-- ---- a run over pieces

abbrev pub follow_plain : Move → Option State
follow_plain fails = None
follow_plain (goes s) = Some s
follow_plain (opens s) = None

abbrev pub follow_opener : ℕ → Move → Option State
follow_opener n fails = None
follow_opener n (goes s) = None
follow_opener n (opens s) = if open_of s == n then Some s else None

abbrev pub follow_by : (Symbol → Span → Move) → Piece → Option State
follow_by b (plain k p) = follow_plain (b k p)
follow_by b (opener n k p) = follow_opener n (b k p)

abbrev pub run : State → List Piece → Option State
run st [] = Some st
run st (x ∷ xs) = option_and_then (λ next. run next xs) (follow_by (step st) x)

-- the first step is another's
abbrev pub run_by : (Symbol → Span → Move) → List Piece → Option State
run_by b [] = None
run_by b (x ∷ xs) = option_and_then (λ next. run next xs) (follow_by b x)

abbrev pub start : State
start = between no_functions

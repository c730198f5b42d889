-- What the machine has read, written out: a step keeps it.
use Rattle.std.proofs.Common.{◌≡◌, suc, List, ◌∷◌, refl, subst, ◌∙◌}
use Rattle.stab_code.specs.declared.head.Op.{Op}
use Rattle.stab_parse.specs.declared.symbol.ActWord.{ActWord}
use Rattle.stab_parse.specs.declared.symbol.ActWord.TheVariants.{Ref}
use Rattle.stab_parse.specs.declared.symbol.CallWord.{CallWord}
use Rattle.stab_parse.specs.declared.symbol.Span.{Span}
use Rattle.stab_parse.specs.declared.symbol.Symbol.{Symbol}
use Rattle.stab_parse.specs.declared.symbol.Symbol.TheVariants.{Name, Number, Greatest, Text, Truth, WordFn, WordLet, WordIf, WordElse, WordChan, Basic, Call, ActAlone, ActOne, ActTwo, OrOr, AndAnd, Relation, Plus, Minus, Product, Not, OpenParen, CloseParen, OpenBrace, CloseBrace, OpenBracket, CloseBracket, Comma, Semicolon, Colon, Equal}
use Rattle.stab_parse.specs.Grammar.{WrittenType, Param, param, ParamList, Params, Callee, Block, block, block_with_last, Expr, And, Cmp, Sum, Term, Unary, number, other, Other, literal, least, negate, not, primary, Primary, text, truth, variable, call, call_with, unit, group, pair, in_block, in_if, act, one_arg, next_arg, If, if_then, if_else, if_else_if, new_chan, act_one, act_two, act_alone, Program, Piece, plain, opener, spell_type, spell_param, spell_param_list, spell_params, spell_callee, spell_block, spell_items, spell_expr, spell_and, spell_cmp, spell_sum, spell_term, spell_unary, spell_other, spell_primary, spell_args, spell_if, spell_program}
use Rattle.stab_parse.proofs.Machine.{Opening, opening, RoundParam, first_param, later_param, RoundType, of_param, of_result, in_chan, in_ref, pair_left, pair_right, of_chan, RoundItems, items_in, RoundBlock, body, block_primary, then_block, else_block, RoundIf, if_primary, after_else, RoundExpr, group_in, second_in, first_arg, later_arg, one_in, two_left, two_right, let_value, item_in, condition, RoundAnd, first_and, after_or, RoundCmp, first_cmp, after_and, RoundSum, first_sum, after_compare, RoundTerm, first_term, after_plus, after_minus, RoundUnary, first_unary, after_times, after_not, RoundOther, no_sign, after_negate, open_block, open_if, open_expr, open_and, open_cmp, open_sum, open_term, open_unary, open_other, open_type, State, between, fn_read, fn_named, params_open, param_owed, param_named, params_closed, owes_type, chan_type_read, ref_type_read, has_type, owes, signed, opened, named, call_open, word_read, word_named, alone_read, alone_open, one_read, two_read, chan_read, chan_typed, chan_open, in_items, let_read, let_named, has, then_read, else_read, open_of, unary_at, put, put_other, put_primary, put_if, put_block, sum_with, round_term, cmp_with, round_sum, and_with, round_cmp, expr_with, round_and, params_with, opening_of, Move, fails, goes, opens, close_paren, comma, semicolon, close_brace, open_brace, ends_expr, ends_and, ends_cmp, ends_sum, ends_term, step_done, begin_other, step_owes, step_signed, step_opened, step_call_open, end_block, step_items, step_named, step_then, step_else, step_word_read, step_word_named, step_alone_read, step_alone_open, step_one_read, step_two_read, step_chan_read, step_chan_typed, step_chan_open, step_let_read, step_let_named, step_owes_type, step_chan_type_read, step_ref_type_read, step_has_type, step_between, step_fn_read, step_fn_named, step_params_open, step_param_owed, step_param_named, step_params_closed, relate, step}

-- ---- what stands before a place

-- how the word of an if is written there
abbrev pub word_of : RoundIf → Span → Piece
word_of (if_primary c) = plain WordIf
word_of (after_else i e b l c) = opener (suc (open_if c)) WordIf

abbrev pub spell_opening : Opening → List Piece → List Piece
spell_opening (opening ps f x o) rest = spell_program ps (plain WordFn f ∷ plain Name x ∷ opener 1 OpenParen o ∷ rest)

abbrev pub spell_round_param : RoundParam → List Piece → List Piece
spell_round_param (first_param o) rest = spell_opening o rest
spell_round_param (later_param o xs m) rest = spell_opening o (spell_param_list 1 xs (plain Comma m ∷ rest))

abbrev mutual
  pub spell_round_items : RoundItems → List Piece → List Piece
  spell_round_items (items_in o is c) rest = spell_round_block c (opener (suc (open_block c)) OpenBrace o ∷ spell_items (suc (open_block c)) is rest)

  pub spell_round_block : RoundBlock → List Piece → List Piece
  spell_round_block (body o ps e q t) rest = spell_opening o (spell_params 1 ps (plain CloseParen e ∷ plain Colon q ∷ spell_type 0 t rest))
  spell_round_block (block_primary c) rest = spell_round_other c rest
  spell_round_block (then_block i e c) rest = spell_round_if c (word_of c i ∷ spell_expr (open_if c) e rest)
  spell_round_block (else_block i e b l c) rest = spell_round_if c (word_of c i ∷ spell_expr (open_if c) e (spell_block (open_if c) b (plain WordElse l ∷ rest)))

  pub spell_round_if : RoundIf → List Piece → List Piece
  spell_round_if (if_primary c) rest = spell_round_other c rest
  spell_round_if (after_else i e b l c) rest = spell_round_if c (word_of c i ∷ spell_expr (open_if c) e (spell_block (open_if c) b (plain WordElse l ∷ rest)))

  pub spell_round_expr : RoundExpr → List Piece → List Piece
  spell_round_expr (group_in o c) rest = spell_round_other c (opener (suc (open_other c)) OpenParen o ∷ rest)
  spell_round_expr (second_in o e m c) rest = spell_round_other c (opener (suc (open_other c)) OpenParen o ∷ spell_expr (suc (open_other c)) e (plain Comma m ∷ rest))
  spell_round_expr (first_arg f o c) rest = spell_round_other c (spell_callee f (opener (suc (open_other c)) OpenParen o ∷ rest))
  spell_round_expr (later_arg f o a m c) rest = spell_round_other c (spell_callee f (opener (suc (open_other c)) OpenParen o ∷ spell_args (suc (open_other c)) a (plain Comma m ∷ rest)))
  spell_round_expr (one_in w p o c) rest = spell_round_other c (plain (ActOne w) p ∷ opener (suc (open_other c)) OpenParen o ∷ rest)
  spell_round_expr (two_left w p o c) rest = spell_round_other c (plain (ActTwo w) p ∷ opener (suc (open_other c)) OpenParen o ∷ rest)
  spell_round_expr (two_right w p o e m c) rest = spell_round_other c (plain (ActTwo w) p ∷ opener (suc (open_other c)) OpenParen o ∷ spell_expr (suc (open_other c)) e (plain Comma m ∷ rest))
  spell_round_expr (let_value l x q c) rest = spell_round_items c (plain WordLet l ∷ plain Name x ∷ plain Equal q ∷ rest)
  spell_round_expr (item_in c) rest = spell_round_items c rest
  spell_round_expr (condition i c) rest = spell_round_if c (word_of c i ∷ rest)

  pub spell_round_and : RoundAnd → List Piece → List Piece
  spell_round_and (first_and c) rest = spell_round_expr c rest
  spell_round_and (after_or e p c) rest = spell_round_expr c (spell_expr (open_expr c) e (plain OrOr p ∷ rest))

  pub spell_round_cmp : RoundCmp → List Piece → List Piece
  spell_round_cmp (first_cmp c) rest = spell_round_and c rest
  spell_round_cmp (after_and a p c) rest = spell_round_and c (spell_and (open_and c) a (plain AndAnd p ∷ rest))

  pub spell_round_sum : RoundSum → List Piece → List Piece
  spell_round_sum (first_sum c) rest = spell_round_cmp c rest
  spell_round_sum (after_compare s op p c) rest = spell_round_cmp c (spell_sum (open_cmp c) s (plain (Relation op) p ∷ rest))

  pub spell_round_term : RoundTerm → List Piece → List Piece
  spell_round_term (first_term c) rest = spell_round_sum c rest
  spell_round_term (after_plus s p c) rest = spell_round_sum c (spell_sum (open_sum c) s (plain Plus p ∷ rest))
  spell_round_term (after_minus s p c) rest = spell_round_sum c (spell_sum (open_sum c) s (plain Minus p ∷ rest))

  pub spell_round_unary : RoundUnary → List Piece → List Piece
  spell_round_unary (first_unary c) rest = spell_round_term c rest
  spell_round_unary (after_times t op p c) rest = spell_round_term c (spell_term (open_term c) t (plain (Product op) p ∷ rest))
  spell_round_unary (after_not p c) rest = spell_round_other c (opener (suc (open_other c)) Not p ∷ rest)

  pub spell_round_other : RoundOther → List Piece → List Piece
  spell_round_other (no_sign c) rest = spell_round_unary c rest
  spell_round_other (after_negate p c) rest = spell_round_other c (opener (suc (open_other c)) Minus p ∷ rest)

abbrev pub spell_round_type : RoundType → List Piece → List Piece
spell_round_type (of_param c x q) rest = spell_round_param c (plain Name x ∷ plain Colon q ∷ rest)
spell_round_type (of_result o ps e q) rest = spell_opening o (spell_params 1 ps (plain CloseParen e ∷ plain Colon q ∷ rest))
spell_round_type (in_chan w o c) rest = spell_round_type c (plain WordChan w ∷ opener (suc (open_type c)) OpenBracket o ∷ rest)
spell_round_type (in_ref w o c) rest = spell_round_type c (plain (ActOne Ref) w ∷ opener (suc (open_type c)) OpenBracket o ∷ rest)
spell_round_type (pair_left o c) rest = spell_round_type c (opener (suc (open_type c)) OpenParen o ∷ rest)
spell_round_type (pair_right o t m c) rest = spell_round_type c (opener (suc (open_type c)) OpenParen o ∷ spell_type (suc (open_type c)) t (plain Comma m ∷ rest))
spell_round_type (of_chan w o c) rest = spell_round_other c (plain WordChan w ∷ opener (suc (open_other c)) OpenBracket o ∷ rest)

-- what was read
abbrev pub spell_state : State → List Piece → List Piece
spell_state (between ps) rest = spell_program ps rest
spell_state (fn_read ps f) rest = spell_program ps (plain WordFn f ∷ rest)
spell_state (fn_named ps f x) rest = spell_program ps (plain WordFn f ∷ plain Name x ∷ rest)
spell_state (params_open o) rest = spell_opening o rest
spell_state (param_owed o xs m) rest = spell_opening o (spell_param_list 1 xs (plain Comma m ∷ rest))
spell_state (param_named c x) rest = spell_round_param c (plain Name x ∷ rest)
spell_state (params_closed o ps e) rest = spell_opening o (spell_params 1 ps (plain CloseParen e ∷ rest))
spell_state (owes_type c) rest = spell_round_type c rest
spell_state (chan_type_read p c) rest = spell_round_type c (plain WordChan p ∷ rest)
spell_state (ref_type_read p c) rest = spell_round_type c (plain (ActOne Ref) p ∷ rest)
spell_state (has_type c t) rest = spell_round_type c (spell_type (open_type c) t rest)
spell_state (owes c) rest = spell_round_unary c rest
spell_state (signed p c) rest = spell_round_other c (opener (suc (open_other c)) Minus p ∷ rest)
spell_state (opened o c) rest = spell_round_other c (opener (suc (open_other c)) OpenParen o ∷ rest)
spell_state (named x c) rest = spell_round_other c (plain Name x ∷ rest)
spell_state (call_open f o c) rest = spell_round_other c (spell_callee f (opener (suc (open_other c)) OpenParen o ∷ rest))
spell_state (word_read w p c) rest = spell_round_other c (plain (Call w) p ∷ rest)
spell_state (word_named w p x c) rest = spell_round_other c (plain (Call w) p ∷ plain Name x ∷ rest)
spell_state (alone_read w p c) rest = spell_round_other c (plain (ActAlone w) p ∷ rest)
spell_state (alone_open w p o c) rest = spell_round_other c (plain (ActAlone w) p ∷ opener (suc (open_other c)) OpenParen o ∷ rest)
spell_state (one_read w p c) rest = spell_round_other c (plain (ActOne w) p ∷ rest)
spell_state (two_read w p c) rest = spell_round_other c (plain (ActTwo w) p ∷ rest)
spell_state (chan_read p c) rest = spell_round_other c (plain WordChan p ∷ rest)
spell_state (chan_typed p o t e c) rest = spell_round_other c (plain WordChan p ∷ opener (suc (open_other c)) OpenBracket o ∷ spell_type (suc (open_other c)) t (plain CloseBracket e ∷ rest))
spell_state (chan_open p o t e q c) rest = spell_round_other c (plain WordChan p ∷ opener (suc (open_other c)) OpenBracket o ∷ spell_type (suc (open_other c)) t (plain CloseBracket e ∷ opener (suc (open_other c)) OpenParen q ∷ rest))
spell_state (in_items c) rest = spell_round_items c rest
spell_state (let_read l c) rest = spell_round_items c (plain WordLet l ∷ rest)
spell_state (let_named l x c) rest = spell_round_items c (plain WordLet l ∷ plain Name x ∷ rest)
spell_state (has c t) rest = spell_round_term c (spell_term (open_term c) t rest)
spell_state (then_read i e b c) rest = spell_round_if c (word_of c i ∷ spell_expr (open_if c) e (spell_block (open_if c) b rest))
spell_state (else_read i e b l c) rest = spell_round_if c (word_of c i ∷ spell_expr (open_if c) e (spell_block (open_if c) b (plain WordElse l ∷ rest)))

-- ---- a form that goes to its place is written there

mutual
  spell_put : (c : RoundUnary) (u : Unary) (rest : List Piece) → spell_round_unary c (spell_unary (open_unary c) u rest) ≡ spell_state (put c u) rest
  spell_put (first_unary c) u rest = refl
  spell_put (after_times t op p c) u rest = refl
  spell_put (after_not p c) u rest = spell_put_other c (not p u) rest

  spell_put_other : (c : RoundOther) (o : Other) (rest : List Piece) → spell_round_other c (spell_other (open_other c) o rest) ≡ spell_state (put_other c o) rest
  spell_put_other (no_sign c) o rest = spell_put c (other o) rest
  spell_put_other (after_negate p c) o rest = spell_put_other c (negate p o) rest

spell_put_primary : (c : RoundOther) (x : Primary) (rest : List Piece) → spell_round_other c (spell_primary (open_other c) x rest) ≡ spell_state (put_primary c x) rest
spell_put_primary c x rest = spell_put_other c (primary x) rest

spell_put_if : (c : RoundIf) (f : If) (rest : List Piece) → spell_round_if c (spell_if (open_if c) (word_of c) f rest) ≡ spell_state (put_if c f) rest
spell_put_if (if_primary c) f rest = spell_put_primary c (in_if f) rest
spell_put_if (after_else i e b l c) f rest = spell_put_if c (if_else_if i e b l f) rest

spell_put_block : (c : RoundBlock) (b : Block) (rest : List Piece) → spell_round_block c (spell_block (open_block c) b rest) ≡ spell_state (put_block c b) rest
spell_put_block (body (opening ps f x o) xs e q t) b rest = refl
spell_put_block (block_primary c) b rest = spell_put_primary c (in_block b) rest
spell_put_block (then_block i e c) b rest = refl
spell_put_block (else_block i e b l c) d rest = spell_put_if c (if_else i e b l d) rest

-- ---- a step keeps it

abbrev Keeps : (List Piece → List Piece) → Symbol → Span → Move → Type 0
Keeps before k p fails = Unit {0}
Keeps before k p (goes next) = (rest : List Piece) → before (plain k p ∷ rest) ≡ spell_state next rest
Keeps before k p (opens next) = (rest : List Piece) → before (opener (open_of next) k p ∷ rest) ≡ spell_state next rest

keeps_from : (before same : List Piece → List Piece) (k : Symbol) (p : Span) (m : Move) → ((rest : List Piece) → before rest ≡ same rest) → Keeps same k p m → Keeps before k p m
keeps_from before same k p fails h g = tt
keeps_from before same k p (goes next) h g = λ rest. h (plain k p ∷ rest) ∙ g rest
keeps_from before same k p (opens next) h g = λ rest. h (opener (open_of next) k p ∷ rest) ∙ g rest

keeps_close_paren : (c : RoundExpr) (e : Expr) (p : Span) → Keeps (λ rest. spell_round_expr c (spell_expr (open_expr c) e rest)) CloseParen p (close_paren c e p)
keeps_close_paren (group_in o c) e p = spell_put_primary c (group o e p)
keeps_close_paren (second_in o x m c) e p = spell_put_primary c (pair o x m e p)
keeps_close_paren (first_arg f o c) e p = spell_put_primary c (call_with f o (one_arg e) p)
keeps_close_paren (later_arg f o a m c) e p = spell_put_primary c (call_with f o (next_arg a m e) p)
keeps_close_paren (one_in w q o c) e p = spell_put_primary c (act (act_one w q o e p))
keeps_close_paren (two_left w q o c) e p = tt
keeps_close_paren (two_right w q o x m c) e p = spell_put_primary c (act (act_two w q o x m e p))
keeps_close_paren (let_value l x q c) e p = tt
keeps_close_paren (item_in c) e p = tt
keeps_close_paren (condition i c) e p = tt

keeps_comma : (c : RoundExpr) (e : Expr) (p : Span) → Keeps (λ rest. spell_round_expr c (spell_expr (open_expr c) e rest)) Comma p (comma c e p)
keeps_comma (group_in o c) e p = λ rest. refl
keeps_comma (second_in o x m c) e p = tt
keeps_comma (first_arg f o c) e p = λ rest. refl
keeps_comma (later_arg f o a m c) e p = λ rest. refl
keeps_comma (one_in w q o c) e p = tt
keeps_comma (two_left w q o c) e p = λ rest. refl
keeps_comma (two_right w q o x m c) e p = tt
keeps_comma (let_value l x q c) e p = tt
keeps_comma (item_in c) e p = tt
keeps_comma (condition i c) e p = tt

keeps_semicolon : (c : RoundExpr) (e : Expr) (p : Span) → Keeps (λ rest. spell_round_expr c (spell_expr (open_expr c) e rest)) Semicolon p (semicolon c e p)
keeps_semicolon (group_in o c) e p = tt
keeps_semicolon (second_in o x m c) e p = tt
keeps_semicolon (first_arg f o c) e p = tt
keeps_semicolon (later_arg f o a m c) e p = tt
keeps_semicolon (one_in w q o c) e p = tt
keeps_semicolon (two_left w q o c) e p = tt
keeps_semicolon (two_right w q o x m c) e p = tt
keeps_semicolon (let_value l x q (items_in o is c)) e p = λ rest. refl
keeps_semicolon (item_in (items_in o is c)) e p = λ rest. refl
keeps_semicolon (condition i c) e p = tt

keeps_close_brace : (c : RoundExpr) (e : Expr) (p : Span) → Keeps (λ rest. spell_round_expr c (spell_expr (open_expr c) e rest)) CloseBrace p (close_brace c e p)
keeps_close_brace (group_in o c) e p = tt
keeps_close_brace (second_in o x m c) e p = tt
keeps_close_brace (first_arg f o c) e p = tt
keeps_close_brace (later_arg f o a m c) e p = tt
keeps_close_brace (one_in w q o c) e p = tt
keeps_close_brace (two_left w q o c) e p = tt
keeps_close_brace (two_right w q o x m c) e p = tt
keeps_close_brace (let_value l x q c) e p = tt
keeps_close_brace (item_in (items_in o is c)) e p = spell_put_block c (block_with_last o is e p)
keeps_close_brace (condition i c) e p = tt

keeps_open_brace : (c : RoundExpr) (e : Expr) (p : Span) → Keeps (λ rest. spell_round_expr c (spell_expr (open_expr c) e rest)) OpenBrace p (open_brace c e p)
keeps_open_brace (group_in o c) e p = tt
keeps_open_brace (second_in o x m c) e p = tt
keeps_open_brace (first_arg f o c) e p = tt
keeps_open_brace (later_arg f o a m c) e p = tt
keeps_open_brace (one_in w q o c) e p = tt
keeps_open_brace (two_left w q o c) e p = tt
keeps_open_brace (two_right w q o x m c) e p = tt
keeps_open_brace (let_value l x q c) e p = tt
keeps_open_brace (item_in c) e p = tt
keeps_open_brace (condition i c) e p = λ rest. refl

keeps_expr : (c : RoundExpr) (e : Expr) (k : Symbol) (p : Span) → Keeps (λ rest. spell_round_expr c (spell_expr (open_expr c) e rest)) k p (ends_expr c e k p)
keeps_expr c e CloseParen p = keeps_close_paren c e p
keeps_expr c e Comma p = keeps_comma c e p
keeps_expr c e Semicolon p = keeps_semicolon c e p
keeps_expr c e CloseBrace p = keeps_close_brace c e p
keeps_expr c e OpenBrace p = keeps_open_brace c e p
keeps_expr c e _ p = tt

spell_and_there : (c : RoundAnd) (a : And) (rest : List Piece) → spell_round_and c (spell_and (open_and c) a rest) ≡ spell_round_expr (round_and c) (spell_expr (open_expr (round_and c)) (expr_with c a) rest)
spell_and_there (first_and c) a rest = refl
spell_and_there (after_or e p c) a rest = refl

keeps_and : (c : RoundAnd) (a : And) (k : Symbol) (p : Span) → Keeps (λ rest. spell_round_and c (spell_and (open_and c) a rest)) k p (ends_and c a k p)
keeps_and c a OrOr p = λ rest. spell_and_there c a (plain OrOr p ∷ rest)
keeps_and c a k p = keeps_from (λ rest. spell_round_and c (spell_and (open_and c) a rest)) (λ rest. spell_round_expr (round_and c) (spell_expr (open_expr (round_and c)) (expr_with c a) rest)) k p (ends_expr (round_and c) (expr_with c a) k p) (spell_and_there c a) (keeps_expr (round_and c) (expr_with c a) k p)

spell_cmp_there : (c : RoundCmp) (m : Cmp) (rest : List Piece) → spell_round_cmp c (spell_cmp (open_cmp c) m rest) ≡ spell_round_and (round_cmp c) (spell_and (open_and (round_cmp c)) (and_with c m) rest)
spell_cmp_there (first_cmp c) m rest = refl
spell_cmp_there (after_and a p c) m rest = refl

keeps_cmp : (c : RoundCmp) (m : Cmp) (k : Symbol) (p : Span) → Keeps (λ rest. spell_round_cmp c (spell_cmp (open_cmp c) m rest)) k p (ends_cmp c m k p)
keeps_cmp c m AndAnd p = λ rest. spell_cmp_there c m (plain AndAnd p ∷ rest)
keeps_cmp c m k p = keeps_from (λ rest. spell_round_cmp c (spell_cmp (open_cmp c) m rest)) (λ rest. spell_round_and (round_cmp c) (spell_and (open_and (round_cmp c)) (and_with c m) rest)) k p (ends_and (round_cmp c) (and_with c m) k p) (spell_cmp_there c m) (keeps_and (round_cmp c) (and_with c m) k p)

spell_sum_there : (c : RoundSum) (s : Sum) (rest : List Piece) → spell_round_sum c (spell_sum (open_sum c) s rest) ≡ spell_round_cmp (round_sum c) (spell_cmp (open_cmp (round_sum c)) (cmp_with c s) rest)
spell_sum_there (first_sum c) s rest = refl
spell_sum_there (after_compare l op p c) s rest = refl

keeps_relate : (c : RoundSum) (s : Sum) (op : Op) (p : Span) → Keeps (λ rest. spell_round_sum c (spell_sum (open_sum c) s rest)) (Relation op) p (relate c s op p)
keeps_relate (first_sum c) s op p = λ rest. refl
keeps_relate (after_compare l o q c) s op p = tt

keeps_sum : (c : RoundSum) (s : Sum) (k : Symbol) (p : Span) → Keeps (λ rest. spell_round_sum c (spell_sum (open_sum c) s rest)) k p (ends_sum c s k p)
keeps_sum c s Plus p = λ rest. refl
keeps_sum c s Minus p = λ rest. refl
keeps_sum c s (Relation op) p = keeps_relate c s op p
keeps_sum c s k p = keeps_from (λ rest. spell_round_sum c (spell_sum (open_sum c) s rest)) (λ rest. spell_round_cmp (round_sum c) (spell_cmp (open_cmp (round_sum c)) (cmp_with c s) rest)) k p (ends_cmp (round_sum c) (cmp_with c s) k p) (spell_sum_there c s) (keeps_cmp (round_sum c) (cmp_with c s) k p)

spell_term_there : (c : RoundTerm) (t : Term) (rest : List Piece) → spell_round_term c (spell_term (open_term c) t rest) ≡ spell_round_sum (round_term c) (spell_sum (open_sum (round_term c)) (sum_with c t) rest)
spell_term_there (first_term c) t rest = refl
spell_term_there (after_plus s p c) t rest = refl
spell_term_there (after_minus s p c) t rest = refl

keeps_term : (c : RoundTerm) (t : Term) (k : Symbol) (p : Span) → Keeps (λ rest. spell_round_term c (spell_term (open_term c) t rest)) k p (ends_term c t k p)
keeps_term c t (Product op) p = λ rest. refl
keeps_term c t k p = keeps_from (λ rest. spell_round_term c (spell_term (open_term c) t rest)) (λ rest. spell_round_sum (round_term c) (spell_sum (open_sum (round_term c)) (sum_with c t) rest)) k p (ends_sum (round_term c) (sum_with c t) k p) (spell_term_there c t) (keeps_sum (round_term c) (sum_with c t) k p)

keeps_done : (st : State) (k : Symbol) (p : Span) → Keeps (spell_state st) k p (step_done st k p)
keeps_done (has c t) k p = keeps_term c t k p
keeps_done _ k p = tt

keeps_other : (c : RoundOther) (k : Symbol) (p : Span) → Keeps (spell_round_other c) k p (begin_other c k p)
keeps_other c Minus p = λ rest. refl
keeps_other c Not p = λ rest. refl
keeps_other c Text p = spell_put_primary c (text p)
keeps_other c (Truth b) p = spell_put_primary c (truth b p)
keeps_other c Name p = λ rest. refl
keeps_other c (Call w) p = λ rest. refl
keeps_other c OpenParen p = λ rest. refl
keeps_other c OpenBrace p = λ rest. refl
keeps_other c WordIf p = λ rest. refl
keeps_other c WordChan p = λ rest. refl
keeps_other c (ActOne w) p = λ rest. refl
keeps_other c (ActTwo w) p = λ rest. refl
keeps_other c (ActAlone w) p = λ rest. refl
keeps_other c _ p = tt

keeps_owes : (c : RoundUnary) (k : Symbol) (p : Span) → Keeps (spell_round_unary c) k p (step_owes c k p)
keeps_owes c (Number v) p = spell_put c (number v p)
keeps_owes c k p = keeps_other (no_sign c) k p

keeps_signed : (m : Span) (c : RoundOther) (k : Symbol) (p : Span) → Keeps (spell_state (signed m c)) k p (step_signed m c k p)
keeps_signed m c (Number v) p = spell_put_other c (literal m v p)
keeps_signed m c Greatest p = spell_put_other c (least m p)
keeps_signed m c k p = keeps_other (after_negate m c) k p

keeps_opened : (o : Span) (c : RoundOther) (k : Symbol) (p : Span) → Keeps (spell_state (opened o c)) k p (step_opened o c k p)
keeps_opened o c CloseParen p = spell_put_primary c (unit o p)
keeps_opened o c k p = keeps_owes (unary_at (group_in o c)) k p

keeps_call_open : (f : Callee) (o : Span) (c : RoundOther) (k : Symbol) (p : Span) → Keeps (spell_state (call_open f o c)) k p (step_call_open f o c k p)
keeps_call_open f o c CloseParen p = spell_put_primary c (call f o p)
keeps_call_open f o c k p = keeps_owes (unary_at (first_arg f o c)) k p

keeps_end_block : (c : RoundItems) (p : Span) → Keeps (spell_round_items c) CloseBrace p (end_block c p)
keeps_end_block (items_in o is c) p = spell_put_block c (block o is p)

keeps_items : (c : RoundItems) (k : Symbol) (p : Span) → Keeps (spell_round_items c) k p (step_items c k p)
keeps_items c WordLet p = λ rest. refl
keeps_items c CloseBrace p = keeps_end_block c p
keeps_items c k p = keeps_owes (unary_at (item_in c)) k p

keeps_named : (x : Span) (c : RoundOther) (k : Symbol) (p : Span) → Keeps (spell_state (named x c)) k p (step_named x c k p)
keeps_named x c OpenParen p = λ rest. refl
keeps_named x c k p = keeps_from (spell_state (named x c)) (spell_state (put_primary c (variable x))) k p (step_done (put_primary c (variable x)) k p) (spell_put_primary c (variable x)) (keeps_done (put_primary c (variable x)) k p)

keeps_then : (i : Span) (e : Expr) (b : Block) (c : RoundIf) (k : Symbol) (p : Span) → Keeps (spell_state (then_read i e b c)) k p (step_then i e b c k p)
keeps_then i e b c WordElse p = λ rest. refl
keeps_then i e b c k p = keeps_from (spell_state (then_read i e b c)) (spell_state (put_if c (if_then i e b))) k p (step_done (put_if c (if_then i e b)) k p) (spell_put_if c (if_then i e b)) (keeps_done (put_if c (if_then i e b)) k p)

keeps_else : (i : Span) (e : Expr) (b : Block) (l : Span) (c : RoundIf) (k : Symbol) (p : Span) → Keeps (spell_state (else_read i e b l c)) k p (step_else i e b l c k p)
keeps_else i e b l c OpenBrace p = λ rest. refl
keeps_else i e b l c WordIf p = λ rest. refl
keeps_else i e b l c _ p = tt

keeps_word_read : (w : CallWord) (q : Span) (c : RoundOther) (k : Symbol) (p : Span) → Keeps (spell_state (word_read w q c)) k p (step_word_read w q c k p)
keeps_word_read w q c Name p = λ rest. refl
keeps_word_read w q c _ p = tt

keeps_word_named : (w : CallWord) (q x : Span) (c : RoundOther) (k : Symbol) (p : Span) → Keeps (spell_state (word_named w q x c)) k p (step_word_named w q x c k p)
keeps_word_named w q x c OpenParen p = λ rest. refl
keeps_word_named w q x c _ p = tt

keeps_alone_read : (w : ActWord) (q : Span) (c : RoundOther) (k : Symbol) (p : Span) → Keeps (spell_state (alone_read w q c)) k p (step_alone_read w q c k p)
keeps_alone_read w q c OpenParen p = λ rest. refl
keeps_alone_read w q c _ p = tt

keeps_alone_open : (w : ActWord) (q o : Span) (c : RoundOther) (k : Symbol) (p : Span) → Keeps (spell_state (alone_open w q o c)) k p (step_alone_open w q o c k p)
keeps_alone_open w q o c CloseParen p = spell_put_primary c (act (act_alone w q o p))
keeps_alone_open w q o c _ p = tt

keeps_one_read : (w : ActWord) (q : Span) (c : RoundOther) (k : Symbol) (p : Span) → Keeps (spell_state (one_read w q c)) k p (step_one_read w q c k p)
keeps_one_read w q c OpenParen p = λ rest. refl
keeps_one_read w q c _ p = tt

keeps_two_read : (w : ActWord) (q : Span) (c : RoundOther) (k : Symbol) (p : Span) → Keeps (spell_state (two_read w q c)) k p (step_two_read w q c k p)
keeps_two_read w q c OpenParen p = λ rest. refl
keeps_two_read w q c _ p = tt

keeps_chan_read : (q : Span) (c : RoundOther) (k : Symbol) (p : Span) → Keeps (spell_state (chan_read q c)) k p (step_chan_read q c k p)
keeps_chan_read q c OpenBracket p = λ rest. refl
keeps_chan_read q c _ p = tt

keeps_chan_typed : (q o : Span) (t : WrittenType) (e : Span) (c : RoundOther) (k : Symbol) (p : Span) → Keeps (spell_state (chan_typed q o t e c)) k p (step_chan_typed q o t e c k p)
keeps_chan_typed q o t e c OpenParen p = λ rest. refl
keeps_chan_typed q o t e c _ p = tt

keeps_chan_open : (q o : Span) (t : WrittenType) (e b : Span) (c : RoundOther) (k : Symbol) (p : Span) → Keeps (spell_state (chan_open q o t e b c)) k p (step_chan_open q o t e b c k p)
keeps_chan_open q o t e b c CloseParen p = spell_put_primary c (act (new_chan q o t e b p))
keeps_chan_open q o t e b c _ p = tt

keeps_let_read : (l : Span) (c : RoundItems) (k : Symbol) (p : Span) → Keeps (spell_state (let_read l c)) k p (step_let_read l c k p)
keeps_let_read l c Name p = λ rest. refl
keeps_let_read l c _ p = tt

keeps_let_named : (l x : Span) (c : RoundItems) (k : Symbol) (p : Span) → Keeps (spell_state (let_named l x c)) k p (step_let_named l x c k p)
keeps_let_named l x c Equal p = λ rest. refl
keeps_let_named l x c _ p = tt

keeps_owes_type : (c : RoundType) (k : Symbol) (p : Span) → Keeps (spell_round_type c) k p (step_owes_type c k p)
keeps_owes_type c (Basic b) p = λ rest. refl
keeps_owes_type c WordChan p = λ rest. refl
keeps_owes_type c (ActOne Ref) p = λ rest. refl
keeps_owes_type c OpenParen p = λ rest. refl
keeps_owes_type c _ p = tt

keeps_chan_type : (q : Span) (c : RoundType) (k : Symbol) (p : Span) → Keeps (spell_state (chan_type_read q c)) k p (step_chan_type_read q c k p)
keeps_chan_type q c OpenBracket p = λ rest. refl
keeps_chan_type q c _ p = tt

keeps_ref_type : (q : Span) (c : RoundType) (k : Symbol) (p : Span) → Keeps (spell_state (ref_type_read q c)) k p (step_ref_type_read q c k p)
keeps_ref_type q c OpenBracket p = λ rest. refl
keeps_ref_type q c _ p = tt

pub spell_params_there : (c : RoundParam) (x : Param) (rest : List Piece) → spell_round_param c (spell_param 1 x rest) ≡ spell_opening (opening_of c) (spell_param_list 1 (params_with c x) rest)
spell_params_there (first_param o) (param x q t) rest = refl
spell_params_there (later_param o xs m) (param x q t) rest = refl

keeps_has_type : (c : RoundType) (t : WrittenType) (k : Symbol) (p : Span) → Keeps (spell_state (has_type c t)) k p (step_has_type c t k p)
keeps_has_type (of_param c x q) t Comma p = λ rest. spell_params_there c (param x q t) (plain Comma p ∷ rest)
keeps_has_type (of_param c x q) t CloseParen p = λ rest. spell_params_there c (param x q t) (plain CloseParen p ∷ rest)
keeps_has_type (of_param c x q) t _ p = tt
keeps_has_type (of_result o ps e q) t OpenBrace p = λ rest. refl
keeps_has_type (of_result o ps e q) t _ p = tt
keeps_has_type (in_chan w o c) t CloseBracket p = λ rest. refl
keeps_has_type (in_chan w o c) t _ p = tt
keeps_has_type (in_ref w o c) t CloseBracket p = λ rest. refl
keeps_has_type (in_ref w o c) t _ p = tt
keeps_has_type (pair_left o c) t Comma p = λ rest. refl
keeps_has_type (pair_left o c) t _ p = tt
keeps_has_type (pair_right o l m c) t CloseParen p = λ rest. refl
keeps_has_type (pair_right o l m c) t _ p = tt
keeps_has_type (of_chan w o c) t CloseBracket p = λ rest. refl
keeps_has_type (of_chan w o c) t _ p = tt

keeps_between : (ps : Program) (k : Symbol) (p : Span) → Keeps (spell_state (between ps)) k p (step_between ps k p)
keeps_between ps WordFn p = λ rest. refl
keeps_between ps _ p = tt

keeps_fn_read : (ps : Program) (f : Span) (k : Symbol) (p : Span) → Keeps (spell_state (fn_read ps f)) k p (step_fn_read ps f k p)
keeps_fn_read ps f Name p = λ rest. refl
keeps_fn_read ps f _ p = tt

keeps_fn_named : (ps : Program) (f x : Span) (k : Symbol) (p : Span) → Keeps (spell_state (fn_named ps f x)) k p (step_fn_named ps f x k p)
keeps_fn_named ps f x OpenParen p = λ rest. refl
keeps_fn_named ps f x _ p = tt

keeps_params_open : (o : Opening) (k : Symbol) (p : Span) → Keeps (spell_opening o) k p (step_params_open o k p)
keeps_params_open o CloseParen p = λ rest. refl
keeps_params_open o Name p = λ rest. refl
keeps_params_open o _ p = tt

keeps_param_owed : (o : Opening) (xs : ParamList) (m : Span) (k : Symbol) (p : Span) → Keeps (spell_state (param_owed o xs m)) k p (step_param_owed o xs m k p)
keeps_param_owed o xs m Name p = λ rest. refl
keeps_param_owed o xs m _ p = tt

keeps_param_named : (c : RoundParam) (x : Span) (k : Symbol) (p : Span) → Keeps (spell_state (param_named c x)) k p (step_param_named c x k p)
keeps_param_named c x Colon p = λ rest. refl
keeps_param_named c x _ p = tt

keeps_params_closed : (o : Opening) (ps : Params) (e : Span) (k : Symbol) (p : Span) → Keeps (spell_state (params_closed o ps e)) k p (step_params_closed o ps e k p)
keeps_params_closed o ps e Colon p = λ rest. refl
keeps_params_closed o ps e _ p = tt

keeps : (st : State) (k : Symbol) (p : Span) → Keeps (spell_state st) k p (step st k p)
keeps (between ps) k p = keeps_between ps k p
keeps (fn_read ps f) k p = keeps_fn_read ps f k p
keeps (fn_named ps f x) k p = keeps_fn_named ps f x k p
keeps (params_open o) k p = keeps_params_open o k p
keeps (param_owed o xs m) k p = keeps_param_owed o xs m k p
keeps (param_named c x) k p = keeps_param_named c x k p
keeps (params_closed o ps e) k p = keeps_params_closed o ps e k p
keeps (owes_type c) k p = keeps_owes_type c k p
keeps (chan_type_read q c) k p = keeps_chan_type q c k p
keeps (ref_type_read q c) k p = keeps_ref_type q c k p
keeps (has_type c t) k p = keeps_has_type c t k p
keeps (owes c) k p = keeps_owes c k p
keeps (signed m c) k p = keeps_signed m c k p
keeps (opened o c) k p = keeps_opened o c k p
keeps (named x c) k p = keeps_named x c k p
keeps (call_open f o c) k p = keeps_call_open f o c k p
keeps (word_read w q c) k p = keeps_word_read w q c k p
keeps (word_named w q x c) k p = keeps_word_named w q x c k p
keeps (alone_read w q c) k p = keeps_alone_read w q c k p
keeps (alone_open w q o c) k p = keeps_alone_open w q o c k p
keeps (one_read w q c) k p = keeps_one_read w q c k p
keeps (two_read w q c) k p = keeps_two_read w q c k p
keeps (chan_read q c) k p = keeps_chan_read q c k p
keeps (chan_typed q o t e c) k p = keeps_chan_typed q o t e c k p
keeps (chan_open q o t e b c) k p = keeps_chan_open q o t e b c k p
keeps (in_items c) k p = keeps_items c k p
keeps (let_read l c) k p = keeps_let_read l c k p
keeps (let_named l x c) k p = keeps_let_named l x c k p
keeps (has c t) k p = keeps_term c t k p
keeps (then_read i e b c) k p = keeps_then i e b c k p
keeps (else_read i e b l c) k p = keeps_else i e b l c k p

pub keeps_goes : (st next : State) (k : Symbol) (p : Span) (rest : List Piece) → step st k p ≡ goes next → spell_state st (plain k p ∷ rest) ≡ spell_state next rest
keeps_goes st next k p rest e = let P : Move → Type 0 = Keeps (spell_state st) k p in subst P e (keeps st k p) rest

pub keeps_opens : (st next : State) (k : Symbol) (p : Span) (rest : List Piece) → step st k p ≡ opens next → spell_state st (opener (open_of next) k p ∷ rest) ≡ spell_state next rest
keeps_opens st next k p rest e = let P : Move → Type 0 = Keeps (spell_state st) k p in subst P e (keeps st k p) rest

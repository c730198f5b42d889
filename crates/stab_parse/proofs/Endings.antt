-- What is owed can be written.
use Rattle.std.proofs.Common.{◌≡◌, ℕ, suc, true, List, [], ◌∷◌, refl, ap, ◌∙◌}
use Rattle.std.specs.Prelude.{map}
use Rattle.stab_lex.specs.declared.kind.Kind.{Kind}
use Rattle.stab_lex.specs.declared.kind.Kind.TheVariants as kind
use Rattle.stab_lex.specs.declared.token.Token.{Token}
use Rattle.stab_parse.specs.declared.symbol.BasicType.TheVariants as basic
use Rattle.stab_parse.specs.Symbols.{symbol_of, sign_of}
use Rattle.stab_parse.specs.declared.symbol.Span.{Span}
use Rattle.stab_parse.specs.declared.symbol.Symbol.TheVariants.{Name, Truth, Basic, OpenParen, CloseParen, OpenBrace, CloseBracket, Comma, Semicolon, Colon}
use Rattle.stab_parse.specs.Grammar.{WrittenType, basic_type, chan_type, ref_type, pair_type, param, ParamList, Params, no_params, some_params, started, Block, block, block_with_last, no_items, next_item, let_item, Expr, one_and, or, And, one_cmp, and, Cmp, one_sum, compare, Sum, one_term, plus, minus, Term, one_unary, times, Unary, other, Other, negate, not, primary, truth, variable, call, call_with, unit, group, pair, in_block, in_if, act, one_arg, next_arg, If, if_then, if_else, if_else_if, new_chan, act_one, act_two, act_alone, function, Program, next_function, Piece, plain, opener, spell_type, spell_param_list, spell_params, spell_block, spell_expr, spell_and, spell_cmp, spell_sum, spell_term, spell_unary, spell_other, spell_if, pieces_of, sign_of_piece}
use Rattle.stab_parse.proofs.Machine.{Opening, opening, RoundParam, later_param, RoundType, of_param, of_result, in_chan, in_ref, pair_left, pair_right, of_chan, RoundItems, items_in, RoundBlock, body, block_primary, then_block, else_block, RoundIf, if_primary, after_else, RoundExpr, group_in, second_in, first_arg, later_arg, one_in, two_left, two_right, let_value, item_in, condition, RoundAnd, first_and, after_or, RoundCmp, first_cmp, after_and, RoundSum, first_sum, after_compare, RoundTerm, first_term, after_plus, after_minus, RoundUnary, first_unary, after_times, after_not, RoundOther, no_sign, after_negate, open_block, open_if, open_expr, open_and, open_cmp, open_sum, open_term, open_unary, open_other, open_type, State, between, fn_read, fn_named, params_open, param_owed, param_named, params_closed, owes_type, chan_type_read, ref_type_read, has_type, owes, signed, opened, named, call_open, word_read, word_named, alone_read, alone_open, one_read, two_read, chan_read, chan_typed, chan_open, in_items, let_read, let_named, has, then_read, else_read, params_with, opening_of}
use Rattle.stab_parse.proofs.Soundness.{spell_opening, spell_round_param, spell_round_items, spell_round_block, spell_round_if, spell_round_expr, spell_round_and, spell_round_cmp, spell_round_sum, spell_round_term, spell_round_unary, spell_round_other, spell_round_type, spell_state, word_of, spell_params_there}

-- Behind what was read, tokens can be written to the end of a program.
pub record CanEnd (before : List Piece → List Piece) : Type 0 where
  pub tokens : List Token
  pub rest : List Piece
  pub program : Program
  pub written : map sign_of tokens ≡ map sign_of_piece rest
  pub whole : before rest ≡ pieces_of program

abbrev z : Span
z = record { start = 0; end = 0 }

abbrev some_token : Kind → Token
some_token k = record { kind = k; start = 0; end = 0 }

add_plain : (before : List Piece → List Piece) (k : Kind) → CanEnd (λ rest. before (plain (symbol_of k) z ∷ rest)) → CanEnd before
add_plain before k w = record {
  tokens = some_token k ∷ w.tokens;
  rest = plain (symbol_of k) z ∷ w.rest;
  program = w.program;
  written = ap (λ signs. sign_of (some_token k) ∷ signs) w.written;
  whole = w.whole;
}

add_opener : (before : List Piece → List Piece) (n : ℕ) (k : Kind) → CanEnd (λ rest. before (opener n (symbol_of k) z ∷ rest)) → CanEnd before
add_opener before n k w = record {
  tokens = some_token k ∷ w.tokens;
  rest = opener n (symbol_of k) z ∷ w.rest;
  program = w.program;
  written = ap (λ signs. sign_of (some_token k) ∷ signs) w.written;
  whole = w.whole;
}

end_from : (before same : List Piece → List Piece) → ((rest : List Piece) → before rest ≡ same rest) → CanEnd same → CanEnd before
end_from before same h w = record { tokens = w.tokens; rest = w.rest; program = w.program; written = w.written; whole = h w.rest ∙ w.whole }

-- the simplest expression, block and type
abbrev some_other : Other
some_other = primary (truth true z)

abbrev some_expr : Expr
some_expr = one_and (one_cmp (one_sum (one_term (one_unary (other some_other)))))

abbrev some_block : Block
some_block = block z no_items z

abbrev some_type : WrittenType
some_type = basic_type basic.Unit z

mutual
  end_items : (c : RoundItems) → CanEnd (spell_round_items c)
  end_items (items_in o is c) = add_plain (spell_round_items (items_in o is c)) kind.CloseBrace (end_block c (block o is z))

  end_block : (c : RoundBlock) (b : Block) → CanEnd (λ rest. spell_round_block c (spell_block (open_block c) b rest))
  end_block (body (opening ps f x o) xs e q t) b = record { tokens = []; rest = []; program = next_function ps (function f x o xs e q t b); written = refl; whole = refl }
  end_block (block_primary c) b = end_other c (primary (in_block b))
  end_block (then_block i e c) b = end_if c (if_then i e b)
  end_block (else_block i e b l c) d = end_if c (if_else i e b l d)

  end_if : (c : RoundIf) (f : If) → CanEnd (λ rest. spell_round_if c (spell_if (open_if c) (word_of c) f rest))
  end_if (if_primary c) f = end_other c (primary (in_if f))
  end_if (after_else i e b l c) f = end_if c (if_else_if i e b l f)

  end_expr : (c : RoundExpr) (e : Expr) → CanEnd (λ rest. spell_round_expr c (spell_expr (open_expr c) e rest))
  end_expr (group_in o c) e = add_plain (λ rest. spell_round_expr (group_in o c) (spell_expr (suc (open_other c)) e rest)) kind.CloseParen (end_other c (primary (group o e z)))
  end_expr (second_in o x m c) e = add_plain (λ rest. spell_round_expr (second_in o x m c) (spell_expr (suc (open_other c)) e rest)) kind.CloseParen (end_other c (primary (pair o x m e z)))
  end_expr (first_arg f o c) e = add_plain (λ rest. spell_round_expr (first_arg f o c) (spell_expr (suc (open_other c)) e rest)) kind.CloseParen (end_other c (primary (call_with f o (one_arg e) z)))
  end_expr (later_arg f o a m c) e = add_plain (λ rest. spell_round_expr (later_arg f o a m c) (spell_expr (suc (open_other c)) e rest)) kind.CloseParen (end_other c (primary (call_with f o (next_arg a m e) z)))
  end_expr (one_in w p o c) e = add_plain (λ rest. spell_round_expr (one_in w p o c) (spell_expr (suc (open_other c)) e rest)) kind.CloseParen (end_other c (primary (act (act_one w p o e z))))
  end_expr (two_left w p o c) e =
      let before : List Piece → List Piece = λ rest. spell_round_expr (two_left w p o c) (spell_expr (suc (open_other c)) e rest) in
      add_plain before kind.Comma (add_plain (λ rest. before (plain Comma z ∷ rest)) kind.KeywordTrue
      (add_plain (λ rest. before (plain Comma z ∷ plain (Truth true) z ∷ rest)) kind.CloseParen (end_other c (primary (act (act_two w p o e z some_expr z))))))
  end_expr (two_right w p o x m c) e = add_plain (λ rest. spell_round_expr (two_right w p o x m c) (spell_expr (suc (open_other c)) e rest)) kind.CloseParen (end_other c (primary (act (act_two w p o x m e z))))
  end_expr (let_value l x q (items_in o is c)) e =
      let before : List Piece → List Piece = λ rest. spell_round_expr (let_value l x q (items_in o is c)) (spell_expr (suc (open_block c)) e rest) in
      add_plain before kind.Semicolon (add_plain (λ rest. before (plain Semicolon z ∷ rest)) kind.CloseBrace (end_block c (block o (next_item is (let_item l x q e) z) z)))
  end_expr (item_in (items_in o is c)) e = add_plain (λ rest. spell_round_expr (item_in (items_in o is c)) (spell_expr (suc (open_block c)) e rest)) kind.CloseBrace (end_block c (block_with_last o is e z))
  end_expr (condition i c) e =
      let before : List Piece → List Piece = λ rest. spell_round_expr (condition i c) (spell_expr (open_if c) e rest) in
      add_opener before (suc (open_if c)) kind.OpenBrace (add_plain (λ rest. before (opener (suc (open_if c)) OpenBrace z ∷ rest)) kind.CloseBrace (end_if c (if_then i e some_block)))

  end_and : (c : RoundAnd) (a : And) → CanEnd (λ rest. spell_round_and c (spell_and (open_and c) a rest))
  end_and (first_and c) a = end_expr c (one_and a)
  end_and (after_or e p c) a = end_expr c (or e p a)

  end_cmp : (c : RoundCmp) (m : Cmp) → CanEnd (λ rest. spell_round_cmp c (spell_cmp (open_cmp c) m rest))
  end_cmp (first_cmp c) m = end_and c (one_cmp m)
  end_cmp (after_and a p c) m = end_and c (and a p m)

  end_sum : (c : RoundSum) (s : Sum) → CanEnd (λ rest. spell_round_sum c (spell_sum (open_sum c) s rest))
  end_sum (first_sum c) s = end_cmp c (one_sum s)
  end_sum (after_compare l op p c) s = end_cmp c (compare l op p s)

  end_term : (c : RoundTerm) (t : Term) → CanEnd (λ rest. spell_round_term c (spell_term (open_term c) t rest))
  end_term (first_term c) t = end_sum c (one_term t)
  end_term (after_plus s p c) t = end_sum c (plus s p t)
  end_term (after_minus s p c) t = end_sum c (minus s p t)

  end_unary : (c : RoundUnary) (u : Unary) → CanEnd (λ rest. spell_round_unary c (spell_unary (open_unary c) u rest))
  end_unary (first_unary c) u = end_term c (one_unary u)
  end_unary (after_times t op p c) u = end_term c (times t op p u)
  end_unary (after_not p c) u = end_other c (not p u)

  end_other : (c : RoundOther) (o : Other) → CanEnd (λ rest. spell_round_other c (spell_other (open_other c) o rest))
  end_other (no_sign c) o = end_unary c (other o)
  end_other (after_negate p c) o = end_other c (negate p o)

-- where an expression is owed
end_owed : (c : RoundExpr) → CanEnd (spell_round_expr c)
end_owed c = add_plain (spell_round_expr c) kind.KeywordTrue (end_expr c some_expr)

end_result : (o : Opening) (ps : Params) (e q : Span) (t : WrittenType) → CanEnd (λ rest. spell_round_type (of_result o ps e q) (spell_type 0 t rest))
end_result o ps e q t =
    let before : List Piece → List Piece = λ rest. spell_round_type (of_result o ps e q) (spell_type 0 t rest) in
    add_opener before 1 kind.OpenBrace (add_plain (λ rest. before (opener 1 OpenBrace z ∷ rest)) kind.CloseBrace (end_block (body o ps e q t) some_block))

end_params : (o : Opening) (ps : Params) (e : Span) → CanEnd (λ rest. spell_opening o (spell_params 1 ps (plain CloseParen e ∷ rest)))
end_params o ps e =
    let before : List Piece → List Piece = λ rest. spell_opening o (spell_params 1 ps (plain CloseParen e ∷ rest)) in
    add_plain before kind.Colon (add_plain (λ rest. before (plain Colon z ∷ rest)) kind.KeywordUnit (end_result o ps e z some_type))

end_param_list : (o : Opening) (xs : ParamList) → CanEnd (λ rest. spell_opening o (spell_param_list 1 xs rest))
end_param_list o xs = add_plain (λ rest. spell_opening o (spell_param_list 1 xs rest)) kind.CloseParen (end_params o (some_params xs) z)

end_type : (c : RoundType) (t : WrittenType) → CanEnd (λ rest. spell_round_type c (spell_type (open_type c) t rest))
end_type (of_param c x q) t =
    end_from (λ rest. spell_round_type (of_param c x q) (spell_type 1 t rest)) (λ rest. spell_opening (opening_of c) (spell_param_list 1 (params_with c (param x q t)) rest))
    (spell_params_there c (param x q t)) (end_param_list (opening_of c) (params_with c (param x q t)))
end_type (of_result o ps e q) t = end_result o ps e q t
end_type (in_chan w o c) t = add_plain (λ rest. spell_round_type (in_chan w o c) (spell_type (suc (open_type c)) t rest)) kind.CloseBracket (end_type c (chan_type w o t z))
end_type (in_ref w o c) t = add_plain (λ rest. spell_round_type (in_ref w o c) (spell_type (suc (open_type c)) t rest)) kind.CloseBracket (end_type c (ref_type w o t z))
end_type (pair_left o c) t =
    let before : List Piece → List Piece = λ rest. spell_round_type (pair_left o c) (spell_type (suc (open_type c)) t rest) in
    add_plain before kind.Comma (add_plain (λ rest. before (plain Comma z ∷ rest)) kind.KeywordUnit
    (add_plain (λ rest. before (plain Comma z ∷ plain (Basic basic.Unit) z ∷ rest)) kind.CloseParen (end_type c (pair_type o t z some_type z))))
end_type (pair_right o l m c) t = add_plain (λ rest. spell_round_type (pair_right o l m c) (spell_type (suc (open_type c)) t rest)) kind.CloseParen (end_type c (pair_type o l m t z))
end_type (of_chan w o c) t =
    let before : List Piece → List Piece = λ rest. spell_round_type (of_chan w o c) (spell_type (suc (open_other c)) t rest) in
    add_plain before kind.CloseBracket (add_opener (λ rest. before (plain CloseBracket z ∷ rest)) (suc (open_other c)) kind.OpenParen
    (add_plain (λ rest. before (plain CloseBracket z ∷ opener (suc (open_other c)) OpenParen z ∷ rest)) kind.CloseParen (end_other c (primary (act (new_chan w o t z z z))))))

-- where a type is owed
end_owed_type : (c : RoundType) → CanEnd (spell_round_type c)
end_owed_type c = add_plain (spell_round_type c) kind.KeywordUnit (end_type c some_type)

end_param : (c : RoundParam) (x : Span) → CanEnd (λ rest. spell_round_param c (plain Name x ∷ rest))
end_param c x = add_plain (λ rest. spell_round_param c (plain Name x ∷ rest)) kind.Colon (end_owed_type (of_param c x z))

end_opening : (o : Opening) → CanEnd (spell_opening o)
end_opening o = add_plain (spell_opening o) kind.CloseParen (end_params o no_params z)

pub end_state : (st : State) → CanEnd (spell_state st)
end_state (between ps) = record { tokens = []; rest = []; program = ps; written = refl; whole = refl }
end_state (fn_read ps f) =
    add_plain (spell_state (fn_read ps f)) kind.Name (add_opener (spell_state (fn_named ps f z)) 1 kind.OpenParen (end_opening (opening ps f z z)))
end_state (fn_named ps f x) = add_opener (spell_state (fn_named ps f x)) 1 kind.OpenParen (end_opening (opening ps f x z))
end_state (params_open o) = end_opening o
end_state (param_owed o xs m) = add_plain (spell_state (param_owed o xs m)) kind.Name (end_param (later_param o xs m) z)
end_state (param_named c x) = end_param c x
end_state (params_closed o ps e) = end_params o ps e
end_state (owes_type c) = end_owed_type c
end_state (chan_type_read p c) = add_opener (spell_state (chan_type_read p c)) (suc (open_type c)) kind.OpenBracket (end_owed_type (in_chan p z c))
end_state (ref_type_read p c) = add_opener (spell_state (ref_type_read p c)) (suc (open_type c)) kind.OpenBracket (end_owed_type (in_ref p z c))
end_state (has_type c t) = end_type c t
end_state (owes c) = add_plain (spell_round_unary c) kind.KeywordTrue (end_unary c (other some_other))
end_state (signed p c) = add_plain (spell_state (signed p c)) kind.KeywordTrue (end_other c (negate p some_other))
end_state (opened o c) = add_plain (spell_state (opened o c)) kind.CloseParen (end_other c (primary (unit o z)))
end_state (named x c) = end_other c (primary (variable x))
end_state (call_open f o c) = add_plain (spell_state (call_open f o c)) kind.CloseParen (end_other c (primary (call f o z)))
end_state (word_read w p c) =
    add_plain (spell_state (word_read w p c)) kind.Name (add_opener (spell_state (word_named w p z c)) (suc (open_other c)) kind.OpenParen
    (add_plain (spell_state (call_open (started w p z) z c)) kind.CloseParen (end_other c (primary (call (started w p z) z z)))))
end_state (word_named w p x c) =
    add_opener (spell_state (word_named w p x c)) (suc (open_other c)) kind.OpenParen
    (add_plain (spell_state (call_open (started w p x) z c)) kind.CloseParen (end_other c (primary (call (started w p x) z z))))
end_state (alone_read w p c) =
    add_opener (spell_state (alone_read w p c)) (suc (open_other c)) kind.OpenParen (add_plain (spell_state (alone_open w p z c)) kind.CloseParen (end_other c (primary (act (act_alone w p z z)))))
end_state (alone_open w p o c) = add_plain (spell_state (alone_open w p o c)) kind.CloseParen (end_other c (primary (act (act_alone w p o z))))
end_state (one_read w p c) = add_opener (spell_state (one_read w p c)) (suc (open_other c)) kind.OpenParen (end_owed (one_in w p z c))
end_state (two_read w p c) = add_opener (spell_state (two_read w p c)) (suc (open_other c)) kind.OpenParen (end_owed (two_left w p z c))
end_state (chan_read p c) = add_opener (spell_state (chan_read p c)) (suc (open_other c)) kind.OpenBracket (end_owed_type (of_chan p z c))
end_state (chan_typed p o t e c) =
    add_opener (spell_state (chan_typed p o t e c)) (suc (open_other c)) kind.OpenParen (add_plain (spell_state (chan_open p o t e z c)) kind.CloseParen (end_other c (primary (act (new_chan p o t e z z)))))
end_state (chan_open p o t e q c) = add_plain (spell_state (chan_open p o t e q c)) kind.CloseParen (end_other c (primary (act (new_chan p o t e q z))))
end_state (in_items c) = end_items c
end_state (let_read l c) =
    add_plain (spell_state (let_read l c)) kind.Name (add_plain (spell_state (let_named l z c)) kind.Equal (end_owed (let_value l z z c)))
end_state (let_named l x c) = add_plain (spell_state (let_named l x c)) kind.Equal (end_owed (let_value l x z c))
end_state (has c t) = end_term c t
end_state (then_read i e b c) = end_if c (if_then i e b)
end_state (else_read i e b l c) =
    add_opener (spell_state (else_read i e b l c)) (suc (open_if c)) kind.OpenBrace
    (add_plain (λ rest. spell_state (else_read i e b l c) (opener (suc (open_if c)) OpenBrace z ∷ rest)) kind.CloseBrace (end_if c (if_else i e b l some_block)))

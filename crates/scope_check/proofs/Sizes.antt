-- How many forms a program has: at most two for each of its tokens.
use Rattle.std.proofs.Common.{◌≡◌, ℕ, suc, ◌+◌, ◌*◌, ◌≤◌, List, [], ◌∷◌, length, refl, arith, length-append}
use Rattle.stab_parse.specs.declared.symbol.Span.{Span}
use Rattle.stab_parse.specs.declared.symbol.Symbol.TheVariants as symbol
use Rattle.stab_parse.specs.Forms.{Form, form, Parts, no_parts, next_part, block_form, form_of_block, parts_of_items, form_of_item, form_of_expr, form_of_and, form_of_cmp, form_of_sum, form_of_term, form_of_unary, form_of_other, form_of_primary, parts_of_args, form_of_if, form_of_act, body_of}
use Rattle.stab_parse.specs.FormList.{count_of, nodes_of, nodes_of_parts, nodes_of_program}
use Rattle.stab_parse.specs.Moves.{node_of}
use Rattle.scope_check.specs.Placed.{size_of, size_of_parts}
use Rattle.stab_parse.specs.Grammar.{WrittenType, basic_type, chan_type, ref_type, pair_type, Param, param, ParamList, one_param, next_param, Params, no_params, some_params, called, started, Block, block, block_with_last, Items, no_items, next_item, Item, let_item, form_item, Expr, one_and, or, And, one_cmp, and, Cmp, one_sum, compare, Sum, one_term, plus, minus, Term, one_unary, times, Unary, number, other, Other, literal, least, negate, not, primary, Primary, text, truth, variable, call, call_with, unit, group, pair, in_block, in_if, act, Args, one_arg, next_arg, If, if_then, if_else, if_else_if, Act, new_chan, act_one, act_two, act_alone, Function, function, Program, no_functions, next_function, Piece, plain, opener, spell_type, spell_param, spell_param_list, spell_params, spell_block, spell_items, spell_item, spell_expr, spell_and, spell_cmp, spell_sum, spell_term, spell_unary, spell_other, spell_primary, spell_args, spell_if, spell_act, spell_function, spell_program}

mutual
  pub length-nodes_of : (f : Form) → length (nodes_of f) ≡ size_of f
  length-nodes_of (form at h parts) = omega (arith, length-append (nodes_of_parts parts) (node_of h (count_of parts) ∷ []), length-nodes_of_parts parts)

  pub length-nodes_of_parts : (ps : Parts) → length (nodes_of_parts ps) ≡ size_of_parts ps
  length-nodes_of_parts no_parts = refl
  length-nodes_of_parts (next_part ps f) = omega (arith, length-append (nodes_of_parts ps) (nodes_of f), length-nodes_of_parts ps, length-nodes_of f)

less-type : (n : ℕ) (t : WrittenType) (rest : List Piece) → length rest ≤ length (spell_type n t rest)
less-type n (basic_type b p) rest = omega arith
less-type n (chan_type c o t e) rest = omega (arith, less-type (suc n) t (plain symbol.CloseBracket e ∷ rest))
less-type n (ref_type c o t e) rest = omega (arith, less-type (suc n) t (plain symbol.CloseBracket e ∷ rest))
less-type n (pair_type o t m u e) rest =
    omega (arith, less-type (suc n) u (plain symbol.CloseParen e ∷ rest), less-type (suc n) t (plain symbol.Comma m ∷ spell_type (suc n) u (plain symbol.CloseParen e ∷ rest)))

less-param : (n : ℕ) (x : Param) (rest : List Piece) → length rest ≤ length (spell_param n x rest)
less-param n (param x c t) rest = omega (arith, less-type n t rest)

less-param_list : (n : ℕ) (xs : ParamList) (rest : List Piece) → length rest ≤ length (spell_param_list n xs rest)
less-param_list n (one_param x) rest = less-param n x rest
less-param_list n (next_param xs m x) rest = omega (arith, less-param n x rest, less-param_list n xs (plain symbol.Comma m ∷ spell_param n x rest))

less-params : (n : ℕ) (xs : Params) (rest : List Piece) → length rest ≤ length (spell_params n xs rest)
less-params n no_params rest = omega arith
less-params n (some_params xs) rest = less-param_list n xs rest

-- so many forms and the rest are at most two for each token
abbrev Few : ℕ → List Piece → List Piece → Type 0
Few size rest all = size + 2 * length rest ≤ 2 * length all

size-block_form : (at : ℕ) (is : Items) (last : Form) → size_of (block_form at is (parts_of_items is) last) ≤ size_of_parts (parts_of_items is) + size_of last + 1
size-block_form at no_items last = omega arith
size-block_form at (next_item is i m) last = omega arith

mutual
  few-block : (n : ℕ) (b : Block) (rest : List Piece) → Few (size_of (form_of_block b)) rest (spell_block n b rest)
  few-block n (block o no_items e) rest = omega arith
  few-block n (block o (next_item is i m) e) rest = let h = few-items (suc n) (next_item is i m) (plain symbol.CloseBrace e ∷ rest) in omega arith
  few-block n (block_with_last o is x e) rest =
      let h = few-items (suc n) is (spell_expr (suc n) x (plain symbol.CloseBrace e ∷ rest)) in
      let k = few-expr (suc n) x (plain symbol.CloseBrace e ∷ rest) in
      let s = size-block_form o.start is (form_of_expr x) in omega arith

  few-items : (n : ℕ) (is : Items) (rest : List Piece) → Few (size_of_parts (parts_of_items is)) rest (spell_items n is rest)
  few-items n no_items rest = omega arith
  few-items n (next_item is i e) rest =
      let h = few-items n is (spell_item n i (plain symbol.Semicolon e ∷ rest)) in let k = few-item n i (plain symbol.Semicolon e ∷ rest) in omega arith

  few-item : (n : ℕ) (i : Item) (rest : List Piece) → Few (size_of (form_of_item i)) rest (spell_item n i rest)
  few-item n (let_item l x q e) rest = let h = few-expr n e rest in omega arith
  few-item n (form_item e) rest = few-expr n e rest

  few-expr : (n : ℕ) (e : Expr) (rest : List Piece) → Few (size_of (form_of_expr e)) rest (spell_expr n e rest)
  few-expr n (one_and a) rest = few-and n a rest
  few-expr n (or e p a) rest = let h = few-expr n e (plain symbol.OrOr p ∷ spell_and n a rest) in let k = few-and n a rest in omega arith

  few-and : (n : ℕ) (a : And) (rest : List Piece) → Few (size_of (form_of_and a)) rest (spell_and n a rest)
  few-and n (one_cmp m) rest = few-cmp n m rest
  few-and n (and a p m) rest = let h = few-and n a (plain symbol.AndAnd p ∷ spell_cmp n m rest) in let k = few-cmp n m rest in omega arith

  few-cmp : (n : ℕ) (m : Cmp) (rest : List Piece) → Few (size_of (form_of_cmp m)) rest (spell_cmp n m rest)
  few-cmp n (one_sum s) rest = few-sum n s rest
  few-cmp n (compare s op p u) rest = let h = few-sum n s (plain (symbol.Relation op) p ∷ spell_sum n u rest) in let k = few-sum n u rest in omega arith

  few-sum : (n : ℕ) (s : Sum) (rest : List Piece) → Few (size_of (form_of_sum s)) rest (spell_sum n s rest)
  few-sum n (one_term t) rest = few-term n t rest
  few-sum n (plus s p t) rest = let h = few-sum n s (plain symbol.Plus p ∷ spell_term n t rest) in let k = few-term n t rest in omega arith
  few-sum n (minus s p t) rest = let h = few-sum n s (plain symbol.Minus p ∷ spell_term n t rest) in let k = few-term n t rest in omega arith

  few-term : (n : ℕ) (t : Term) (rest : List Piece) → Few (size_of (form_of_term t)) rest (spell_term n t rest)
  few-term n (one_unary u) rest = few-unary n u rest
  few-term n (times t op p u) rest = let h = few-term n t (plain (symbol.Product op) p ∷ spell_unary n u rest) in let k = few-unary n u rest in omega arith

  few-unary : (n : ℕ) (u : Unary) (rest : List Piece) → Few (size_of (form_of_unary u)) rest (spell_unary n u rest)
  few-unary n (number v p) rest = omega arith
  few-unary n (other o) rest = few-other n o rest

  few-other : (n : ℕ) (o : Other) (rest : List Piece) → Few (size_of (form_of_other o)) rest (spell_other n o rest)
  few-other n (literal m v p) rest = omega arith
  few-other n (least m p) rest = omega arith
  few-other n (negate m o) rest = let h = few-other (suc n) o rest in omega arith
  few-other n (not p u) rest = let h = few-unary (suc n) u rest in omega arith
  few-other n (primary x) rest = few-primary n x rest

  few-primary : (n : ℕ) (x : Primary) (rest : List Piece) → Few (size_of (form_of_primary x)) rest (spell_primary n x rest)
  few-primary n (text p) rest = omega arith
  few-primary n (truth b p) rest = omega arith
  few-primary n (variable p) rest = omega arith
  few-primary n (call (called f) o e) rest = omega arith
  few-primary n (call (started w p f) o e) rest = omega arith
  few-primary n (call_with (called f) o a e) rest = let h = few-args (suc n) a (plain symbol.CloseParen e ∷ rest) in omega arith
  few-primary n (call_with (started w p f) o a e) rest = let h = few-args (suc n) a (plain symbol.CloseParen e ∷ rest) in omega arith
  few-primary n (unit o e) rest = omega arith
  few-primary n (group o x e) rest = let h = few-expr (suc n) x (plain symbol.CloseParen e ∷ rest) in omega arith
  few-primary n (pair o x m y e) rest =
      let h = few-expr (suc n) x (plain symbol.Comma m ∷ spell_expr (suc n) y (plain symbol.CloseParen e ∷ rest)) in
      let k = few-expr (suc n) y (plain symbol.CloseParen e ∷ rest) in omega arith
  few-primary n (in_block b) rest = few-block n b rest
  few-primary n (in_if f) rest = few-if n (plain symbol.WordIf) f rest
  few-primary n (act a) rest = few-act n a rest

  few-args : (n : ℕ) (a : Args) (rest : List Piece) → Few (size_of_parts (parts_of_args a)) rest (spell_args n a rest)
  few-args n (one_arg e) rest = let h = few-expr n e rest in omega arith
  few-args n (next_arg a m e) rest = let h = few-args n a (plain symbol.Comma m ∷ spell_expr n e rest) in let k = few-expr n e rest in omega arith

  few-if : (n : ℕ) (word : Span → Piece) (f : If) (rest : List Piece) → Few (size_of (form_of_if f)) rest (spell_if n word f rest)
  few-if n word (if_then i e b) rest = let h = few-expr n e (spell_block n b rest) in let k = few-block n b rest in omega arith
  few-if n word (if_else i e b l d) rest =
      let h = few-expr n e (spell_block n b (plain symbol.WordElse l ∷ spell_block n d rest)) in
      let k = few-block n b (plain symbol.WordElse l ∷ spell_block n d rest) in
      let j = few-block n d rest in omega arith
  few-if n word (if_else_if i e b l f) rest =
      let h = few-expr n e (spell_block n b (plain symbol.WordElse l ∷ spell_if (suc n) (opener (suc n) symbol.WordIf) f rest)) in
      let k = few-block n b (plain symbol.WordElse l ∷ spell_if (suc n) (opener (suc n) symbol.WordIf) f rest) in
      let j = few-if (suc n) (opener (suc n) symbol.WordIf) f rest in omega arith

  few-act : (n : ℕ) (a : Act) (rest : List Piece) → Few (size_of (form_of_act a)) rest (spell_act n a rest)
  few-act n (new_chan c o t e p q) rest =
      let h = less-type (suc n) t (plain symbol.CloseBracket e ∷ opener (suc n) symbol.OpenParen p ∷ plain symbol.CloseParen q ∷ rest) in omega arith
  few-act n (act_one w p o x e) rest = let h = few-expr (suc n) x (plain symbol.CloseParen e ∷ rest) in omega arith
  few-act n (act_two w p o x m y e) rest =
      let h = few-expr (suc n) x (plain symbol.Comma m ∷ spell_expr (suc n) y (plain symbol.CloseParen e ∷ rest)) in
      let k = few-expr (suc n) y (plain symbol.CloseParen e ∷ rest) in omega arith
  few-act n (act_alone w p o e) rest = omega arith

few-function : (f : Function) (rest : List Piece) → Few (size_of (body_of f)) rest (spell_function f rest)
few-function (function f x o ps e q t b) rest =
    let h = less-params 1 ps (plain symbol.CloseParen e ∷ plain symbol.Colon q ∷ spell_type 0 t (spell_block 0 b rest)) in
    let k = less-type 0 t (spell_block 0 b rest) in
    let j = few-block 0 b rest in omega arith

pub few-program : (p : Program) (rest : List Piece) → Few (length (nodes_of_program p)) rest (spell_program p rest)
few-program no_functions rest = omega arith
few-program (next_function p f) rest =
    let h = few-program p (spell_function f rest) in
    let k = few-function f rest in
    let s = length-append (nodes_of_program p) (nodes_of (body_of f)) in
    let t = length-nodes_of (body_of f) in omega arith

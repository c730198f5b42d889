-- What a syntax has that was read from a text, rule by rule of the grammar.
use Rattle.std.proofs.Common.{◌≡◌, ℕ, suc, ◌+◌, ◌<◌, List, [], ◌∷◌, length, map, refl, sym, ap, arith, length-append, Bool, true, false, cond}
use Rattle.std.specs.Prelude.{⊤, Option, is_some}
use Rattle.std.specs.List.{AllByRecursion, list_any}
use Rattle.stab_lex.specs.Pieces.{IsText}
use Rattle.stab_parse.specs.declared.symbol.Span.{Span}
use Rattle.stab_parse.specs.declared.symbol.Symbol.{Symbol}
use Rattle.stab_parse.specs.declared.symbol.Symbol.TheVariants as symbol
use Rattle.stab_parse.specs.declared.tree.Head.TheVariants as head
use Rattle.stab_parse.specs.Forms.{leaf, Form, names_of, name_of, block_form, form_of_block, parts_of_items, form_of_item, form_of_expr, form_of_and, form_of_cmp, form_of_sum, form_of_term, form_of_unary, form_of_other, form_of_primary, parts_of_args, form_of_if, form_of_act, body_of}
use Rattle.stab_parse.specs.Grammar.{WrittenType, basic_type, chan_type, ref_type, pair_type, Param, param, ParamList, one_param, next_param, Params, no_params, some_params, called, started, Block, block, block_with_last, Items, no_items, next_item, Item, let_item, form_item, Expr, one_and, or, And, one_cmp, and, Cmp, one_sum, compare, Sum, one_term, plus, minus, Term, one_unary, times, Unary, number, other, Other, literal, least, negate, not, primary, Primary, text, truth, variable, call, call_with, unit, group, pair, in_block, in_if, act, Args, one_arg, next_arg, If, if_then, if_else, if_else_if, Act, new_chan, act_one, act_two, act_alone, Function, function, Program, no_functions, next_function, Piece, sign_of_piece, plain, opener, spell_type, spell_param, spell_param_list, spell_params, spell_block, spell_items, spell_item, spell_expr, spell_and, spell_cmp, spell_sum, spell_term, spell_unary, spell_other, spell_primary, spell_args, spell_if, spell_act, spell_function, spell_program}
use Rattle.stab_parse.specs.Symbols.{Sign}
use Rattle.scope_check.specs.Forms.{number_of}
use Rattle.scope_check.specs.Names.{named}
use Rattle.scope_check.specs.Sound.{operands, Fits, IsSound, AreSound, IsSoundProgram}

-- a block has a part for each item
pub number-items : (is : Items) → number_of (parts_of_items is) ≡ length (names_of is)
number-items no_items = refl
number-items (next_item is i m) = omega (arith, number-items is, length-append (names_of is) (name_of i ∷ []))

module _ (bytes : List ℕ) where
  -- what each token is
  abbrev pub IsSoundSymbol : Symbol → Span → Type 0
  IsSoundSymbol symbol.Text span = IsText (named bytes span)
  IsSoundSymbol (symbol.ActAlone w) span = operands w ≡ 0
  IsSoundSymbol (symbol.ActOne w) span = operands w ≡ 1
  IsSoundSymbol (symbol.ActTwo w) span = operands w ≡ 2
  IsSoundSymbol _ span = ⊤

  abbrev pub IsSoundSign : Sign → Type 0
  IsSoundSign sign = IsSoundSymbol sign.symbol sign.span

  abbrev pub AreSigns : List Piece → Type 0
  AreSigns pieces = AllByRecursion IsSoundSign (map sign_of_piece pieces)

  -- a block's head fits, with lets among its items or not
  fits-names : (names : List (Option Span)) (lets : Bool) → 0 < length names → (items : ℕ) → items ≡ length names → Fits bytes (cond lets (head.LetBlock names) head.Block) (items + 1)
  fits-names names true some items e = (some, ap (λ n. n + 1) e)
  fits-names names false some items e = omega arith

  sound-block_form : (at : ℕ) (is : Items) (last : Form) → AreSound bytes (parts_of_items is) → IsSound bytes last → IsSound bytes (block_form at is (parts_of_items is) last)
  sound-block_form at no_items last parts own = own
  sound-block_form at (next_item is i m) last parts own =
      let names = names_of (next_item is i m) in
      let some : 0 < length names = omega (arith, length-append (names_of is) (name_of i ∷ [])) in
      (fits-names names (list_any is_some names) some (number_of (parts_of_items (next_item is i m))) (number-items (next_item is i m)), (parts, own))

  sound-type : (n : ℕ) (t : WrittenType) (rest : List Piece) → AreSigns (spell_type n t rest) → AreSigns rest
  sound-type n (basic_type b p) rest all = all.1
  sound-type n (chan_type c o t e) rest all = (sound-type (suc n) t (plain symbol.CloseBracket e ∷ rest) all.1.1).1
  sound-type n (ref_type r o t e) rest all = (sound-type (suc n) t (plain symbol.CloseBracket e ∷ rest) all.1.1).1
  sound-type n (pair_type o t m u e) rest all =
      (sound-type (suc n) u (plain symbol.CloseParen e ∷ rest) (sound-type (suc n) t (plain symbol.Comma m ∷ spell_type (suc n) u (plain symbol.CloseParen e ∷ rest)) all.1).1).1

  sound-param : (n : ℕ) (x : Param) (rest : List Piece) → AreSigns (spell_param n x rest) → AreSigns rest
  sound-param n (param x c t) rest all = sound-type n t rest all.1.1

  sound-param_list : (n : ℕ) (xs : ParamList) (rest : List Piece) → AreSigns (spell_param_list n xs rest) → AreSigns rest
  sound-param_list n (one_param x) rest all = sound-param n x rest all
  sound-param_list n (next_param xs m x) rest all = sound-param n x rest (sound-param_list n xs (plain symbol.Comma m ∷ spell_param n x rest) all).1

  sound-params : (n : ℕ) (xs : Params) (rest : List Piece) → AreSigns (spell_params n xs rest) → AreSigns rest
  sound-params n no_params rest all = all
  sound-params n (some_params xs) rest all = sound-param_list n xs rest all

  mutual
    sound-block : (n : ℕ) (b : Block) (rest : List Piece) → AreSigns (spell_block n b rest) → IsSound bytes (form_of_block b) × AreSigns rest
    sound-block n (block o no_items e) rest all = ((refl, tt), all.1.1)
    sound-block n (block o (next_item is i m) e) rest all =
        let items = sound-items (suc n) (next_item is i m) (plain symbol.CloseBrace e ∷ rest) all.1 in
        (sound-block_form o.start (next_item is i m) (leaf e.start head.Unit) items.0 (refl, tt), items.1.1)
    sound-block n (block_with_last o is x e) rest all =
        let items = sound-items (suc n) is (spell_expr (suc n) x (plain symbol.CloseBrace e ∷ rest)) all.1 in
        let last = sound-expr (suc n) x (plain symbol.CloseBrace e ∷ rest) items.1 in
        (sound-block_form o.start is (form_of_expr x) items.0 last.0, last.1.1)

    sound-items : (n : ℕ) (is : Items) (rest : List Piece) → AreSigns (spell_items n is rest) → AreSound bytes (parts_of_items is) × AreSigns rest
    sound-items n no_items rest all = (tt, all)
    sound-items n (next_item is i e) rest all =
        let before = sound-items n is (spell_item n i (plain symbol.Semicolon e ∷ rest)) all in
        let last = sound-item n i (plain symbol.Semicolon e ∷ rest) before.1 in
        ((before.0, last.0), last.1.1)

    sound-item : (n : ℕ) (i : Item) (rest : List Piece) → AreSigns (spell_item n i rest) → IsSound bytes (form_of_item i) × AreSigns rest
    sound-item n (let_item l x q e) rest all = sound-expr n e rest all.1.1.1
    sound-item n (form_item e) rest all = sound-expr n e rest all

    sound-expr : (n : ℕ) (e : Expr) (rest : List Piece) → AreSigns (spell_expr n e rest) → IsSound bytes (form_of_expr e) × AreSigns rest
    sound-expr n (one_and a) rest all = sound-and n a rest all
    sound-expr n (or e p a) rest all =
        let left = sound-expr n e (plain symbol.OrOr p ∷ spell_and n a rest) all in
        let right = sound-and n a rest left.1.1 in
        ((refl, ((tt, left.0), right.0)), right.1)

    sound-and : (n : ℕ) (a : And) (rest : List Piece) → AreSigns (spell_and n a rest) → IsSound bytes (form_of_and a) × AreSigns rest
    sound-and n (one_cmp m) rest all = sound-cmp n m rest all
    sound-and n (and a p m) rest all =
        let left = sound-and n a (plain symbol.AndAnd p ∷ spell_cmp n m rest) all in
        let right = sound-cmp n m rest left.1.1 in
        ((refl, ((tt, left.0), right.0)), right.1)

    sound-cmp : (n : ℕ) (m : Cmp) (rest : List Piece) → AreSigns (spell_cmp n m rest) → IsSound bytes (form_of_cmp m) × AreSigns rest
    sound-cmp n (one_sum s) rest all = sound-sum n s rest all
    sound-cmp n (compare s op p u) rest all =
        let left = sound-sum n s (plain (symbol.Relation op) p ∷ spell_sum n u rest) all in
        let right = sound-sum n u rest left.1.1 in
        ((refl, ((tt, left.0), right.0)), right.1)

    sound-sum : (n : ℕ) (s : Sum) (rest : List Piece) → AreSigns (spell_sum n s rest) → IsSound bytes (form_of_sum s) × AreSigns rest
    sound-sum n (one_term t) rest all = sound-term n t rest all
    sound-sum n (plus s p t) rest all =
        let left = sound-sum n s (plain symbol.Plus p ∷ spell_term n t rest) all in
        let right = sound-term n t rest left.1.1 in
        ((refl, ((tt, left.0), right.0)), right.1)
    sound-sum n (minus s p t) rest all =
        let left = sound-sum n s (plain symbol.Minus p ∷ spell_term n t rest) all in
        let right = sound-term n t rest left.1.1 in
        ((refl, ((tt, left.0), right.0)), right.1)

    sound-term : (n : ℕ) (t : Term) (rest : List Piece) → AreSigns (spell_term n t rest) → IsSound bytes (form_of_term t) × AreSigns rest
    sound-term n (one_unary u) rest all = sound-unary n u rest all
    sound-term n (times t op p u) rest all =
        let left = sound-term n t (plain (symbol.Product op) p ∷ spell_unary n u rest) all in
        let right = sound-unary n u rest left.1.1 in
        ((refl, ((tt, left.0), right.0)), right.1)

    sound-unary : (n : ℕ) (u : Unary) (rest : List Piece) → AreSigns (spell_unary n u rest) → IsSound bytes (form_of_unary u) × AreSigns rest
    sound-unary n (number v p) rest all = ((refl, tt), all.1)
    sound-unary n (other o) rest all = sound-other n o rest all

    sound-other : (n : ℕ) (o : Other) (rest : List Piece) → AreSigns (spell_other n o rest) → IsSound bytes (form_of_other o) × AreSigns rest
    sound-other n (literal m v p) rest all = ((refl, tt), all.1.1)
    sound-other n (least m p) rest all = ((refl, tt), all.1.1)
    sound-other n (negate m o) rest all = let own = sound-other (suc n) o rest all.1 in ((refl, (tt, own.0)), own.1)
    sound-other n (not p u) rest all = let own = sound-unary (suc n) u rest all.1 in ((refl, (tt, own.0)), own.1)
    sound-other n (primary x) rest all = sound-primary n x rest all

    sound-primary : (n : ℕ) (x : Primary) (rest : List Piece) → AreSigns (spell_primary n x rest) → IsSound bytes (form_of_primary x) × AreSigns rest
    sound-primary n (text p) rest all = (((refl, all.0), tt), all.1)
    sound-primary n (truth b p) rest all = ((refl, tt), all.1)
    sound-primary n (variable p) rest all = ((refl, tt), all.1)
    sound-primary n (call (called f) o e) rest all = ((tt, tt), all.1.1.1)
    sound-primary n (call (started w p f) o e) rest all = ((tt, tt), all.1.1.1.1)
    sound-primary n (call_with (called f) o a e) rest all =
        let args = sound-args (suc n) a (plain symbol.CloseParen e ∷ rest) all.1.1 in ((tt, args.0), args.1.1)
    sound-primary n (call_with (started w p f) o a e) rest all =
        let args = sound-args (suc n) a (plain symbol.CloseParen e ∷ rest) all.1.1.1 in ((tt, args.0), args.1.1)
    sound-primary n (unit o e) rest all = ((refl, tt), all.1.1)
    sound-primary n (group o x e) rest all = let own = sound-expr (suc n) x (plain symbol.CloseParen e ∷ rest) all.1 in (own.0, own.1.1)
    sound-primary n (pair o x m y e) rest all =
        let left = sound-expr (suc n) x (plain symbol.Comma m ∷ spell_expr (suc n) y (plain symbol.CloseParen e ∷ rest)) all.1 in
        let right = sound-expr (suc n) y (plain symbol.CloseParen e ∷ rest) left.1.1 in
        ((refl, ((tt, left.0), right.0)), right.1.1)
    sound-primary n (in_block b) rest all = sound-block n b rest all
    sound-primary n (in_if f) rest all = sound-if n (plain symbol.WordIf) f rest (λ p more signs. signs.1) all
    sound-primary n (act a) rest all = sound-act n a rest all

    sound-args : (n : ℕ) (a : Args) (rest : List Piece) → AreSigns (spell_args n a rest) → AreSound bytes (parts_of_args a) × AreSigns rest
    sound-args n (one_arg e) rest all = let own = sound-expr n e rest all in ((tt, own.0), own.1)
    sound-args n (next_arg a m e) rest all =
        let before = sound-args n a (plain symbol.Comma m ∷ spell_expr n e rest) all in
        let last = sound-expr n e rest before.1.1 in
        ((before.0, last.0), last.1)

    sound-if : (n : ℕ) (word : Span → Piece) (f : If) (rest : List Piece) → ((p : Span) (more : List Piece) → AreSigns (word p ∷ more) → AreSigns more) → AreSigns (spell_if n word f rest) → IsSound bytes (form_of_if f) × AreSigns rest
    sound-if n word (if_then i e b) rest behind all =
        let test = sound-expr n e (spell_block n b rest) (behind i _ all) in
        let then = sound-block n b rest test.1 in
        ((refl, (((tt, test.0), then.0), (refl, tt))), then.1)
    sound-if n word (if_else i e b l d) rest behind all =
        let test = sound-expr n e (spell_block n b (plain symbol.WordElse l ∷ spell_block n d rest)) (behind i _ all) in
        let then = sound-block n b (plain symbol.WordElse l ∷ spell_block n d rest) test.1 in
        let last = sound-block n d rest then.1.1 in
        ((refl, (((tt, test.0), then.0), last.0)), last.1)
    sound-if n word (if_else_if i e b l f) rest behind all =
        let test = sound-expr n e (spell_block n b (plain symbol.WordElse l ∷ spell_if (suc n) (opener (suc n) symbol.WordIf) f rest)) (behind i _ all) in
        let then = sound-block n b (plain symbol.WordElse l ∷ spell_if (suc n) (opener (suc n) symbol.WordIf) f rest) test.1 in
        let last = sound-if (suc n) (opener (suc n) symbol.WordIf) f rest (λ p more signs. signs.1) then.1.1 in
        ((refl, (((tt, test.0), then.0), last.0)), last.1)

    sound-act : (n : ℕ) (a : Act) (rest : List Piece) → AreSigns (spell_act n a rest) → IsSound bytes (form_of_act a) × AreSigns rest
    sound-act n (new_chan c o t e p q) rest all =
        let behind = sound-type (suc n) t (plain symbol.CloseBracket e ∷ opener (suc n) symbol.OpenParen p ∷ plain symbol.CloseParen q ∷ rest) all.1.1 in
        ((refl, tt), behind.1.1.1)
    sound-act n (act_one w p o x e) rest all =
        let own = sound-expr (suc n) x (plain symbol.CloseParen e ∷ rest) all.1.1 in ((sym all.0, (tt, own.0)), own.1.1)
    sound-act n (act_two w p o x m y e) rest all =
        let left = sound-expr (suc n) x (plain symbol.Comma m ∷ spell_expr (suc n) y (plain symbol.CloseParen e ∷ rest)) all.1.1 in
        let right = sound-expr (suc n) y (plain symbol.CloseParen e ∷ rest) left.1.1 in
        ((sym all.0, ((tt, left.0), right.0)), right.1.1)
    sound-act n (act_alone w p o e) rest all = ((sym all.0, tt), all.1.1.1)

  sound-function : (f : Function) (rest : List Piece) → AreSigns (spell_function f rest) → IsSound bytes (body_of f) × AreSigns rest
  sound-function (function f x o ps e q t b) rest all =
      let behind = sound-params 1 ps (plain symbol.CloseParen e ∷ plain symbol.Colon q ∷ spell_type 0 t (spell_block 0 b rest)) all.1.1.1 in
      sound-block 0 b rest (sound-type 0 t (spell_block 0 b rest) behind.1.1)

  pub sound-program : (p : Program) (rest : List Piece) → AreSigns (spell_program p rest) → IsSoundProgram bytes p × AreSigns rest
  sound-program no_functions rest all = (tt, all)
  sound-program (next_function p f) rest all =
      let before = sound-program p (spell_function f rest) all in
      let last = sound-function f rest before.1 in
      ((before.0, last.0), last.1)

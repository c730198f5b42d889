-- The machine reads what the grammar spells.
use Rattle.std.proofs.Common.{◌≡◌, ℕ, suc, List, ◌∷◌, Some, None, refl, sym, ap, ◌∙◌, eq-eqb, cond}
use Rattle.std.specs.Prelude.{option_and_then}
use Rattle.stab_parse.specs.declared.symbol.Span.{Span}
use Rattle.stab_parse.specs.declared.symbol.Symbol.{Symbol}
use Rattle.stab_parse.specs.declared.symbol.Symbol.TheVariants.{Name, Number, Greatest, Text, Truth, WordFn, WordLet, WordIf, WordElse, WordChan, Basic, Call, ActAlone, ActOne, ActTwo, OrOr, AndAnd, Relation, Plus, Minus, Product, Not, OpenParen, CloseParen, OpenBrace, CloseBrace, OpenBracket, CloseBracket, Comma, Semicolon, Colon, Equal}
use Rattle.stab_parse.specs.Grammar.{WrittenType, basic_type, chan_type, ref_type, pair_type, param, ParamList, one_param, next_param, Params, no_params, some_params, Callee, called, started, Block, block, block_with_last, Items, no_items, next_item, Item, let_item, form_item, Expr, one_and, or, And, one_cmp, and, Cmp, one_sum, compare, Sum, one_term, plus, minus, Term, one_unary, times, Unary, number, other, Other, literal, least, negate, not, primary, Primary, text, truth, variable, call, call_with, unit, group, pair, in_block, in_if, act, Args, one_arg, next_arg, If, if_then, if_else, if_else_if, Act, new_chan, act_one, act_two, act_alone, Function, function, Program, no_functions, next_function, Piece, plain, opener, spell_type, spell_param_list, spell_params, spell_callee, spell_block, spell_items, spell_item, spell_expr, spell_and, spell_cmp, spell_sum, spell_term, spell_unary, spell_other, spell_primary, spell_args, spell_if, spell_act, spell_function, spell_program}
use Rattle.stab_parse.proofs.Machine.{Opening, opening, first_param, later_param, RoundType, of_param, of_result, in_chan, in_ref, pair_left, pair_right, of_chan, RoundItems, items_in, RoundBlock, body, block_primary, then_block, else_block, RoundIf, if_primary, after_else, RoundExpr, group_in, second_in, first_arg, later_arg, one_in, two_left, two_right, let_value, item_in, condition, RoundAnd, first_and, after_or, RoundCmp, first_cmp, after_and, RoundSum, first_sum, after_compare, RoundTerm, first_term, after_plus, after_minus, RoundUnary, first_unary, after_times, after_not, RoundOther, no_sign, after_negate, open_block, open_if, open_expr, open_and, open_cmp, open_sum, open_term, open_unary, open_other, open_type, State, between, fn_named, params_open, param_owed, params_closed, owes_type, chan_type_read, ref_type_read, has_type, owes, signed, opened, named, call_open, word_named, alone_read, alone_open, one_read, two_read, chan_read, chan_typed, chan_open, in_items, then_read, else_read, open_of, unary_at, put, put_other, put_primary, put_if, put_block, sum_with, round_term, cmp_with, round_sum, and_with, round_cmp, expr_with, round_and, Move, goes, opens, close_paren, comma, ends_expr, ends_and, ends_cmp, ends_sum, ends_term, step_done, begin_other, step_owes, step_named, step_then, step, follow_plain, follow_opener, run, run_by, start}

-- ---- the state behind what was read

abbrev pub after_if : RoundIf → If → State
after_if c (if_then i e b) = then_read i e b c
after_if c (if_else i e b l d) = put_if c (if_else i e b l d)
after_if c (if_else_if i e b l f) = after_if (after_else i e b l c) f

abbrev pub after_primary : RoundOther → Primary → State
after_primary c (text p) = put_primary c (text p)
after_primary c (truth b p) = put_primary c (truth b p)
after_primary c (variable p) = named p c
after_primary c (call f o e) = put_primary c (call f o e)
after_primary c (call_with f o a e) = put_primary c (call_with f o a e)
after_primary c (unit o e) = put_primary c (unit o e)
after_primary c (group o x e) = put_primary c (group o x e)
after_primary c (pair o x m y e) = put_primary c (pair o x m y e)
after_primary c (in_block b) = put_primary c (in_block b)
after_primary c (in_if f) = after_if (if_primary c) f
after_primary c (act a) = put_primary c (act a)

abbrev mutual
  pub after_unary : RoundUnary → Unary → State
  after_unary c (number v p) = put c (number v p)
  after_unary c (other o) = after_other (no_sign c) o

  pub after_other : RoundOther → Other → State
  after_other c (literal m v p) = put_other c (literal m v p)
  after_other c (least m p) = put_other c (least m p)
  after_other c (negate m o) = after_other (after_negate m c) o
  after_other c (not p u) = after_unary (after_not p c) u
  after_other c (primary x) = after_primary c x

abbrev pub after_term : RoundTerm → Term → State
after_term c (one_unary u) = after_unary (first_unary c) u
after_term c (times t op p u) = after_unary (after_times t op p c) u

abbrev pub after_sum : RoundSum → Sum → State
after_sum c (one_term t) = after_term (first_term c) t
after_sum c (plus s p t) = after_term (after_plus s p c) t
after_sum c (minus s p t) = after_term (after_minus s p c) t

abbrev pub after_cmp : RoundCmp → Cmp → State
after_cmp c (one_sum s) = after_sum (first_sum c) s
after_cmp c (compare l op p s) = after_sum (after_compare l op p c) s

abbrev pub after_and_form : RoundAnd → And → State
after_and_form c (one_cmp m) = after_cmp (first_cmp c) m
after_and_form c (and a p m) = after_cmp (after_and a p c) m

abbrev pub after_expr : RoundExpr → Expr → State
after_expr c (one_and a) = after_and_form (first_and c) a
after_expr c (or e p a) = after_and_form (after_or e p c) a

-- ---- it ends there

-- tokens that may stand behind a whole term
abbrev Ends : Symbol → Type 0
Ends (Product op) = Unit {0}
Ends Plus = Unit {0}
Ends Minus = Unit {0}
Ends (Relation op) = Unit {0}
Ends AndAnd = Unit {0}
Ends OrOr = Unit {0}
Ends CloseParen = Unit {0}
Ends Comma = Unit {0}
Ends Semicolon = Unit {0}
Ends CloseBrace = Unit {0}
Ends OpenBrace = Unit {0}
Ends _ = ⊥

-- the other tokens than the operators of a term, of a sum and a comparison, of an and, of an or
abbrev IsNoProduct : Symbol → Type 0
IsNoProduct (Product op) = ⊥
IsNoProduct _ = Unit {0}

abbrev IsNoSum : Symbol → Type 0
IsNoSum Plus = ⊥
IsNoSum Minus = ⊥
IsNoSum (Relation op) = ⊥
IsNoSum _ = Unit {0}

abbrev IsNoAnd : Symbol → Type 0
IsNoAnd AndAnd = ⊥
IsNoAnd _ = Unit {0}

abbrev IsNoOr : Symbol → Type 0
IsNoOr OrOr = ⊥
IsNoOr _ = Unit {0}

mutual
  put_settled : (c : RoundUnary) (u : Unary) (k : Symbol) (p : Span) → step (put c u) k p ≡ step_done (put c u) k p
  put_settled (first_unary c) u k p = refl
  put_settled (after_times t op q c) u k p = refl
  put_settled (after_not q c) u k p = put_other_settled c (not q u) k p

  put_other_settled : (c : RoundOther) (o : Other) (k : Symbol) (p : Span) → step (put_other c o) k p ≡ step_done (put_other c o) k p
  put_other_settled (no_sign c) o k p = put_settled c (other o) k p
  put_other_settled (after_negate m c) o k p = put_other_settled c (negate m o) k p

put_if_settled : (c : RoundIf) (f : If) (k : Symbol) (p : Span) → step (put_if c f) k p ≡ step_done (put_if c f) k p
put_if_settled (if_primary c) f k p = put_other_settled c (primary (in_if f)) k p
put_if_settled (after_else i e b l c) f k p = put_if_settled c (if_else_if i e b l f) k p

named_settled : (x : Span) (c : RoundOther) (k : Symbol) (p : Span) → Ends k → step_named x c k p ≡ step_done (put_primary c (variable x)) k p
named_settled x c OpenParen p h = absurd h
named_settled x c k p h = refl

then_settled : (i : Span) (e : Expr) (b : Block) (c : RoundIf) (k : Symbol) (p : Span) → Ends k → step_then i e b c k p ≡ step_done (put_if c (if_then i e b)) k p
then_settled i e b c WordElse p h = absurd h
then_settled i e b c k p h = refl

if_settled : (c : RoundIf) (f : If) (k : Symbol) (p : Span) → Ends k → step (after_if c f) k p ≡ step_done (put_if c f) k p
if_settled c (if_then i e b) k p h = then_settled i e b c k p h
if_settled c (if_else i e b l d) k p h = put_if_settled c (if_else i e b l d) k p
if_settled c (if_else_if i e b l f) k p h = if_settled (after_else i e b l c) f k p h

primary_settled : (c : RoundOther) (x : Primary) (k : Symbol) (p : Span) → Ends k → step (after_primary c x) k p ≡ step_done (put_primary c x) k p
primary_settled c (text q) k p h = put_other_settled c (primary (text q)) k p
primary_settled c (truth b q) k p h = put_other_settled c (primary (truth b q)) k p
primary_settled c (variable x) k p h = named_settled x c k p h
primary_settled c (call f o e) k p h = put_other_settled c (primary (call f o e)) k p
primary_settled c (call_with f o a e) k p h = put_other_settled c (primary (call_with f o a e)) k p
primary_settled c (unit o e) k p h = put_other_settled c (primary (unit o e)) k p
primary_settled c (group o x e) k p h = put_other_settled c (primary (group o x e)) k p
primary_settled c (pair o x m y e) k p h = put_other_settled c (primary (pair o x m y e)) k p
primary_settled c (in_block b) k p h = put_other_settled c (primary (in_block b)) k p
primary_settled c (in_if f) k p h = if_settled (if_primary c) f k p h
primary_settled c (act a) k p h = put_other_settled c (primary (act a)) k p

mutual
  unary_settled : (c : RoundUnary) (u : Unary) (k : Symbol) (p : Span) → Ends k → step (after_unary c u) k p ≡ step_done (put c u) k p
  unary_settled c (number v q) k p h = put_settled c (number v q) k p
  unary_settled c (other o) k p h = other_settled (no_sign c) o k p h

  other_settled : (c : RoundOther) (o : Other) (k : Symbol) (p : Span) → Ends k → step (after_other c o) k p ≡ step_done (put_other c o) k p
  other_settled c (literal m v q) k p h = put_other_settled c (literal m v q) k p
  other_settled c (least m q) k p h = put_other_settled c (least m q) k p
  other_settled c (negate m o) k p h = other_settled (after_negate m c) o k p h
  other_settled c (not q u) k p h = unary_settled (after_not q c) u k p h
  other_settled c (primary x) k p h = primary_settled c x k p h

term_settled : (c : RoundTerm) (t : Term) (k : Symbol) (p : Span) → Ends k → step (after_term c t) k p ≡ ends_term c t k p
term_settled c (one_unary u) k p h = unary_settled (first_unary c) u k p h
term_settled c (times t op q u) k p h = unary_settled (after_times t op q c) u k p h

term_passes : (c : RoundTerm) (t : Term) (k : Symbol) (p : Span) → IsNoProduct k → ends_term c t k p ≡ ends_sum (round_term c) (sum_with c t) k p
term_passes c t (Product op) p h = absurd h
term_passes c t k p h = refl

sum_settled : (c : RoundSum) (s : Sum) (k : Symbol) (p : Span) → Ends k → IsNoProduct k → step (after_sum c s) k p ≡ ends_sum c s k p
sum_settled c (one_term t) k p h g = term_settled (first_term c) t k p h ∙ term_passes (first_term c) t k p g
sum_settled c (plus s q t) k p h g = term_settled (after_plus s q c) t k p h ∙ term_passes (after_plus s q c) t k p g
sum_settled c (minus s q t) k p h g = term_settled (after_minus s q c) t k p h ∙ term_passes (after_minus s q c) t k p g

sum_passes : (c : RoundSum) (s : Sum) (k : Symbol) (p : Span) → IsNoSum k → ends_sum c s k p ≡ ends_cmp (round_sum c) (cmp_with c s) k p
sum_passes c s Plus p h = absurd h
sum_passes c s Minus p h = absurd h
sum_passes c s (Relation op) p h = absurd h
sum_passes c s k p h = refl

cmp_settled : (c : RoundCmp) (m : Cmp) (k : Symbol) (p : Span) → Ends k → IsNoProduct k → IsNoSum k → step (after_cmp c m) k p ≡ ends_cmp c m k p
cmp_settled c (one_sum s) k p h g f = sum_settled (first_sum c) s k p h g ∙ sum_passes (first_sum c) s k p f
cmp_settled c (compare l op q s) k p h g f = sum_settled (after_compare l op q c) s k p h g ∙ sum_passes (after_compare l op q c) s k p f

cmp_passes : (c : RoundCmp) (m : Cmp) (k : Symbol) (p : Span) → IsNoAnd k → ends_cmp c m k p ≡ ends_and (round_cmp c) (and_with c m) k p
cmp_passes c m AndAnd p h = absurd h
cmp_passes c m k p h = refl

and_settled : (c : RoundAnd) (a : And) (k : Symbol) (p : Span) → Ends k → IsNoProduct k → IsNoSum k → IsNoAnd k → step (after_and_form c a) k p ≡ ends_and c a k p
and_settled c (one_cmp m) k p h g f e = cmp_settled (first_cmp c) m k p h g f ∙ cmp_passes (first_cmp c) m k p e
and_settled c (and a q m) k p h g f e = cmp_settled (after_and a q c) m k p h g f ∙ cmp_passes (after_and a q c) m k p e

and_passes : (c : RoundAnd) (a : And) (k : Symbol) (p : Span) → IsNoOr k → ends_and c a k p ≡ ends_expr (round_and c) (expr_with c a) k p
and_passes c a OrOr p h = absurd h
and_passes c a k p h = refl

-- a token that stands behind a whole expression
abbrev Closes : Symbol → Type 0
Closes k = Ends k × IsNoProduct k × IsNoSum k × IsNoAnd k × IsNoOr k

expr_settled : (c : RoundExpr) (e : Expr) (k : Symbol) (p : Span) → Closes k → step (after_expr c e) k p ≡ ends_expr c e k p
expr_settled c (one_and a) k p h = and_settled (first_and c) a k p h.0 h.1 h.2 h.3 ∙ and_passes (first_and c) a k p h.4
expr_settled c (or e q a) k p h = and_settled (after_or e q c) a k p h.0 h.1 h.2 h.3 ∙ and_passes (after_or e q c) a k p h.4

-- ---- how a run goes on

follows_opener : (n : ℕ) (m : Move) (next : State) → m ≡ opens next → open_of next ≡ n → follow_opener n m ≡ Some next
follows_opener n m next e h = ap (follow_opener n) e ∙ ap (λ b. cond b (Some next) None) (eq-eqb (open_of next) n h)

by_goes : (b : Symbol → Span → Move) (next : State) (k : Symbol) (p : Span) (rest : List Piece) → b k p ≡ goes next → run_by b (plain k p ∷ rest) ≡ run next rest
by_goes b next k p rest e = ap (λ m. option_and_then (λ s. run s rest) (follow_plain m)) e

by_opens : (b : Symbol → Span → Move) (next : State) (n : ℕ) (k : Symbol) (p : Span) (rest : List Piece) → b k p ≡ opens next → open_of next ≡ n → run_by b (opener n k p ∷ rest) ≡ run next rest
by_opens b next n k p rest e h = ap (λ o. option_and_then (λ s. run s rest) o) (follows_opener n (b k p) next e h)

-- ---- what begins an expression begins it wherever it may stand

abbrev BeginsOther : Symbol → Type 0
BeginsOther Minus = Unit {0}
BeginsOther Not = Unit {0}
BeginsOther Text = Unit {0}
BeginsOther (Truth b) = Unit {0}
BeginsOther Name = Unit {0}
BeginsOther (Call w) = Unit {0}
BeginsOther OpenParen = Unit {0}
BeginsOther OpenBrace = Unit {0}
BeginsOther WordIf = Unit {0}
BeginsOther WordChan = Unit {0}
BeginsOther (ActOne w) = Unit {0}
BeginsOther (ActTwo w) = Unit {0}
BeginsOther (ActAlone w) = Unit {0}
BeginsOther _ = ⊥

abbrev Begins : Symbol → Type 0
Begins (Number v) = Unit {0}
Begins k = BeginsOther k

like_plain : (m d : Move) (rest : List Piece) → m ≡ d → option_and_then (λ s. run s rest) (follow_plain m) ≡ option_and_then (λ s. run s rest) (follow_plain d)
like_plain m d rest e = ap (λ x. option_and_then (λ s. run s rest) (follow_plain x)) e

like_opener : (n : ℕ) (m d : Move) (rest : List Piece) → m ≡ d → option_and_then (λ s. run s rest) (follow_opener n m) ≡ option_and_then (λ s. run s rest) (follow_opener n d)
like_opener n m d rest e = ap (λ x. option_and_then (λ s. run s rest) (follow_opener n x)) e

module _ (st : State) (d : Symbol → Span → Move) (same : (k : Symbol) (p : Span) → BeginsOther k → step st k p ≡ d k p) where
  like_callee : (f : Callee) (rest : List Piece) → run st (spell_callee f rest) ≡ run_by d (spell_callee f rest)
  like_callee (called x) rest = like_plain (step st Name x) (d Name x) rest (same Name x tt)
  like_callee (started w q x) rest = like_plain (step st (Call w) q) (d (Call w) q) (plain Name x ∷ rest) (same (Call w) q tt)

  like_block : (n : ℕ) (b : Block) (rest : List Piece) → run st (spell_block n b rest) ≡ run_by d (spell_block n b rest)
  like_block n (block o is e) rest = like_opener (suc n) (step st OpenBrace o) (d OpenBrace o) _ (same OpenBrace o tt)
  like_block n (block_with_last o is x e) rest = like_opener (suc n) (step st OpenBrace o) (d OpenBrace o) _ (same OpenBrace o tt)

  like_if : (n : ℕ) (f : If) (rest : List Piece) → run st (spell_if n (plain WordIf) f rest) ≡ run_by d (spell_if n (plain WordIf) f rest)
  like_if n (if_then i e b) rest = like_plain (step st WordIf i) (d WordIf i) _ (same WordIf i tt)
  like_if n (if_else i e b l c) rest = like_plain (step st WordIf i) (d WordIf i) _ (same WordIf i tt)
  like_if n (if_else_if i e b l f) rest = like_plain (step st WordIf i) (d WordIf i) _ (same WordIf i tt)

  like_act : (n : ℕ) (a : Act) (rest : List Piece) → run st (spell_act n a rest) ≡ run_by d (spell_act n a rest)
  like_act n (new_chan c o t e p q) rest = like_plain (step st WordChan c) (d WordChan c) (opener (suc n) OpenBracket o ∷ spell_type (suc n) t (plain CloseBracket e ∷ opener (suc n) OpenParen p ∷ plain CloseParen q ∷ rest)) (same WordChan c tt)
  like_act n (act_one w p o x e) rest = like_plain (step st (ActOne w) p) (d (ActOne w) p) (opener (suc n) OpenParen o ∷ spell_expr (suc n) x (plain CloseParen e ∷ rest)) (same (ActOne w) p tt)
  like_act n (act_two w p o x m y e) rest = like_plain (step st (ActTwo w) p) (d (ActTwo w) p) (opener (suc n) OpenParen o ∷ spell_expr (suc n) x (plain Comma m ∷ spell_expr (suc n) y (plain CloseParen e ∷ rest))) (same (ActTwo w) p tt)
  like_act n (act_alone w p o e) rest = like_plain (step st (ActAlone w) p) (d (ActAlone w) p) (opener (suc n) OpenParen o ∷ plain CloseParen e ∷ rest) (same (ActAlone w) p tt)

  like_primary : (n : ℕ) (x : Primary) (rest : List Piece) → run st (spell_primary n x rest) ≡ run_by d (spell_primary n x rest)
  like_primary n (text p) rest = like_plain (step st Text p) (d Text p) rest (same Text p tt)
  like_primary n (truth b p) rest = like_plain (step st (Truth b) p) (d (Truth b) p) rest (same (Truth b) p tt)
  like_primary n (variable p) rest = like_plain (step st Name p) (d Name p) rest (same Name p tt)
  like_primary n (call f o e) rest = like_callee f (opener (suc n) OpenParen o ∷ plain CloseParen e ∷ rest)
  like_primary n (call_with f o a e) rest = like_callee f (opener (suc n) OpenParen o ∷ spell_args (suc n) a (plain CloseParen e ∷ rest))
  like_primary n (unit o e) rest = like_opener (suc n) (step st OpenParen o) (d OpenParen o) (plain CloseParen e ∷ rest) (same OpenParen o tt)
  like_primary n (group o x e) rest = like_opener (suc n) (step st OpenParen o) (d OpenParen o) (spell_expr (suc n) x (plain CloseParen e ∷ rest)) (same OpenParen o tt)
  like_primary n (pair o x m y e) rest = like_opener (suc n) (step st OpenParen o) (d OpenParen o) (spell_expr (suc n) x (plain Comma m ∷ spell_expr (suc n) y (plain CloseParen e ∷ rest))) (same OpenParen o tt)
  like_primary n (in_block b) rest = like_block n b rest
  like_primary n (in_if f) rest = like_if n f rest
  like_primary n (act a) rest = like_act n a rest

  like_other : (n : ℕ) (o : Other) (rest : List Piece) → run st (spell_other n o rest) ≡ run_by d (spell_other n o rest)
  like_other n (literal m v p) rest = like_opener (suc n) (step st Minus m) (d Minus m) (plain (Number v) p ∷ rest) (same Minus m tt)
  like_other n (least m p) rest = like_opener (suc n) (step st Minus m) (d Minus m) (plain Greatest p ∷ rest) (same Minus m tt)
  like_other n (negate m o) rest = like_opener (suc n) (step st Minus m) (d Minus m) (spell_other (suc n) o rest) (same Minus m tt)
  like_other n (not p u) rest = like_opener (suc n) (step st Not p) (d Not p) (spell_unary (suc n) u rest) (same Not p tt)
  like_other n (primary x) rest = like_primary n x rest

module _ (st : State) (c : RoundUnary) (same : (k : Symbol) (p : Span) → Begins k → step st k p ≡ step_owes c k p) where
  same_other : (k : Symbol) (p : Span) → BeginsOther k → step st k p ≡ begin_other (no_sign c) k p
  same_other (Number v) p h = absurd h
  same_other Greatest p h = absurd h
  same_other WordFn p h = absurd h
  same_other WordLet p h = absurd h
  same_other WordElse p h = absurd h
  same_other (Basic b) p h = absurd h
  same_other OrOr p h = absurd h
  same_other AndAnd p h = absurd h
  same_other (Relation op) p h = absurd h
  same_other Plus p h = absurd h
  same_other (Product op) p h = absurd h
  same_other CloseParen p h = absurd h
  same_other CloseBrace p h = absurd h
  same_other OpenBracket p h = absurd h
  same_other CloseBracket p h = absurd h
  same_other Comma p h = absurd h
  same_other Semicolon p h = absurd h
  same_other Colon p h = absurd h
  same_other Equal p h = absurd h
  same_other Minus p h = same Minus p tt
  same_other Not p h = same Not p tt
  same_other Text p h = same Text p tt
  same_other (Truth b) p h = same (Truth b) p tt
  same_other Name p h = same Name p tt
  same_other (Call w) p h = same (Call w) p tt
  same_other OpenParen p h = same OpenParen p tt
  same_other OpenBrace p h = same OpenBrace p tt
  same_other WordIf p h = same WordIf p tt
  same_other WordChan p h = same WordChan p tt
  same_other (ActOne w) p h = same (ActOne w) p tt
  same_other (ActTwo w) p h = same (ActTwo w) p tt
  same_other (ActAlone w) p h = same (ActAlone w) p tt

  owed_other : (k : Symbol) (p : Span) → BeginsOther k → step (owes c) k p ≡ begin_other (no_sign c) k p
  owed_other (Number v) p h = absurd h
  owed_other k p h = refl

  like_unary : (n : ℕ) (u : Unary) (rest : List Piece) → run st (spell_unary n u rest) ≡ run (owes c) (spell_unary n u rest)
  like_unary n (number v p) rest = like_plain (step st (Number v) p) (step_owes c (Number v) p) rest (same (Number v) p tt)
  like_unary n (other o) rest =
      like_other st (begin_other (no_sign c)) same_other n o rest ∙ sym (like_other (owes c) (begin_other (no_sign c)) owed_other n o rest)

  like_term : (n : ℕ) (t : Term) (rest : List Piece) → run st (spell_term n t rest) ≡ run (owes c) (spell_term n t rest)
  like_term n (one_unary u) rest = like_unary n u rest
  like_term n (times t op p u) rest = like_term n t (plain (Product op) p ∷ spell_unary n u rest)

  like_sum : (n : ℕ) (s : Sum) (rest : List Piece) → run st (spell_sum n s rest) ≡ run (owes c) (spell_sum n s rest)
  like_sum n (one_term t) rest = like_term n t rest
  like_sum n (plus s p t) rest = like_sum n s (plain Plus p ∷ spell_term n t rest)
  like_sum n (minus s p t) rest = like_sum n s (plain Minus p ∷ spell_term n t rest)

  like_cmp : (n : ℕ) (m : Cmp) (rest : List Piece) → run st (spell_cmp n m rest) ≡ run (owes c) (spell_cmp n m rest)
  like_cmp n (one_sum s) rest = like_sum n s rest
  like_cmp n (compare l op p s) rest = like_sum n l (plain (Relation op) p ∷ spell_sum n s rest)

  like_and : (n : ℕ) (a : And) (rest : List Piece) → run st (spell_and n a rest) ≡ run (owes c) (spell_and n a rest)
  like_and n (one_cmp m) rest = like_cmp n m rest
  like_and n (and a p m) rest = like_and n a (plain AndAnd p ∷ spell_cmp n m rest)

  like_expr : (n : ℕ) (e : Expr) (rest : List Piece) → run st (spell_expr n e rest) ≡ run (owes c) (spell_expr n e rest)
  like_expr n (one_and a) rest = like_and n a rest
  like_expr n (or e p a) rest = like_expr n e (plain OrOr p ∷ spell_and n a rest)

opened_like : (o : Span) (c : RoundOther) (k : Symbol) (p : Span) → Begins k → step (opened o c) k p ≡ step_owes (unary_at (group_in o c)) k p
opened_like o c CloseParen p h = absurd h
opened_like o c k p h = refl

call_open_like : (f : Callee) (o : Span) (c : RoundOther) (k : Symbol) (p : Span) → Begins k → step (call_open f o c) k p ≡ step_owes (unary_at (first_arg f o c)) k p
call_open_like f o c CloseParen p h = absurd h
call_open_like f o c k p h = refl

items_like : (c : RoundItems) (k : Symbol) (p : Span) → Begins k → step (in_items c) k p ≡ step_owes (unary_at (item_in c)) k p
items_like c WordLet p h = absurd h
items_like c CloseBrace p h = absurd h
items_like c k p h = refl

signed_like : (m : Span) (c : RoundOther) (k : Symbol) (p : Span) → BeginsOther k → step (signed m c) k p ≡ begin_other (after_negate m c) k p
signed_like m c (Number v) p h = absurd h
signed_like m c Greatest p h = absurd h
signed_like m c k p h = refl

owes_like : (c : RoundUnary) (k : Symbol) (p : Span) → BeginsOther k → step (owes c) k p ≡ begin_other (no_sign c) k p
owes_like c (Number v) p h = absurd h
owes_like c k p h = refl

-- ---- types

run_type : (t : WrittenType) (c : RoundType) (rest : List Piece) → run (owes_type c) (spell_type (open_type c) t rest) ≡ run (has_type c t) rest
run_type (basic_type b p) c rest = refl
run_type (chan_type w o t e) c rest =
    by_opens (step (chan_type_read w c)) (owes_type (in_chan w o c)) (suc (open_type c)) OpenBracket o (spell_type (suc (open_type c)) t (plain CloseBracket e ∷ rest)) refl refl
    ∙ run_type t (in_chan w o c) (plain CloseBracket e ∷ rest)
run_type (ref_type w o t e) c rest =
    by_opens (step (ref_type_read w c)) (owes_type (in_ref w o c)) (suc (open_type c)) OpenBracket o (spell_type (suc (open_type c)) t (plain CloseBracket e ∷ rest)) refl refl
    ∙ run_type t (in_ref w o c) (plain CloseBracket e ∷ rest)
run_type (pair_type o t m u e) c rest =
    by_opens (step (owes_type c)) (owes_type (pair_left o c)) (suc (open_type c)) OpenParen o (spell_type (suc (open_type c)) t (plain Comma m ∷ spell_type (suc (open_type c)) u (plain CloseParen e ∷ rest))) refl refl
    ∙ run_type t (pair_left o c) (plain Comma m ∷ spell_type (suc (open_type c)) u (plain CloseParen e ∷ rest))
    ∙ run_type u (pair_right o t m c) (plain CloseParen e ∷ rest)

-- ---- what is written between the brackets of a call

abbrev round_args : Callee → Span → Args → RoundOther → RoundExpr
round_args f o (one_arg e) c = first_arg f o c
round_args f o (next_arg a m e) c = later_arg f o a m c

abbrev last_arg : Args → Expr
last_arg (one_arg e) = e
last_arg (next_arg a m e) = e

close_args : (f : Callee) (o : Span) (a : Args) (c : RoundOther) (p : Span) → close_paren (round_args f o a c) (last_arg a) p ≡ goes (put_primary c (call_with f o a p))
close_args f o (one_arg e) c p = refl
close_args f o (next_arg a m e) c p = refl

comma_args : (f : Callee) (o : Span) (a : Args) (c : RoundOther) (p : Span) → comma (round_args f o a c) (last_arg a) p ≡ goes (owes (unary_at (later_arg f o a p c)))
comma_args f o (one_arg e) c p = refl
comma_args f o (next_arg a m e) c p = refl

abbrev Closed : Closes CloseParen
Closed = (tt, tt, tt, tt, tt)

or_after : (c : RoundExpr) (e : Expr) (p : Span) → step (after_expr c e) OrOr p ≡ goes (owes (first_unary (first_term (first_sum (first_cmp (after_or e p c))))))
or_after c (one_and a) p = and_settled (first_and c) a OrOr p tt tt tt tt
or_after c (or e q a) p = and_settled (after_or e q c) a OrOr p tt tt tt tt

and_after : (c : RoundAnd) (a : And) (p : Span) → step (after_and_form c a) AndAnd p ≡ goes (owes (first_unary (first_term (first_sum (after_and a p c)))))
and_after c (one_cmp m) p = cmp_settled (first_cmp c) m AndAnd p tt tt tt
and_after c (and a q m) p = cmp_settled (after_and a q c) m AndAnd p tt tt tt

-- a block and an if have a first token
block_by : (b : Block) (st : State) (n : ℕ) (rest : List Piece) → run st (spell_block n b rest) ≡ run_by (step st) (spell_block n b rest)
block_by (block o is e) st n rest = refl
block_by (block_with_last o is x e) st n rest = refl

if_by : (f : If) (st : State) (n : ℕ) (word : Span → Piece) (rest : List Piece) → run st (spell_if n word f rest) ≡ run_by (step st) (spell_if n word f rest)
if_by (if_then i e b) st n word rest = refl
if_by (if_else i e b l d) st n word rest = refl
if_by (if_else_if i e b l f) st n word rest = refl

-- a condition and the block behind it, if each is read
run_then : (i : Span) (e : Expr) (b : Block) (c : RoundIf) (rest : List Piece)
    → ((d : RoundExpr) (more : List Piece) → run (owes (unary_at d)) (spell_expr (open_expr d) e more) ≡ run (after_expr d e) more)
    → ((by : Symbol → Span → Move) (d : RoundBlock) (more : List Piece) → ((o : Span) → by OpenBrace o ≡ opens (in_items (items_in o no_items d))) → run_by by (spell_block (open_block d) b more) ≡ run (put_block d b) more)
    → run (owes (unary_at (condition i c))) (spell_expr (open_if c) e (spell_block (open_if c) b rest)) ≡ run (then_read i e b c) rest
run_then i e b c rest expr_runs block_runs =
    expr_runs (condition i c) (spell_block (open_if c) b rest)
    ∙ block_by b (after_expr (condition i c) e) (open_if c) rest
    ∙ block_runs (step (after_expr (condition i c) e)) (then_block i e c) rest (λ o. expr_settled (condition i c) e OpenBrace o Closed)

run_callee : (f : Callee) (c : RoundOther) (o : Span) (rest : List Piece) → run_by (begin_other c) (spell_callee f (opener (suc (open_other c)) OpenParen o ∷ rest)) ≡ run (call_open f o c) rest
run_callee (called x) c o rest = by_opens (step (named x c)) (call_open (called x) o c) (suc (open_other c)) OpenParen o rest refl refl
run_callee (started w q x) c o rest = by_opens (step (word_named w q x c)) (call_open (started w q x) o c) (suc (open_other c)) OpenParen o rest refl refl

-- ---- the run over what is spelled

mutual
  run_expr : (e : Expr) (c : RoundExpr) (rest : List Piece) → run (owes (unary_at c)) (spell_expr (open_expr c) e rest) ≡ run (after_expr c e) rest
  run_expr (one_and a) c rest = run_and a (first_and c) rest
  run_expr (or e p a) c rest =
      let next : RoundAnd = after_or e p c in
      run_expr e c (plain OrOr p ∷ spell_and (open_expr c) a rest)
      ∙ by_goes (step (after_expr c e)) (owes (first_unary (first_term (first_sum (first_cmp next))))) OrOr p (spell_and (open_expr c) a rest) (or_after c e p)
      ∙ run_and a (after_or e p c) rest

  run_and : (a : And) (c : RoundAnd) (rest : List Piece) → run (owes (first_unary (first_term (first_sum (first_cmp c))))) (spell_and (open_and c) a rest) ≡ run (after_and_form c a) rest
  run_and (one_cmp m) c rest = run_cmp m (first_cmp c) rest
  run_and (and a p m) c rest =
      run_and a c (plain AndAnd p ∷ spell_cmp (open_and c) m rest)
      ∙ by_goes (step (after_and_form c a)) (owes (first_unary (first_term (first_sum (after_and a p c))))) AndAnd p (spell_cmp (open_and c) m rest) (and_after c a p)
      ∙ run_cmp m (after_and a p c) rest

  run_cmp : (m : Cmp) (c : RoundCmp) (rest : List Piece) → run (owes (first_unary (first_term (first_sum c)))) (spell_cmp (open_cmp c) m rest) ≡ run (after_cmp c m) rest
  run_cmp (one_sum s) c rest = run_sum s (first_sum c) rest
  run_cmp (compare l op p s) c rest =
      run_sum l (first_sum c) (plain (Relation op) p ∷ spell_sum (open_cmp c) s rest)
      ∙ by_goes (step (after_sum (first_sum c) l)) (owes (first_unary (first_term (after_compare l op p c)))) (Relation op) p (spell_sum (open_cmp c) s rest) (sum_settled (first_sum c) l (Relation op) p tt tt)
      ∙ run_sum s (after_compare l op p c) rest

  run_sum : (s : Sum) (c : RoundSum) (rest : List Piece) → run (owes (first_unary (first_term c))) (spell_sum (open_sum c) s rest) ≡ run (after_sum c s) rest
  run_sum (one_term t) c rest = run_term t (first_term c) rest
  run_sum (plus s p t) c rest =
      run_sum s c (plain Plus p ∷ spell_term (open_sum c) t rest)
      ∙ by_goes (step (after_sum c s)) (owes (first_unary (after_plus s p c))) Plus p (spell_term (open_sum c) t rest) (sum_settled c s Plus p tt tt)
      ∙ run_term t (after_plus s p c) rest
  run_sum (minus s p t) c rest =
      run_sum s c (plain Minus p ∷ spell_term (open_sum c) t rest)
      ∙ by_goes (step (after_sum c s)) (owes (first_unary (after_minus s p c))) Minus p (spell_term (open_sum c) t rest) (sum_settled c s Minus p tt tt)
      ∙ run_term t (after_minus s p c) rest

  run_term : (t : Term) (c : RoundTerm) (rest : List Piece) → run (owes (first_unary c)) (spell_term (open_term c) t rest) ≡ run (after_term c t) rest
  run_term (one_unary u) c rest = run_unary u (first_unary c) rest
  run_term (times t op p u) c rest =
      run_term t c (plain (Product op) p ∷ spell_unary (open_term c) u rest)
      ∙ by_goes (step (after_term c t)) (owes (after_times t op p c)) (Product op) p (spell_unary (open_term c) u rest) (term_settled c t (Product op) p tt)
      ∙ run_unary u (after_times t op p c) rest

  run_unary : (u : Unary) (c : RoundUnary) (rest : List Piece) → run (owes c) (spell_unary (open_unary c) u rest) ≡ run (after_unary c u) rest
  run_unary (number v p) c rest = refl
  run_unary (other o) c rest = like_other (owes c) (begin_other (no_sign c)) (owes_like c) (open_unary c) o rest ∙ run_other o (no_sign c) rest

  run_other : (o : Other) (c : RoundOther) (rest : List Piece) → run_by (begin_other c) (spell_other (open_other c) o rest) ≡ run (after_other c o) rest
  run_other (literal m v p) c rest = by_opens (begin_other c) (signed m c) (suc (open_other c)) Minus m (plain (Number v) p ∷ rest) refl refl
  run_other (least m p) c rest = by_opens (begin_other c) (signed m c) (suc (open_other c)) Minus m (plain Greatest p ∷ rest) refl refl
  run_other (negate m o) c rest =
      by_opens (begin_other c) (signed m c) (suc (open_other c)) Minus m (spell_other (suc (open_other c)) o rest) refl refl
      ∙ like_other (signed m c) (begin_other (after_negate m c)) (signed_like m c) (suc (open_other c)) o rest
      ∙ run_other o (after_negate m c) rest
  run_other (not p u) c rest =
      by_opens (begin_other c) (owes (after_not p c)) (suc (open_other c)) Not p (spell_unary (suc (open_other c)) u rest) refl refl
      ∙ run_unary u (after_not p c) rest
  run_other (primary x) c rest = run_primary x c rest

  run_primary : (x : Primary) (c : RoundOther) (rest : List Piece) → run_by (begin_other c) (spell_primary (open_other c) x rest) ≡ run (after_primary c x) rest
  run_primary (text p) c rest = refl
  run_primary (truth b p) c rest = refl
  run_primary (variable p) c rest = refl
  run_primary (call f o e) c rest = run_callee f c o (plain CloseParen e ∷ rest)
  run_primary (call_with f o a e) c rest =
      run_callee f c o (spell_args (suc (open_other c)) a (plain CloseParen e ∷ rest))
      ∙ run_args a f o c (plain CloseParen e ∷ rest)
      ∙ by_goes (step (after_expr (round_args f o a c) (last_arg a))) (put_primary c (call_with f o a e)) CloseParen e rest
      (expr_settled (round_args f o a c) (last_arg a) CloseParen e Closed ∙ close_args f o a c e)
  run_primary (unit o e) c rest = by_opens (begin_other c) (opened o c) (suc (open_other c)) OpenParen o (plain CloseParen e ∷ rest) refl refl
  run_primary (group o x e) c rest =
      by_opens (begin_other c) (opened o c) (suc (open_other c)) OpenParen o (spell_expr (suc (open_other c)) x (plain CloseParen e ∷ rest)) refl refl
      ∙ like_expr (opened o c) (unary_at (group_in o c)) (opened_like o c) (suc (open_other c)) x (plain CloseParen e ∷ rest)
      ∙ run_expr x (group_in o c) (plain CloseParen e ∷ rest)
      ∙ by_goes (step (after_expr (group_in o c) x)) (put_primary c (group o x e)) CloseParen e rest (expr_settled (group_in o c) x CloseParen e Closed)
  run_primary (pair o x m y e) c rest =
      let behind : List Piece = spell_expr (suc (open_other c)) y (plain CloseParen e ∷ rest) in
      by_opens (begin_other c) (opened o c) (suc (open_other c)) OpenParen o (spell_expr (suc (open_other c)) x (plain Comma m ∷ behind)) refl refl
      ∙ like_expr (opened o c) (unary_at (group_in o c)) (opened_like o c) (suc (open_other c)) x (plain Comma m ∷ behind)
      ∙ run_expr x (group_in o c) (plain Comma m ∷ behind)
      ∙ by_goes (step (after_expr (group_in o c) x)) (owes (unary_at (second_in o x m c))) Comma m behind (expr_settled (group_in o c) x Comma m Closed)
      ∙ run_expr y (second_in o x m c) (plain CloseParen e ∷ rest)
      ∙ by_goes (step (after_expr (second_in o x m c) y)) (put_primary c (pair o x m y e)) CloseParen e rest (expr_settled (second_in o x m c) y CloseParen e Closed)
  run_primary (in_block b) c rest = run_block b (begin_other c) (block_primary c) rest (λ o. refl)
  run_primary (in_if f) c rest = run_if f (begin_other c) (plain WordIf) (if_primary c) rest (λ i more. refl)
  run_primary (act a) c rest = run_act a c rest

  run_args : (a : Args) (f : Callee) (o : Span) (c : RoundOther) (rest : List Piece) → run (call_open f o c) (spell_args (suc (open_other c)) a rest) ≡ run (after_expr (round_args f o a c) (last_arg a)) rest
  run_args (one_arg e) f o c rest =
      like_expr (call_open f o c) (unary_at (first_arg f o c)) (call_open_like f o c) (suc (open_other c)) e rest ∙ run_expr e (first_arg f o c) rest
  run_args (next_arg a m e) f o c rest =
      run_args a f o c (plain Comma m ∷ spell_expr (suc (open_other c)) e rest)
      ∙ by_goes (step (after_expr (round_args f o a c) (last_arg a))) (owes (unary_at (later_arg f o a m c))) Comma m (spell_expr (suc (open_other c)) e rest)
      (expr_settled (round_args f o a c) (last_arg a) Comma m Closed ∙ comma_args f o a c m)
      ∙ run_expr e (later_arg f o a m c) rest

  run_act : (a : Act) (c : RoundOther) (rest : List Piece) → run_by (begin_other c) (spell_act (open_other c) a rest) ≡ run (put_primary c (act a)) rest
  run_act (new_chan w o t e p q) c rest =
      let n : ℕ = suc (open_other c) in
      let behind : List Piece = plain CloseBracket e ∷ opener n OpenParen p ∷ plain CloseParen q ∷ rest in
      by_opens (step (chan_read w c)) (owes_type (of_chan w o c)) n OpenBracket o (spell_type n t behind) refl refl
      ∙ run_type t (of_chan w o c) behind
      ∙ by_opens (step (chan_typed w o t e c)) (chan_open w o t e p c) n OpenParen p (plain CloseParen q ∷ rest) refl refl
  run_act (act_one w p o x e) c rest =
      by_opens (step (one_read w p c)) (owes (unary_at (one_in w p o c))) (suc (open_other c)) OpenParen o (spell_expr (suc (open_other c)) x (plain CloseParen e ∷ rest)) refl refl
      ∙ run_expr x (one_in w p o c) (plain CloseParen e ∷ rest)
      ∙ by_goes (step (after_expr (one_in w p o c) x)) (put_primary c (act (act_one w p o x e))) CloseParen e rest (expr_settled (one_in w p o c) x CloseParen e Closed)
  run_act (act_two w p o x m y e) c rest =
      let behind : List Piece = spell_expr (suc (open_other c)) y (plain CloseParen e ∷ rest) in
      by_opens (step (two_read w p c)) (owes (unary_at (two_left w p o c))) (suc (open_other c)) OpenParen o (spell_expr (suc (open_other c)) x (plain Comma m ∷ behind)) refl refl
      ∙ run_expr x (two_left w p o c) (plain Comma m ∷ behind)
      ∙ by_goes (step (after_expr (two_left w p o c) x)) (owes (unary_at (two_right w p o x m c))) Comma m behind (expr_settled (two_left w p o c) x Comma m Closed)
      ∙ run_expr y (two_right w p o x m c) (plain CloseParen e ∷ rest)
      ∙ by_goes (step (after_expr (two_right w p o x m c) y)) (put_primary c (act (act_two w p o x m y e))) CloseParen e rest (expr_settled (two_right w p o x m c) y CloseParen e Closed)
  run_act (act_alone w p o e) c rest =
      by_opens (step (alone_read w p c)) (alone_open w p o c) (suc (open_other c)) OpenParen o (plain CloseParen e ∷ rest) refl refl

  -- where a step opens the block
  run_block : (b : Block) (by : Symbol → Span → Move) (c : RoundBlock) (rest : List Piece) → ((o : Span) → by OpenBrace o ≡ opens (in_items (items_in o no_items c))) → run_by by (spell_block (open_block c) b rest) ≡ run (put_block c b) rest
  run_block (block o is e) by c rest h =
      let n : ℕ = suc (open_block c) in
      by_opens by (in_items (items_in o no_items c)) n OpenBrace o (spell_items n is (plain CloseBrace e ∷ rest)) (h o) refl
      ∙ run_items is o c (plain CloseBrace e ∷ rest)
  run_block (block_with_last o is x e) by c rest h =
      let n : ℕ = suc (open_block c) in
      by_opens by (in_items (items_in o no_items c)) n OpenBrace o (spell_items n is (spell_expr n x (plain CloseBrace e ∷ rest))) (h o) refl
      ∙ run_items is o c (spell_expr n x (plain CloseBrace e ∷ rest))
      ∙ like_expr (in_items (items_in o is c)) (unary_at (item_in (items_in o is c))) (items_like (items_in o is c)) n x (plain CloseBrace e ∷ rest)
      ∙ run_expr x (item_in (items_in o is c)) (plain CloseBrace e ∷ rest)
      ∙ by_goes (step (after_expr (item_in (items_in o is c)) x)) (put_block c (block_with_last o is x e)) CloseBrace e rest (expr_settled (item_in (items_in o is c)) x CloseBrace e Closed)

  run_items : (is : Items) (o : Span) (c : RoundBlock) (rest : List Piece) → run (in_items (items_in o no_items c)) (spell_items (suc (open_block c)) is rest) ≡ run (in_items (items_in o is c)) rest
  run_items no_items o c rest = refl
  run_items (next_item is i e) o c rest = run_items is o c (spell_item (suc (open_block c)) i (plain Semicolon e ∷ rest)) ∙ run_item i e o is c rest

  run_item : (i : Item) (e o : Span) (is : Items) (c : RoundBlock) (rest : List Piece) → run (in_items (items_in o is c)) (spell_item (suc (open_block c)) i (plain Semicolon e ∷ rest)) ≡ run (in_items (items_in o (next_item is i e) c)) rest
  run_item (let_item l x q v) e o is c rest =
      run_expr v (let_value l x q (items_in o is c)) (plain Semicolon e ∷ rest)
      ∙ by_goes (step (after_expr (let_value l x q (items_in o is c)) v)) (in_items (items_in o (next_item is (let_item l x q v) e) c)) Semicolon e rest
      (expr_settled (let_value l x q (items_in o is c)) v Semicolon e Closed)
  run_item (form_item v) e o is c rest =
      like_expr (in_items (items_in o is c)) (unary_at (item_in (items_in o is c))) (items_like (items_in o is c)) (suc (open_block c)) v (plain Semicolon e ∷ rest)
      ∙ run_expr v (item_in (items_in o is c)) (plain Semicolon e ∷ rest)
      ∙ by_goes (step (after_expr (item_in (items_in o is c)) v)) (in_items (items_in o (next_item is (form_item v) e) c)) Semicolon e rest
      (expr_settled (item_in (items_in o is c)) v Semicolon e Closed)

  -- where a step takes the word
  run_if : (f : If) (by : Symbol → Span → Move) (word : Span → Piece) (c : RoundIf) (rest : List Piece) → ((i : Span) (more : List Piece) → run_by by (word i ∷ more) ≡ run (owes (unary_at (condition i c))) more) → run_by by (spell_if (open_if c) word f rest) ≡ run (after_if c f) rest
  run_if (if_then i e b) by word c rest h = h i (spell_expr (open_if c) e (spell_block (open_if c) b rest)) ∙ run_then i e b c rest (run_expr e) (run_block b)
  run_if (if_else i e b l d) by word c rest h =
      let behind : List Piece = plain WordElse l ∷ spell_block (open_if c) d rest in
      h i (spell_expr (open_if c) e (spell_block (open_if c) b behind))
      ∙ run_then i e b c behind (run_expr e) (run_block b)
      ∙ block_by d (else_read i e b l c) (open_if c) rest
      ∙ run_block d (step (else_read i e b l c)) (else_block i e b l c) rest (λ o. refl)
  run_if (if_else_if i e b l f) by word c rest h =
      let behind : List Piece = plain WordElse l ∷ spell_if (suc (open_if c)) (opener (suc (open_if c)) WordIf) f rest in
      h i (spell_expr (open_if c) e (spell_block (open_if c) b behind))
      ∙ run_then i e b c behind (run_expr e) (run_block b)
      ∙ if_by f (else_read i e b l c) (suc (open_if c)) (opener (suc (open_if c)) WordIf) rest
      ∙ run_if f (step (else_read i e b l c)) (opener (suc (open_if c)) WordIf) (after_else i e b l c) rest
      (λ j more. by_opens (step (else_read i e b l c)) (owes (unary_at (condition j (after_else i e b l c)))) (suc (open_if c)) WordIf j more refl refl)

-- ---- functions

abbrev round_params : Opening → ParamList → RoundType
round_params o (one_param (param x q t)) = of_param (first_param o) x q
round_params o (next_param xs m (param x q t)) = of_param (later_param o xs m) x q

abbrev last_type : ParamList → WrittenType
last_type (one_param (param x q t)) = t
last_type (next_param xs m (param x q t)) = t

comma_params : (o : Opening) (xs : ParamList) (p : Span) → step (has_type (round_params o xs) (last_type xs)) Comma p ≡ goes (param_owed o xs p)
comma_params o (one_param (param x q t)) p = refl
comma_params o (next_param xs m (param x q t)) p = refl

close_params : (o : Opening) (xs : ParamList) (p : Span) → step (has_type (round_params o xs) (last_type xs)) CloseParen p ≡ goes (params_closed o (some_params xs) p)
close_params o (one_param (param x q t)) p = refl
close_params o (next_param xs m (param x q t)) p = refl

run_param_list : (xs : ParamList) (o : Opening) (rest : List Piece) → run (params_open o) (spell_param_list 1 xs rest) ≡ run (has_type (round_params o xs) (last_type xs)) rest
run_param_list (one_param (param x q t)) o rest = run_type t (of_param (first_param o) x q) rest
run_param_list (next_param xs m (param x q t)) o rest =
    run_param_list xs o (plain Comma m ∷ plain Name x ∷ plain Colon q ∷ spell_type 1 t rest)
    ∙ by_goes (step (has_type (round_params o xs) (last_type xs))) (param_owed o xs m) Comma m (plain Name x ∷ plain Colon q ∷ spell_type 1 t rest) (comma_params o xs m)
    ∙ run_type t (of_param (later_param o xs m) x q) rest

run_params : (ps : Params) (o : Opening) (e : Span) (rest : List Piece) → run (params_open o) (spell_params 1 ps (plain CloseParen e ∷ rest)) ≡ run (params_closed o ps e) rest
run_params no_params o e rest = refl
run_params (some_params xs) o e rest =
    run_param_list xs o (plain CloseParen e ∷ rest)
    ∙ by_goes (step (has_type (round_params o xs) (last_type xs))) (params_closed o (some_params xs) e) CloseParen e rest (close_params o xs e)

run_function : (f : Function) (before : Program) (rest : List Piece) → run (between before) (spell_function f rest) ≡ run (between (next_function before f)) rest
run_function (function f x o ps e q t b) before rest =
    let top : Opening = opening before f x o in
    let behind : List Piece = spell_type 0 t (spell_block 0 b rest) in
    by_opens (step (fn_named before f x)) (params_open top) 1 OpenParen o (spell_params 1 ps (plain CloseParen e ∷ plain Colon q ∷ behind)) refl refl
    ∙ run_params ps top e (plain Colon q ∷ behind)
    ∙ run_type t (of_result top ps e q) (spell_block 0 b rest)
    ∙ block_by b (has_type (of_result top ps e q) t) 0 rest
    ∙ run_block b (step (has_type (of_result top ps e q) t)) (body top ps e q t) rest (λ p. refl)

pub run_program : (p : Program) (rest : List Piece) → run start (spell_program p rest) ≡ run (between p) rest
run_program no_functions rest = refl
run_program (next_function p f) rest = run_program p (spell_function f rest) ∙ run_function f p rest

-- What the written program means, as forms. A form is its first byte, its head and its parts.
use Rattle.std.specs.Prelude.{ℕ, ◌^◌, pos, neg_ℤ, if◌then◌else◌, List, [], ◌∷◌, ◌++◌, Option, Some, None, is_some}
use Rattle.std.specs.List.{list_any}
use Rattle.stab_code.specs.declared.head.Op.TheVariants as op
use Rattle.stab_code.specs.Written.{Written}
use Rattle.stab_code.specs.Written as written
use Rattle.stab_parse.specs.declared.symbol.BasicType.{BasicType}
use Rattle.stab_parse.specs.declared.symbol.BasicType.TheVariants as basic
use Rattle.stab_parse.specs.declared.symbol.Span.{Span}
use Rattle.stab_parse.specs.declared.tree.Head.{Head}
use Rattle.stab_parse.specs.declared.tree.Head.TheVariants as head
use Rattle.stab_parse.specs.Grammar.{WrittenType, basic_type, chan_type, ref_type, pair_type, Callee, called, started, Block, block, block_with_last, Items, no_items, next_item, Item, let_item, form_item, Expr, one_and, or, And, one_cmp, and, Cmp, one_sum, compare, Sum, one_term, plus, minus, Term, one_unary, times, Unary, number, other, Other, literal, least, negate, not, primary, Primary, text, truth, variable, call, call_with, unit, group, pair, in_block, in_if, act, Args, one_arg, next_arg, If, if_then, if_else, if_else_if, Act, new_chan, act_one, act_two, act_alone, Function, function}

mutual
  pub data Form : Type 0 where
    form : ℕ → Head → Parts → Form

  -- forms from left to right
  pub data Parts : Type 0 where
    no_parts : Parts
    next_part : Parts → Form → Parts

abbrev pub leaf : ℕ → Head → Form
leaf at h = form at h no_parts

abbrev pub one : Form → Parts
one a = next_part no_parts a

abbrev pub two : Form → Form → Parts
two a b = next_part (one a) b

abbrev pub three : Form → Form → Form → Parts
three a b c = next_part (two a b) c

-- the written type
abbrev pub basic_of : BasicType → Written
basic_of basic.Unit = written.unit_type
basic_of basic.Bool = written.bool_type
basic_of basic.Int = written.int_type
basic_of basic.Text = written.text_type

abbrev pub type_of : WrittenType → Written
type_of (basic_type b p) = basic_of b
type_of (chan_type w o t e) = written.chan_type (type_of t)
type_of (ref_type w o t e) = written.ref_type (type_of t)
type_of (pair_type o t m u e) = written.pair_type (type_of t) (type_of u)

-- the first byte of what is written
abbrev pub first_of_callee : Callee → ℕ
first_of_callee (called f) = f.start
first_of_callee (started w p f) = p.start

abbrev pub first_of_block : Block → ℕ
first_of_block (block o is e) = o.start
first_of_block (block_with_last o is x e) = o.start

abbrev pub first_of_if : If → ℕ
first_of_if (if_then i e b) = i.start
first_of_if (if_else i e b l d) = i.start
first_of_if (if_else_if i e b l f) = i.start

abbrev pub first_of_act : Act → ℕ
first_of_act (new_chan c o t e p q) = c.start
first_of_act (act_one w p o x e) = p.start
first_of_act (act_two w p o x m y e) = p.start
first_of_act (act_alone w p o e) = p.start

abbrev pub first_of_primary : Primary → ℕ
first_of_primary (text p) = p.start
first_of_primary (truth b p) = p.start
first_of_primary (variable p) = p.start
first_of_primary (call f o e) = first_of_callee f
first_of_primary (call_with f o a e) = first_of_callee f
first_of_primary (unit o e) = o.start
first_of_primary (group o x e) = o.start
first_of_primary (pair o x m y e) = o.start
first_of_primary (in_block b) = first_of_block b
first_of_primary (in_if f) = first_of_if f
first_of_primary (act a) = first_of_act a

abbrev pub first_of_other : Other → ℕ
first_of_other (literal m v p) = m.start
first_of_other (least m p) = m.start
first_of_other (negate m o) = m.start
first_of_other (not p u) = p.start
first_of_other (primary x) = first_of_primary x

abbrev pub first_of_unary : Unary → ℕ
first_of_unary (number v p) = p.start
first_of_unary (other o) = first_of_other o

abbrev pub first_of_term : Term → ℕ
first_of_term (one_unary u) = first_of_unary u
first_of_term (times t o p u) = first_of_term t

abbrev pub first_of_sum : Sum → ℕ
first_of_sum (one_term t) = first_of_term t
first_of_sum (plus s p t) = first_of_sum s
first_of_sum (minus s p t) = first_of_sum s

abbrev pub first_of_cmp : Cmp → ℕ
first_of_cmp (one_sum s) = first_of_sum s
first_of_cmp (compare l o p s) = first_of_sum l

abbrev pub first_of_and : And → ℕ
first_of_and (one_cmp m) = first_of_cmp m
first_of_and (and a p m) = first_of_and a

abbrev pub first_of_expr : Expr → ℕ
first_of_expr (one_and a) = first_of_and a
first_of_expr (or e p a) = first_of_expr e

-- the name of an item, if it is a let
abbrev pub name_of : Item → Option Span
name_of (let_item l x q e) = Some x
name_of (form_item e) = None

abbrev pub names_of : Items → List (Option Span)
names_of no_items = []
names_of (next_item is i m) = names_of is ++ name_of i ∷ []

-- the head of a block whose items have these names: it keeps them just where one of the items is a let
abbrev pub head_of_block : List (Option Span) → Head
head_of_block names = if list_any is_some names then head.LetBlock names else head.Block

-- a call of the name
abbrev pub head_of_callee : Callee → Head
head_of_callee (called f) = head.Call f
head_of_callee (started w p f) = head.Start w f

-- what `{ items last }` is: the last form alone where there are no items
abbrev pub block_form : ℕ → Items → Parts → Form → Form
block_form at no_items parts last = last
block_form at (next_item is i m) parts last = form at (head_of_block (names_of (next_item is i m))) (next_part parts last)

-- The forms. Brackets round an expression add nothing; `{}`, a missing last form and a missing else are unit.
abbrev mutual
  pub form_of_block : Block → Form
  form_of_block (block o no_items e) = leaf o.start head.Unit
  form_of_block (block o (next_item is i m) e) = block_form o.start (next_item is i m) (parts_of_items (next_item is i m)) (leaf e.start head.Unit)
  form_of_block (block_with_last o is x e) = block_form o.start is (parts_of_items is) (form_of_expr x)

  pub parts_of_items : Items → Parts
  parts_of_items no_items = no_parts
  parts_of_items (next_item is i m) = next_part (parts_of_items is) (form_of_item i)

  pub form_of_item : Item → Form
  form_of_item (let_item l x q e) = form_of_expr e
  form_of_item (form_item e) = form_of_expr e

  pub form_of_expr : Expr → Form
  form_of_expr (one_and a) = form_of_and a
  form_of_expr (or e p a) = form (first_of_expr e) (head.Two op.Or) (two (form_of_expr e) (form_of_and a))

  pub form_of_and : And → Form
  form_of_and (one_cmp m) = form_of_cmp m
  form_of_and (and a p m) = form (first_of_and a) (head.Two op.And) (two (form_of_and a) (form_of_cmp m))

  pub form_of_cmp : Cmp → Form
  form_of_cmp (one_sum s) = form_of_sum s
  form_of_cmp (compare l o p s) = form (first_of_sum l) (head.Two o) (two (form_of_sum l) (form_of_sum s))

  pub form_of_sum : Sum → Form
  form_of_sum (one_term t) = form_of_term t
  form_of_sum (plus s p t) = form (first_of_sum s) (head.Two op.Add) (two (form_of_sum s) (form_of_term t))
  form_of_sum (minus s p t) = form (first_of_sum s) (head.Two op.Sub) (two (form_of_sum s) (form_of_term t))

  pub form_of_term : Term → Form
  form_of_term (one_unary u) = form_of_unary u
  form_of_term (times t o p u) = form (first_of_term t) (head.Two o) (two (form_of_term t) (form_of_unary u))

  pub form_of_unary : Unary → Form
  form_of_unary (number v p) = leaf p.start (head.Int (pos v))
  form_of_unary (other o) = form_of_other o

  pub form_of_other : Other → Form
  form_of_other (literal m v p) = leaf m.start (head.Int (neg_ℤ (pos v)))
  form_of_other (least m p) = leaf m.start (head.Int (neg_ℤ (pos (2 ^ 63))))
  form_of_other (negate m o) = form m.start head.Neg (one (form_of_other o))
  form_of_other (not p u) = form p.start head.Not (one (form_of_unary u))
  form_of_other (primary x) = form_of_primary x

  pub form_of_primary : Primary → Form
  form_of_primary (text p) = leaf p.start (head.Text p)
  form_of_primary (truth b p) = leaf p.start (head.Truth b)
  form_of_primary (variable p) = leaf p.start (head.Variable p)
  form_of_primary (call f o e) = leaf (first_of_callee f) (head_of_callee f)
  form_of_primary (call_with f o a e) = form (first_of_callee f) (head_of_callee f) (parts_of_args a)
  form_of_primary (unit o e) = leaf o.start head.Unit
  form_of_primary (group o x e) = form_of_expr x
  form_of_primary (pair o x m y e) = form o.start head.Pair (two (form_of_expr x) (form_of_expr y))
  form_of_primary (in_block b) = form_of_block b
  form_of_primary (in_if f) = form_of_if f
  form_of_primary (act a) = form_of_act a

  pub parts_of_args : Args → Parts
  parts_of_args (one_arg e) = one (form_of_expr e)
  parts_of_args (next_arg a m e) = next_part (parts_of_args a) (form_of_expr e)

  pub form_of_if : If → Form
  form_of_if (if_then i e b) = form i.start head.If (three (form_of_expr e) (form_of_block b) (leaf i.start head.Unit))
  form_of_if (if_else i e b l d) = form i.start head.If (three (form_of_expr e) (form_of_block b) (form_of_block d))
  form_of_if (if_else_if i e b l f) = form i.start head.If (three (form_of_expr e) (form_of_block b) (form_of_if f))

  pub form_of_act : Act → Form
  form_of_act (new_chan c o t e p q) = leaf c.start (head.NewChan (type_of t))
  form_of_act (act_one w p o x e) = form p.start (head.Act w) (one (form_of_expr x))
  form_of_act (act_two w p o x m y e) = form p.start (head.Act w) (two (form_of_expr x) (form_of_expr y))
  form_of_act (act_alone w p o e) = leaf p.start (head.Act w)

abbrev pub body_of : Function → Form
body_of (function f x o ps e q t b) = form_of_block b

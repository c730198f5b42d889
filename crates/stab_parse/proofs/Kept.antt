-- What a parser keeps of a state of the machine.
use Rattle.std.proofs.Common.{ℕ, List, [], ◌∷◌, ◌++◌, length, max, Option, None}
use Rattle.stab_code.specs.declared.head.Op.TheVariants as op
use Rattle.stab_parse.specs.declared.frame.BlockPlace.{BlockPlace}
use Rattle.stab_parse.specs.declared.frame.BlockPlace.TheVariants as place
use Rattle.stab_parse.specs.declared.frame.Callee as kept_callee
use Rattle.stab_parse.specs.declared.frame.Callee.TheVariants as callee
use Rattle.stab_parse.specs.declared.frame.Frame.TheVariants as frame
use Rattle.stab_parse.specs.declared.frame.Level.TheVariants as level
use Rattle.stab_parse.specs.declared.frame.Phase.{Phase}
use Rattle.stab_parse.specs.declared.frame.Phase.TheVariants as phase
use Rattle.stab_parse.specs.Seen.{Seen}
use Rattle.stab_parse.specs.declared.reader.Reader.{Reader}
use Rattle.stab_parse.specs.declared.symbol.Span.{Span}
use Rattle.stab_parse.specs.declared.tree.FormNode.{FormNode}
use Rattle.stab_parse.specs.declared.tree.Function as kept_function
use Rattle.stab_parse.specs.declared.tree.Param as kept_param
use Rattle.stab_parse.specs.FormList.{count_of, param_list_of, params_of, function_of}
use Rattle.stab_parse.specs.Forms.{Form, form, Parts, no_parts, next_part, type_of, names_of, body_of, form_of_block, parts_of_items, form_of_expr, form_of_and, form_of_sum, form_of_term, parts_of_args, first_of_term, first_of_sum, first_of_and, first_of_expr}
use Rattle.stab_parse.specs.Grammar.{Callee, called, started, Block, Expr, Program, no_functions, next_function}
use Rattle.stab_parse.proofs.Machine.{Opening, opening, RoundParam, first_param, later_param, RoundType, of_param, of_result, in_chan, in_ref, pair_left, pair_right, of_chan, RoundItems, items_in, RoundBlock, body, block_primary, then_block, else_block, RoundIf, if_primary, after_else, RoundExpr, group_in, second_in, first_arg, later_arg, one_in, two_left, two_right, let_value, item_in, condition, RoundAnd, first_and, after_or, RoundCmp, first_cmp, after_and, RoundSum, first_sum, after_compare, RoundTerm, first_term, after_plus, after_minus, RoundUnary, first_unary, after_times, after_not, RoundOther, no_sign, after_negate, open_items, open_block, open_if, open_expr, open_and, open_cmp, open_sum, open_term, open_unary, open_other, open_type, State, fn_read, fn_named, params_open, param_owed, param_named, params_closed, owes_type, chan_type_read, ref_type_read, has_type, owes, signed, opened, named, call_open, word_read, word_named, alone_read, alone_open, one_read, two_read, chan_read, chan_typed, chan_open, in_items, let_read, let_named, has, then_read, else_read, open_of, unary_at, put, put_other, put_primary, put_if, put_block, sum_with, round_term, cmp_with, round_sum, and_with, round_cmp, expr_with, round_and, params_with, opening_of, Move, fails, goes, opens, close_paren, comma, semicolon, close_brace, open_brace, ends_expr, ends_and, ends_cmp, relate, ends_sum, ends_term, step_done, begin_other, step_owes, step_signed, step_opened, step_call_open, end_block, step_items, step_named, step_then, step_else, step_owes_type, step_has_type, step}
use Rattle.stab_parse.proofs.Machine as machine
use Rattle.stab_parse.specs.Moves.{node_of, noted, deeper, pushed, both, seen_at}

-- the depth as far as a byte counts
abbrev mutual
  pub height_of : Form → ℕ
  height_of (form at h parts) = deeper (height_of_parts parts)

  pub height_of_parts : Parts → ℕ
  height_of_parts no_parts = 0
  height_of_parts (next_part ps f) = max (height_of_parts ps) (height_of f)

-- the forms on top of a list of forms, the last first
abbrev mutual
  pub onto : Form → List FormNode → List FormNode
  onto (form at h parts) rest = node_of h (count_of parts) ∷ parts_onto parts rest

  pub parts_onto : Parts → List FormNode → List FormNode
  parts_onto no_parts rest = rest
  parts_onto (next_part ps f) rest = onto f (parts_onto ps rest)

-- the least first byte of those that are just too deep, with those in a form
abbrev mutual
  pub deep_onto : Form → Option ℕ → Option ℕ
  deep_onto (form at h parts) least = noted (deep_parts_onto parts least) at (deeper (height_of_parts parts))

  pub deep_parts_onto : Parts → Option ℕ → Option ℕ
  deep_parts_onto no_parts least = least
  deep_parts_onto (next_part ps f) least = deep_onto f (deep_parts_onto ps least)

abbrev pub deep_program_onto : Program → Option ℕ
deep_program_onto no_functions = None
deep_program_onto (next_function p f) = deep_onto (body_of f) (deep_program_onto p)

abbrev pub program_onto : Program → List FormNode
program_onto no_functions = []
program_onto (next_function p f) = onto (body_of f) (program_onto p)

abbrev pub kept_functions : Program → List kept_function.Function
kept_functions no_functions = []
kept_functions (next_function p f) = kept_functions p ++ function_of (length (program_onto (next_function p f))) f ∷ []

abbrev pub with_form : Form → Reader → Reader
with_form f r = record r { forms = onto f r.forms; too_deep = deep_onto f r.too_deep }

abbrev pub with_parts : Parts → Reader → Reader
with_parts ps r = record r { forms = parts_onto ps r.forms; too_deep = deep_parts_onto ps r.too_deep }

abbrev pub seen_of : ℕ → Form → Seen
seen_of first f = seen_at first (height_of f)

abbrev pub kept_callee_of : Callee → kept_callee.Callee
kept_callee_of (called f) = callee.Called f
kept_callee_of (started w p f) = callee.Started w p.start f

abbrev pub before_of : RoundParam → List kept_param.Param
before_of (first_param o) = []
before_of (later_param o xs m) = param_list_of xs

abbrev pub name_of_opening : Opening → Span
name_of_opening (opening ps f x o) = x

abbrev pub program_of : Opening → Program
program_of (opening ps f x o) = ps

abbrev pub in_program : Program → Reader
in_program ps = record { frames = []; forms = program_onto ps; functions = kept_functions ps; too_deep = deep_program_onto ps }

abbrev pub expr_height : Expr → ℕ
expr_height e = height_of (form_of_expr e)

abbrev pub block_height : Block → ℕ
block_height b = height_of (form_of_block b)

abbrev pub place_of : RoundBlock → BlockPlace
place_of (body o xs e q t) = place.Body (record { name = name_of_opening o; params = params_of xs; gives = type_of t })
place_of (block_primary c) = place.Form
place_of (then_block i e c) = place.Then i.start (expr_height e)
place_of (else_block i e b l c) = place.Else i.start (both (expr_height e) (block_height b))

-- the reader at a place
abbrev mutual
  pub at_items : RoundItems → Reader
  at_items (items_in o is c) =
      pushed (frame.Items (height_of_parts (parts_of_items is)) o.start (names_of is) (place_of c)) (with_parts (parts_of_items is) (at_block c))

  pub at_block : RoundBlock → Reader
  at_block (body o xs e q t) = in_program (program_of o)
  at_block (block_primary c) = at_other c
  at_block (then_block i e c) = with_form (form_of_expr e) (at_if c)
  at_block (else_block i e b l c) = with_form (form_of_block b) (with_form (form_of_expr e) (at_if c))

  pub at_if : RoundIf → Reader
  at_if (if_primary c) = at_other c
  at_if (after_else i e b l c) = pushed (frame.ElseIf i.start (both (expr_height e) (block_height b))) (with_form (form_of_block b) (with_form (form_of_expr e) (at_if c)))

  pub at_expr : RoundExpr → Reader
  at_expr (group_in o c) = pushed (frame.Group o.start) (at_other c)
  at_expr (second_in o e m c) = pushed (frame.Second o.start (expr_height e)) (with_form (form_of_expr e) (at_other c))
  at_expr (first_arg f o c) = pushed (frame.Args (kept_callee_of f) 0 0) (at_other c)
  at_expr (later_arg f o a m c) = pushed (frame.Args (kept_callee_of f) (height_of_parts (parts_of_args a)) (count_of (parts_of_args a))) (with_parts (parts_of_args a) (at_other c))
  at_expr (one_in w p o c) = pushed (frame.One w p.start) (at_other c)
  at_expr (two_left w p o c) = pushed (frame.TwoLeft w p.start) (at_other c)
  at_expr (two_right w p o e m c) = pushed (frame.TwoRight w p.start (expr_height e)) (with_form (form_of_expr e) (at_other c))
  at_expr (let_value l x q c) = pushed (frame.Let x) (at_items c)
  at_expr (item_in c) = at_items c
  at_expr (condition i c) = pushed (frame.Condition i.start) (at_if c)

  pub at_and : RoundAnd → Reader
  at_and (first_and c) = at_expr c
  at_and (after_or e p c) = pushed (frame.Operator level.Or op.Or (seen_of (first_of_expr e) (form_of_expr e))) (with_form (form_of_expr e) (at_expr c))

  pub at_cmp : RoundCmp → Reader
  at_cmp (first_cmp c) = at_and c
  at_cmp (after_and a p c) = pushed (frame.Operator level.And op.And (seen_of (first_of_and a) (form_of_and a))) (with_form (form_of_and a) (at_and c))

  pub at_sum : RoundSum → Reader
  at_sum (first_sum c) = at_cmp c
  at_sum (after_compare l o p c) = pushed (frame.Operator level.Relation o (seen_of (first_of_sum l) (form_of_sum l))) (with_form (form_of_sum l) (at_cmp c))

  pub at_term : RoundTerm → Reader
  at_term (first_term c) = at_sum c
  at_term (after_plus s p c) = pushed (frame.Operator level.Sum op.Add (seen_of (first_of_sum s) (form_of_sum s))) (with_form (form_of_sum s) (at_sum c))
  at_term (after_minus s p c) = pushed (frame.Operator level.Sum op.Sub (seen_of (first_of_sum s) (form_of_sum s))) (with_form (form_of_sum s) (at_sum c))

  pub at_unary : RoundUnary → Reader
  at_unary (first_unary c) = at_term c
  at_unary (after_times t o p c) = pushed (frame.Operator level.Product o (seen_of (first_of_term t) (form_of_term t))) (with_form (form_of_term t) (at_term c))
  at_unary (after_not p c) = pushed (frame.Not p.start) (at_other c)

  pub at_other : RoundOther → Reader
  at_other (no_sign c) = at_unary c
  at_other (after_negate p c) = pushed (frame.Negate p.start) (at_other c)

abbrev pub at_type : RoundType → Reader
at_type (of_param c x q) = pushed (frame.ParamType (name_of_opening (opening_of c)) (before_of c) x) (in_program (program_of (opening_of c)))
at_type (of_result o ps e q) = pushed (frame.ResultType (name_of_opening o) (params_of ps)) (in_program (program_of o))
at_type (in_chan w o c) = pushed frame.ChanType (at_type c)
at_type (in_ref w o c) = pushed frame.RefType (at_type c)
at_type (pair_left o c) = pushed frame.PairLeft (at_type c)
at_type (pair_right o t m c) = pushed (frame.PairRight (type_of t)) (at_type c)
at_type (of_chan w o c) = pushed (frame.NewChan w.start) (at_other c)

abbrev pub phase_of : State → Phase
phase_of (machine.between ps) = phase.Between
phase_of (fn_read ps f) = phase.FnRead
phase_of (fn_named ps f x) = phase.FnNamed x
phase_of (params_open o) = phase.ParamsOpen (name_of_opening o)
phase_of (param_owed o xs m) = phase.ParamOwed (name_of_opening o) (param_list_of xs)
phase_of (param_named c x) = phase.ParamNamed (name_of_opening (opening_of c)) (before_of c) x
phase_of (params_closed o ps e) = phase.ParamsClosed (name_of_opening o) (params_of ps)
phase_of (owes_type c) = phase.OwesType
phase_of (chan_type_read p c) = phase.ChanTypeRead
phase_of (ref_type_read p c) = phase.RefTypeRead
phase_of (has_type c t) = phase.HasType (type_of t)
phase_of (owes c) = phase.Owes
phase_of (signed p c) = phase.Signed p.start
phase_of (opened o c) = phase.Opened o.start
phase_of (named x c) = phase.Named x
phase_of (call_open f o c) = phase.CallOpen (kept_callee_of f)
phase_of (word_read w p c) = phase.WordRead w p.start
phase_of (word_named w p x c) = phase.WordNamed w p.start x
phase_of (alone_read w p c) = phase.AloneRead w p.start
phase_of (alone_open w p o c) = phase.AloneOpen w p.start
phase_of (one_read w p c) = phase.OneRead w p.start
phase_of (two_read w p c) = phase.TwoRead w p.start
phase_of (chan_read p c) = phase.ChanRead p.start
phase_of (chan_typed p o t e c) = phase.ChanTyped p.start (type_of t)
phase_of (chan_open p o t e q c) = phase.ChanOpen p.start (type_of t)
phase_of (in_items c) = phase.InItems
phase_of (let_read l c) = phase.LetRead
phase_of (let_named l x c) = phase.LetNamed x
phase_of (has c t) = phase.Has (seen_of (first_of_term t) (form_of_term t))
phase_of (then_read i e b c) = phase.ThenRead i.start (both (expr_height e) (block_height b))
phase_of (else_read i e b l c) = phase.ElseRead i.start (both (expr_height e) (block_height b))

abbrev pub reader_of : State → Reader
reader_of (machine.between ps) = in_program ps
reader_of (fn_read ps f) = in_program ps
reader_of (fn_named ps f x) = in_program ps
reader_of (params_open o) = in_program (program_of o)
reader_of (param_owed o xs m) = in_program (program_of o)
reader_of (param_named c x) = in_program (program_of (opening_of c))
reader_of (params_closed o ps e) = in_program (program_of o)
reader_of (owes_type c) = at_type c
reader_of (chan_type_read p c) = at_type c
reader_of (ref_type_read p c) = at_type c
reader_of (has_type c t) = at_type c
reader_of (owes c) = at_unary c
reader_of (signed p c) = at_other c
reader_of (opened o c) = at_other c
reader_of (named x c) = at_other c
reader_of (call_open f o c) = at_other c
reader_of (word_read w p c) = at_other c
reader_of (word_named w p x c) = at_other c
reader_of (alone_read w p c) = at_other c
reader_of (alone_open w p o c) = at_other c
reader_of (one_read w p c) = at_other c
reader_of (two_read w p c) = at_other c
reader_of (chan_read p c) = at_other c
reader_of (chan_typed p o t e c) = at_other c
reader_of (chan_open p o t e q c) = at_other c
reader_of (in_items c) = at_items c
reader_of (let_read l c) = at_items c
reader_of (let_named l x c) = at_items c
reader_of (has c t) = with_form (form_of_term t) (at_term c)
reader_of (then_read i e b c) = with_form (form_of_block b) (with_form (form_of_expr e) (at_if c))
reader_of (else_read i e b l c) = with_form (form_of_block b) (with_form (form_of_expr e) (at_if c))

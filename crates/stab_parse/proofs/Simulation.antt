-- A parser moves as the machine does.
use Rattle.std.proofs.Common.{◌≡◌, ℕ, ◌-◌, ◌^◌, ◌≤◌, List, [], ◌∷◌, ◌++◌, length, length-append, max, min, Option, refl, sym, ap, subst, ◌∙◌, arith}
use Rattle.stab_code.specs.declared.head.Op.{Op}
use Rattle.stab_code.specs.declared.head.Op.TheVariants as op
use Rattle.stab_parse.specs.declared.frame.BlockPlace.{BlockPlace}
use Rattle.stab_parse.specs.declared.frame.Frame.{Frame}
use Rattle.stab_parse.specs.declared.frame.Frame.TheVariants as frame
use Rattle.stab_parse.specs.declared.frame.Level.TheVariants as level
use Rattle.stab_parse.specs.Seen.{Seen}
use Rattle.stab_parse.specs.declared.reader.Reader.{Reader}
use Rattle.stab_parse.specs.declared.symbol.ActWord.{ActWord}
use Rattle.stab_parse.specs.declared.symbol.ActWord.TheVariants.{Ref}
use Rattle.stab_parse.specs.declared.symbol.Span.{Span}
use Rattle.stab_parse.specs.declared.symbol.Symbol.{Symbol}
use Rattle.stab_parse.specs.declared.symbol.Symbol.TheVariants.{Name, Number, Greatest, Text, Truth, WordFn, WordLet, WordIf, WordElse, ActOne, OrOr, AndAnd, Relation, Plus, Minus, Product, OpenParen, CloseParen, OpenBrace, CloseBrace, OpenBracket, CloseBracket, Comma, Semicolon, Colon, Equal}
use Rattle.stab_parse.specs.declared.tree.Head.TheVariants as head
use Rattle.stab_parse.specs.FormList.{count_of, param_list_of, params_of}
use Rattle.stab_parse.specs.Forms.{form, Parts, no_parts, next_part, type_of, name_of, head_of_block, names_of, form_of_block, parts_of_items, form_of_expr, form_of_and, form_of_cmp, form_of_sum, form_of_term, form_of_unary, form_of_other, form_of_primary, form_of_if, first_of_block, first_of_if, first_of_primary, first_of_other, first_of_unary, first_of_term, first_of_sum, first_of_cmp, first_of_and, first_of_expr}
use Rattle.stab_parse.specs.Grammar.{WrittenType, ParamList, Params, Callee, called, started, Block, block, block_with_last, Items, no_items, next_item, Item, Expr, And, Cmp, Sum, Term, one_unary, times, Unary, number, other, Other, literal, least, negate, not, primary, Primary, text, truth, variable, call, call_with, unit, group, pair, in_block, in_if, act, one_arg, next_arg, If, if_then, if_else, if_else_if, new_chan, act_one, act_two, act_alone, Program}
use Rattle.stab_parse.proofs.Machine.{Opening, opening, RoundParam, first_param, later_param, RoundType, of_param, of_result, in_chan, in_ref, pair_left, pair_right, of_chan, RoundItems, items_in, RoundBlock, body, block_primary, then_block, else_block, RoundIf, if_primary, after_else, RoundExpr, group_in, second_in, first_arg, later_arg, one_in, two_left, two_right, let_value, item_in, condition, RoundAnd, first_and, after_or, RoundCmp, first_cmp, after_and, RoundSum, first_sum, after_compare, RoundTerm, first_term, after_plus, after_minus, RoundUnary, first_unary, after_times, after_not, RoundOther, no_sign, after_negate, open_items, open_block, open_if, open_expr, open_and, open_cmp, open_sum, open_term, open_unary, open_other, open_type, State, fn_read, fn_named, params_open, param_owed, param_named, params_closed, owes_type, chan_type_read, ref_type_read, has_type, owes, signed, opened, named, call_open, word_read, word_named, alone_read, alone_open, one_read, two_read, chan_read, chan_typed, chan_open, in_items, let_read, let_named, has, then_read, else_read, open_of, unary_at, put, put_other, put_primary, put_if, put_block, sum_with, round_term, cmp_with, round_sum, and_with, round_cmp, expr_with, round_and, params_with, opening_of, Move, fails, goes, opens, close_paren, comma, semicolon, close_brace, open_brace, ends_expr, ends_and, ends_cmp, relate, ends_sum, ends_term, step_done, begin_other, step_owes, step_signed, step_opened, step_call_open, end_block, step_items, step_named, step_then, step_else, step_owes_type, step_has_type, step}
use Rattle.stab_parse.proofs.Machine as machine
use Rattle.stab_parse.specs.Frames.{top_of, below_top}
use Rattle.stab_parse.specs.Moves as moves
use Rattle.stab_parse.specs.Moves.{Refused, Goes, Opens, pushed, popped, both, alone, more, seen_at, settled, Settled, settle, settle_on, settle_if, settle_if_on, join_top, join, whole_sum, whole_and, whole_expr, Outcome, outcome, settled_outcome, complete, block_in, block_done, ends, closes, ends_settled, move}
use Rattle.stab_parse.proofs.Kept.{height_of_parts, with_form, with_parts, seen_of, kept_callee_of, before_of, name_of_opening, program_of, in_program, expr_height, block_height, place_of, at_items, at_block, at_if, at_expr, at_and, at_cmp, at_sum, at_term, at_unary, at_other, at_type, phase_of, reader_of}

-- ---- what stands on top of the frames of a place

abbrev rank : Frame → ℕ
rank (frame.Not at) = 0
rank (frame.Negate at) = 0
rank (frame.Operator level.Product o l) = 0
rank (frame.Operator level.Sum o l) = 1
rank (frame.Operator level.Relation o l) = 2
rank (frame.Operator level.And o l) = 3
rank (frame.Operator level.Or o l) = 4
rank (frame.ElseIf i e) = 9
rank _ = 5

-- the innermost frame has at least this rank, and isn't an if behind an else
abbrev Tops : ℕ → List Frame → Type 0
Tops n [] = ⊥
Tops n (f ∷ fs) = (n ≤ rank f) × (rank f ≤ 5)

tops_items : (c : RoundItems) → Tops 5 (at_items c).frames
tops_items (items_in o is c) = (omega arith, omega arith)

tops_expr : (c : RoundExpr) → Tops 5 (at_expr c).frames
tops_expr (group_in o c) = (omega arith, omega arith)
tops_expr (second_in o e m c) = (omega arith, omega arith)
tops_expr (first_arg f o c) = (omega arith, omega arith)
tops_expr (later_arg f o a m c) = (omega arith, omega arith)
tops_expr (one_in w p o c) = (omega arith, omega arith)
tops_expr (two_left w p o c) = (omega arith, omega arith)
tops_expr (two_right w p o e m c) = (omega arith, omega arith)
tops_expr (let_value l x q c) = (omega arith, omega arith)
tops_expr (item_in c) = tops_items c
tops_expr (condition i c) = (omega arith, omega arith)

lower : (n m : ℕ) (fs : List Frame) → m ≤ n → Tops n fs → Tops m fs
lower n m [] h t = t
lower n m (f ∷ fs) h t = let low : n ≤ rank f = t.0 in (omega arith, t.1)

tops_and : (c : RoundAnd) → Tops 4 (at_and c).frames
tops_and (first_and c) = lower 5 4 (at_expr c).frames (omega arith) (tops_expr c)
tops_and (after_or e p c) = (omega arith, omega arith)

tops_cmp : (c : RoundCmp) → Tops 3 (at_cmp c).frames
tops_cmp (first_cmp c) = lower 4 3 (at_and c).frames (omega arith) (tops_and c)
tops_cmp (after_and a p c) = (omega arith, omega arith)

tops_sum : (c : RoundSum) → Tops 2 (at_sum c).frames
tops_sum (first_sum c) = lower 3 2 (at_cmp c).frames (omega arith) (tops_cmp c)
tops_sum (after_compare l o p c) = (omega arith, omega arith)

tops_term : (c : RoundTerm) → Tops 1 (at_term c).frames
tops_term (first_term c) = lower 2 1 (at_sum c).frames (omega arith) (tops_sum c)
tops_term (after_plus s p c) = (omega arith, omega arith)
tops_term (after_minus s p c) = (omega arith, omega arith)

mutual
  tops_unary : (c : RoundUnary) → Tops 0 (at_unary c).frames
  tops_unary (first_unary c) = lower 1 0 (at_term c).frames (omega arith) (tops_term c)
  tops_unary (after_times t o p c) = (omega arith, omega arith)
  tops_unary (after_not p c) = (omega arith, omega arith)

  tops_other : (c : RoundOther) → Tops 0 (at_other c).frames
  tops_other (no_sign c) = tops_unary c
  tops_other (after_negate p c) = (omega arith, omega arith)

-- nothing joins a frame of a higher rank
no_settle : (fs : List Frame) (s : Seen) (r : Reader) → Tops 1 fs → settle_on fs s r ≡ settled s r
no_settle [] s r t = refl
no_settle (frame.Not at ∷ fs) s r t = absurd (omega (arith, t.0))
no_settle (frame.Negate at ∷ fs) s r t = absurd (omega (arith, t.0))
no_settle (frame.Operator level.Product o l ∷ fs) s r t = absurd (omega (arith, t.0))
no_settle (f ∷ fs) s r t = refl

no_sum : (fs : List Frame) (s : Seen) (r : Reader) → Tops 2 fs → join_top level.Sum (top_of fs) s (record r { frames = below_top fs }) ≡ settled s (record r { frames = fs })
no_sum [] s r t = refl
no_sum (frame.Operator level.Sum o l ∷ fs) s r t = absurd (omega (arith, t.0))
no_sum (f ∷ fs) s r t = refl

no_relation : (fs : List Frame) (s : Seen) (r : Reader) → Tops 3 fs → join_top level.Relation (top_of fs) s (record r { frames = below_top fs }) ≡ settled s (record r { frames = fs })
no_relation [] s r t = refl
no_relation (frame.Operator level.Relation o l ∷ fs) s r t = absurd (omega (arith, t.0))
no_relation (f ∷ fs) s r t = refl

no_and : (fs : List Frame) (s : Seen) (r : Reader) → Tops 4 fs → join_top level.And (top_of fs) s (record r { frames = below_top fs }) ≡ settled s (record r { frames = fs })
no_and [] s r t = refl
no_and (frame.Operator level.And o l ∷ fs) s r t = absurd (omega (arith, t.0))
no_and (f ∷ fs) s r t = refl

no_or : (fs : List Frame) (s : Seen) (r : Reader) → Tops 5 fs → join_top level.Or (top_of fs) s (record r { frames = below_top fs }) ≡ settled s (record r { frames = fs })
no_or [] s r t = refl
no_or (frame.Operator level.Or o l ∷ fs) s r t = absurd (omega (arith, t.0))
no_or (f ∷ fs) s r t = refl

no_else : (fs : List Frame) (at d : ℕ) (r : Reader) → Tops 0 fs → settle_if_on fs at d r ≡ complete head.If 3 at d r
no_else [] at d r t = refl
no_else (frame.ElseIf i e ∷ fs) at d r t = absurd (omega (arith, t.1))
no_else (f ∷ fs) at d r t = refl

-- ---- a form settles at its place

-- what a state that is behind a form keeps
abbrev kept : State → Outcome
kept st = outcome (Goes (phase_of st)) (reader_of st)

-- the same for what may go on behind it
record Settles (s : Settled) (st : State) : Type 0 where
  pub goes_there : settled_outcome s ≡ kept st
  pub term : RoundTerm
  pub form : Term
  pub state_is : st ≡ has term form
  pub settled_is : s ≡ settled (seen_of (first_of_term form) (form_of_term form)) (with_form (form_of_term form) (at_term term))

settles_has : (c : RoundTerm) (t : Term) (s : Settled) → s ≡ settled (seen_of (first_of_term t) (form_of_term t)) (with_form (form_of_term t) (at_term c)) → Settles s (has c t)
settles_has c t s e = record { goes_there = ap settled_outcome e; term = c; form = t; state_is = refl; settled_is = e }

settles_from : (s t : Settled) (st : State) → s ≡ t → Settles t st → Settles s st
settles_from s t st e w = record { goes_there = ap settled_outcome e ∙ w.goes_there; term = w.term; form = w.form; state_is = w.state_is; settled_is = e ∙ w.settled_is }

mutual
  settles_unary : (c : RoundUnary) (u : Unary) → Settles (settle (seen_of (first_of_unary u) (form_of_unary u)) (with_form (form_of_unary u) (at_unary c))) (put c u)
  settles_unary (first_unary c) u =
      settles_has c (one_unary u) (settle (seen_of (first_of_unary u) (form_of_unary u)) (with_form (form_of_unary u) (at_term c)))
      (no_settle (at_term c).frames (seen_of (first_of_unary u) (form_of_unary u)) (with_form (form_of_unary u) (at_term c)) (tops_term c))
  settles_unary (after_times t o p c) u =
      settles_has c (times t o p u) (settle (seen_of (first_of_unary u) (form_of_unary u)) (with_form (form_of_unary u) (at_unary (after_times t o p c))))
      (no_settle (at_term c).frames (seen_of (first_of_term t) (form_of_term (times t o p u))) (with_form (form_of_term (times t o p u)) (at_term c)) (tops_term c))
  settles_unary (after_not p c) u = settles_other c (not p u)

  settles_other : (c : RoundOther) (o : Other) → Settles (settle (seen_of (first_of_other o) (form_of_other o)) (with_form (form_of_other o) (at_other c))) (put_other c o)
  settles_other (no_sign c) o = settles_unary c (other o)
  settles_other (after_negate p c) o = settles_other c (negate p o)

settles_primary : (c : RoundOther) (x : Primary) → Settles (settle (seen_of (first_of_primary x) (form_of_primary x)) (with_form (form_of_primary x) (at_other c))) (put_primary c x)
settles_primary c x = settles_other c (primary x)

abbrev if_parts : If → Parts
if_parts (if_then i e b) = next_part (next_part (next_part no_parts (form_of_expr e)) (form_of_block b)) (form i.start head.Unit no_parts)
if_parts (if_else i e b l d) = next_part (next_part (next_part no_parts (form_of_expr e)) (form_of_block b)) (form_of_block d)
if_parts (if_else_if i e b l f) = next_part (next_part (next_part no_parts (form_of_expr e)) (form_of_block b)) (form_of_if f)

settles_if : (c : RoundIf) (f : If) → Settles (settle_if (first_of_if f) (height_of_parts (if_parts f)) (with_parts (if_parts f) (at_if c))) (put_if c f)
settles_if (if_primary c) (if_then i e b) =
    let r : Reader = with_parts (if_parts (if_then i e b)) (at_other c) in
    settles_from (settle_if i.start (height_of_parts (if_parts (if_then i e b))) r) (complete head.If 3 i.start (height_of_parts (if_parts (if_then i e b))) r) (put_primary c (in_if (if_then i e b)))
    (no_else (at_other c).frames i.start (height_of_parts (if_parts (if_then i e b))) r (tops_other c)) (settles_primary c (in_if (if_then i e b)))
settles_if (if_primary c) (if_else i e b l d) =
    let r : Reader = with_parts (if_parts (if_else i e b l d)) (at_other c) in
    settles_from (settle_if i.start (height_of_parts (if_parts (if_else i e b l d))) r) (complete head.If 3 i.start (height_of_parts (if_parts (if_else i e b l d))) r) (put_primary c (in_if (if_else i e b l d)))
    (no_else (at_other c).frames i.start (height_of_parts (if_parts (if_else i e b l d))) r (tops_other c)) (settles_primary c (in_if (if_else i e b l d)))
settles_if (if_primary c) (if_else_if i e b l f) =
    let r : Reader = with_parts (if_parts (if_else_if i e b l f)) (at_other c) in
    settles_from (settle_if i.start (height_of_parts (if_parts (if_else_if i e b l f))) r) (complete head.If 3 i.start (height_of_parts (if_parts (if_else_if i e b l f))) r) (put_primary c (in_if (if_else_if i e b l f)))
    (no_else (at_other c).frames i.start (height_of_parts (if_parts (if_else_if i e b l f))) r (tops_other c)) (settles_primary c (in_if (if_else_if i e b l f)))
settles_if (after_else i e b l c) (if_then j x y) = settles_if c (if_else_if i e b l (if_then j x y))
settles_if (after_else i e b l c) (if_else j x y m d) = settles_if c (if_else_if i e b l (if_else j x y m d))
settles_if (after_else i e b l c) (if_else_if j x y m f) = settles_if c (if_else_if i e b l (if_else_if j x y m f))

blocks : (c : RoundBlock) (b : Block) → block_in (place_of c) (seen_of (first_of_block b) (form_of_block b)) (with_form (form_of_block b) (at_block c)) ≡ kept (put_block c b)
blocks (body (opening ps f x o) xs e q t) b = refl
blocks (block_primary c) b = (settles_primary c (in_block b)).goes_there
blocks (then_block i e c) b = refl
blocks (else_block i e b l c) d = (settles_if c (if_else i e b l d)).goes_there

block_done_some : (xs : List (Option Span)) (x : Option Span) (at d : ℕ) (place : BlockPlace) (s : Seen) (r : Reader) → block_done at (xs ++ x ∷ []) d place s r ≡ block_in place (seen_at at (moves.deeper (max d s.depth))) (moves.formed (head_of_block (xs ++ x ∷ [])) (more (length (xs ++ x ∷ []))) at (max d s.depth) r)
block_done_some [] x at d place s r = refl
block_done_some (y ∷ xs) x at d place s r = refl

-- as many names as items, as far as 64 bits count
count_items : (is : Items) → count_of (parts_of_items is) ≡ min (length (names_of is)) (2 ^ 64 - 1)
count_items no_items = refl
count_items (next_item is i m) = omega (arith, count_items is, length-append (names_of is) (name_of i ∷ []))

-- a block with items and a last form
block_done_items : (is : Items) (i : Item) (m : Span) (at d : ℕ) (place : BlockPlace) (s : Seen) (r : Reader) → block_done at (names_of (next_item is i m)) d place s r ≡ block_in place (seen_at at (moves.deeper (max d s.depth))) (moves.formed (head_of_block (names_of (next_item is i m))) (more (count_of (parts_of_items (next_item is i m)))) at (max d s.depth) r)
block_done_items is i m at d place s r =
    let count : more (length (names_of (next_item is i m))) ≡ more (count_of (parts_of_items (next_item is i m))) = omega (arith, count_items (next_item is i m)) in
    block_done_some (names_of is) (name_of i) at d place s r
    ∙ ap (λ n. block_in place (seen_at at (moves.deeper (max d s.depth))) (moves.formed (head_of_block (names_of (next_item is i m))) n at (max d s.depth) r)) count

-- ---- a step behind a form

abbrev pub Agrees : Move → Outcome → Type 0
Agrees fails o = o.step ≡ Refused
Agrees (goes next) o = o ≡ outcome (Goes (phase_of next)) (reader_of next)
Agrees (opens next) o = o ≡ outcome (Opens (phase_of next)) (reader_of next)

agrees_from : (m : Move) (o q : Outcome) → o ≡ q → Agrees m q → Agrees m o
agrees_from fails o q e h = ap (λ x. x.step) e ∙ h
agrees_from (goes next) o q e h = e ∙ h
agrees_from (opens next) o q e h = e ∙ h

abbrev seen_expr : Expr → Seen
seen_expr e = seen_of (first_of_expr e) (form_of_expr e)

abbrev behind_expr : RoundExpr → Expr → Settled
behind_expr c e = settled (seen_expr e) (with_form (form_of_expr e) (at_expr c))

agrees_close_paren : (c : RoundExpr) (e : Expr) (p : Span) → Agrees (close_paren c e p) (closes CloseParen p (behind_expr c e))
agrees_close_paren (group_in o c) e p = (settles_primary c (group o e p)).goes_there
agrees_close_paren (second_in o x m c) e p = (settles_primary c (pair o x m e p)).goes_there
agrees_close_paren (first_arg (called f) o c) e p = (settles_primary c (call_with (called f) o (one_arg e) p)).goes_there
agrees_close_paren (first_arg (started w q f) o c) e p = (settles_primary c (call_with (started w q f) o (one_arg e) p)).goes_there
agrees_close_paren (later_arg (called f) o a m c) e p = (settles_primary c (call_with (called f) o (next_arg a m e) p)).goes_there
agrees_close_paren (later_arg (started w q f) o a m c) e p = (settles_primary c (call_with (started w q f) o (next_arg a m e) p)).goes_there
agrees_close_paren (one_in w q o c) e p = (settles_primary c (act (act_one w q o e p))).goes_there
agrees_close_paren (two_left w q o c) e p = refl
agrees_close_paren (two_right w q o x m c) e p = (settles_primary c (act (act_two w q o x m e p))).goes_there
agrees_close_paren (let_value l x q (items_in o is c)) e p = refl
agrees_close_paren (item_in (items_in o is c)) e p = refl
agrees_close_paren (condition i c) e p = refl

agrees_comma : (c : RoundExpr) (e : Expr) (p : Span) → Agrees (comma c e p) (closes Comma p (behind_expr c e))
agrees_comma (group_in o c) e p = refl
agrees_comma (second_in o x m c) e p = refl
agrees_comma (first_arg f o c) e p = refl
agrees_comma (later_arg f o a m c) e p = refl
agrees_comma (one_in w q o c) e p = refl
agrees_comma (two_left w q o c) e p = refl
agrees_comma (two_right w q o x m c) e p = refl
agrees_comma (let_value l x q (items_in o is c)) e p = refl
agrees_comma (item_in (items_in o is c)) e p = refl
agrees_comma (condition i c) e p = refl

agrees_semicolon : (c : RoundExpr) (e : Expr) (p : Span) → Agrees (semicolon c e p) (closes Semicolon p (behind_expr c e))
agrees_semicolon (group_in o c) e p = refl
agrees_semicolon (second_in o x m c) e p = refl
agrees_semicolon (first_arg f o c) e p = refl
agrees_semicolon (later_arg f o a m c) e p = refl
agrees_semicolon (one_in w q o c) e p = refl
agrees_semicolon (two_left w q o c) e p = refl
agrees_semicolon (two_right w q o x m c) e p = refl
agrees_semicolon (let_value l x q (items_in o is c)) e p = refl
agrees_semicolon (item_in (items_in o is c)) e p = refl
agrees_semicolon (condition i c) e p = refl

agrees_close_brace : (c : RoundExpr) (e : Expr) (p : Span) → Agrees (close_brace c e p) (closes CloseBrace p (behind_expr c e))
agrees_close_brace (group_in o c) e p = refl
agrees_close_brace (second_in o x m c) e p = refl
agrees_close_brace (first_arg f o c) e p = refl
agrees_close_brace (later_arg f o a m c) e p = refl
agrees_close_brace (one_in w q o c) e p = refl
agrees_close_brace (two_left w q o c) e p = refl
agrees_close_brace (two_right w q o x m c) e p = refl
agrees_close_brace (let_value l x q (items_in o is c)) e p = refl
agrees_close_brace (item_in (items_in o no_items c)) e p = blocks c (block_with_last o no_items e p)
agrees_close_brace (item_in (items_in o (next_item is i m) c)) e p =
    block_done_items is i m o.start (height_of_parts (parts_of_items (next_item is i m))) (place_of c) (seen_expr e)
    (with_form (form_of_expr e) (with_parts (parts_of_items (next_item is i m)) (at_block c)))
    ∙ blocks c (block_with_last o (next_item is i m) e p)
agrees_close_brace (condition i c) e p = refl

agrees_open_brace : (c : RoundExpr) (e : Expr) (p : Span) → Agrees (open_brace c e p) (closes OpenBrace p (behind_expr c e))
agrees_open_brace (group_in o c) e p = refl
agrees_open_brace (second_in o x m c) e p = refl
agrees_open_brace (first_arg f o c) e p = refl
agrees_open_brace (later_arg f o a m c) e p = refl
agrees_open_brace (one_in w q o c) e p = refl
agrees_open_brace (two_left w q o c) e p = refl
agrees_open_brace (two_right w q o x m c) e p = refl
agrees_open_brace (let_value l x q (items_in o is c)) e p = refl
agrees_open_brace (item_in (items_in o is c)) e p = refl
agrees_open_brace (condition i c) e p = refl

agrees_end_items : (c : RoundItems) (p : Span) → Agrees (end_block c p) (moves.end_items (top_of (at_items c).frames) (popped (at_items c)))
agrees_end_items (items_in o no_items c) p = blocks c (block o no_items p)
agrees_end_items (items_in o (next_item is i m) c) p =
    let parts : Parts = parts_of_items (next_item is i m) in
    let names : List (Option Span) = names_of is ++ name_of i ∷ [] in
    block_done_items is i m o.start (height_of_parts parts) (place_of c) (seen_at o.start 1) (moves.formed head.Unit 0 o.start 0 (with_parts parts (at_block c)))
    ∙ blocks c (block o (next_item is i m) p)

abbrev ClosesNothing : Symbol → Type 0
ClosesNothing CloseParen = ⊥
ClosesNothing Comma = ⊥
ClosesNothing Semicolon = ⊥
ClosesNothing CloseBrace = ⊥
ClosesNothing OpenBrace = ⊥
ClosesNothing _ = Unit {0}

no_close : (top : Option Frame) (k : Symbol) (p : Span) (s : Seen) (r : Reader) → ClosesNothing k → (moves.behind_top top k p s r).step ≡ Refused
no_close top CloseParen p s r h = absurd h
no_close top Comma p s r h = absurd h
no_close top Semicolon p s r h = absurd h
no_close top CloseBrace p s r h = absurd h
no_close top OpenBrace p s r h = absurd h
no_close top k p s r h = refl

agrees_expr : (c : RoundExpr) (e : Expr) (k : Symbol) (p : Span) → Agrees (ends_expr c e k p) (closes k p (behind_expr c e))
agrees_expr c e CloseParen p = agrees_close_paren c e p
agrees_expr c e Comma p = agrees_comma c e p
agrees_expr c e Semicolon p = agrees_semicolon c e p
agrees_expr c e CloseBrace p = agrees_close_brace c e p
agrees_expr c e OpenBrace p = agrees_open_brace c e p
agrees_expr c e k p = no_close (top_of (at_expr c).frames) k p (seen_expr e) (popped (with_form (form_of_expr e) (at_expr c))) tt

joined_sum : (c : RoundTerm) (t : Term) → join level.Sum (settled (seen_of (first_of_term t) (form_of_term t)) (with_form (form_of_term t) (at_term c))) ≡ settled (seen_of (first_of_sum (sum_with c t)) (form_of_sum (sum_with c t))) (with_form (form_of_sum (sum_with c t)) (at_sum (round_term c)))
joined_sum (first_term c) t = no_sum (at_sum c).frames (seen_of (first_of_term t) (form_of_term t)) (with_form (form_of_term t) (at_sum c)) (tops_sum c)
joined_sum (after_plus s p c) t = refl
joined_sum (after_minus s p c) t = refl

joined_relation : (c : RoundSum) (s : Sum) → join level.Relation (settled (seen_of (first_of_sum s) (form_of_sum s)) (with_form (form_of_sum s) (at_sum c))) ≡ settled (seen_of (first_of_cmp (cmp_with c s)) (form_of_cmp (cmp_with c s))) (with_form (form_of_cmp (cmp_with c s)) (at_cmp (round_sum c)))
joined_relation (first_sum c) s = no_relation (at_cmp c).frames (seen_of (first_of_sum s) (form_of_sum s)) (with_form (form_of_sum s) (at_cmp c)) (tops_cmp c)
joined_relation (after_compare l o p c) s = refl

joined_and : (c : RoundCmp) (m : Cmp) → join level.And (settled (seen_of (first_of_cmp m) (form_of_cmp m)) (with_form (form_of_cmp m) (at_cmp c))) ≡ settled (seen_of (first_of_and (and_with c m)) (form_of_and (and_with c m))) (with_form (form_of_and (and_with c m)) (at_and (round_cmp c)))
joined_and (first_cmp c) m = no_and (at_and c).frames (seen_of (first_of_cmp m) (form_of_cmp m)) (with_form (form_of_cmp m) (at_and c)) (tops_and c)
joined_and (after_and a p c) m = refl

joined_or : (c : RoundAnd) (a : And) → join level.Or (settled (seen_of (first_of_and a) (form_of_and a)) (with_form (form_of_and a) (at_and c))) ≡ behind_expr (round_and c) (expr_with c a)
joined_or (first_and c) a = no_or (at_expr c).frames (seen_of (first_of_and a) (form_of_and a)) (with_form (form_of_and a) (at_expr c)) (tops_expr c)
joined_or (after_or e p c) a = refl

abbrev behind_term : RoundTerm → Term → Settled
behind_term c t = settled (seen_of (first_of_term t) (form_of_term t)) (with_form (form_of_term t) (at_term c))

abbrev behind_and : RoundAnd → And → Settled
behind_and c a = settled (seen_of (first_of_and a) (form_of_and a)) (with_form (form_of_and a) (at_and c))

and_of : (c : RoundTerm) (t : Term) → join level.And (join level.Relation (join level.Sum (behind_term c t))) ≡ behind_and (round_cmp (round_sum (round_term c))) (and_with (round_sum (round_term c)) (cmp_with (round_term c) (sum_with c t)))
and_of c t =
    ap (λ s. join level.And (join level.Relation s)) (joined_sum c t) ∙ ap (join level.And) (joined_relation (round_term c) (sum_with c t))
    ∙ joined_and (round_sum (round_term c)) (cmp_with (round_term c) (sum_with c t))

expr_of : (c : RoundTerm) (t : Term) → join level.Or (join level.And (join level.Relation (join level.Sum (behind_term c t)))) ≡ behind_expr (round_and (round_cmp (round_sum (round_term c)))) (expr_with (round_cmp (round_sum (round_term c))) (and_with (round_sum (round_term c)) (cmp_with (round_term c) (sum_with c t))))
expr_of c t = ap (join level.Or) (and_of c t) ∙ joined_or (round_cmp (round_sum (round_term c))) (and_with (round_sum (round_term c)) (cmp_with (round_term c) (sum_with c t)))

related : (fs : List Frame) (o : Op) (s : Seen) (r : Reader) → Tops 3 fs → moves.relation_top (top_of fs) o s (record r { frames = below_top fs }) ≡ moves.operator level.Relation o (settled s (record r { frames = fs }))
related [] o s r t = refl
related (frame.Operator level.Relation q l ∷ fs) o s r t = absurd (omega (arith, t.0))
related (f ∷ fs) o s r t = refl

agrees_relate : (c : RoundSum) (s : Sum) (o : Op) (p : Span) → Agrees (relate c s o p) (moves.relation o (settled (seen_of (first_of_sum s) (form_of_sum s)) (with_form (form_of_sum s) (at_sum c))))
agrees_relate (first_sum c) s o p = related (at_cmp c).frames o (seen_of (first_of_sum s) (form_of_sum s)) (with_form (form_of_sum s) (at_cmp c)) (tops_cmp c)
agrees_relate (after_compare l q r c) s o p = refl

agrees_closes : (c : RoundTerm) (t : Term) (k : Symbol) (p : Span) → Agrees (ends_expr (round_and (round_cmp (round_sum (round_term c)))) (expr_with (round_cmp (round_sum (round_term c))) (and_with (round_sum (round_term c)) (cmp_with (round_term c) (sum_with c t)))) k p) (closes k p (join level.Or (join level.And (join level.Relation (join level.Sum (behind_term c t))))))
agrees_closes c t k p =
    let round : RoundExpr = round_and (round_cmp (round_sum (round_term c))) in
    let whole : Expr = expr_with (round_cmp (round_sum (round_term c))) (and_with (round_sum (round_term c)) (cmp_with (round_term c) (sum_with c t))) in
    agrees_from (ends_expr round whole k p) (closes k p (join level.Or (join level.And (join level.Relation (join level.Sum (behind_term c t)))))) (closes k p (behind_expr round whole))
    (ap (closes k p) (expr_of c t)) (agrees_expr round whole k p)

pub agrees_ends : (c : RoundTerm) (t : Term) (k : Symbol) (p : Span) → Agrees (ends_term c t k p) (ends k p (seen_of (first_of_term t) (form_of_term t)) (with_form (form_of_term t) (at_term c)))
agrees_ends c t (Product o) p = refl
agrees_ends c t Plus p = ap (moves.operator level.Sum op.Add) (joined_sum c t)
agrees_ends c t Minus p = ap (moves.operator level.Sum op.Sub) (joined_sum c t)
agrees_ends c t (Relation o) p =
    agrees_from (relate (round_term c) (sum_with c t) o p) (moves.relation o (join level.Sum (behind_term c t)))
    (moves.relation o (settled (seen_of (first_of_sum (sum_with c t)) (form_of_sum (sum_with c t))) (with_form (form_of_sum (sum_with c t)) (at_sum (round_term c)))))
    (ap (moves.relation o) (joined_sum c t)) (agrees_relate (round_term c) (sum_with c t) o p)
agrees_ends c t AndAnd p = ap (moves.operator level.And op.And) (and_of c t)
agrees_ends c t OrOr p = ap (moves.operator level.Or op.Or) (expr_of c t)
agrees_ends c t CloseParen p = agrees_closes c t CloseParen p
agrees_ends c t Comma p = agrees_closes c t Comma p
agrees_ends c t Semicolon p = agrees_closes c t Semicolon p
agrees_ends c t CloseBrace p = agrees_closes c t CloseBrace p
agrees_ends c t OpenBrace p = agrees_closes c t OpenBrace p
agrees_ends c t k p = refl

-- what settled goes on as what may go on behind it
agrees_done : (s : Settled) (st : State) (k : Symbol) (p : Span) → Settles s st → Agrees (step_done st k p) (ends_settled k p s)
agrees_done s st k p w =
    let there : Agrees (step_done (has w.term w.form) k p) (ends_settled k p s) =
    agrees_from (ends_term w.term w.form k p) (ends_settled k p s) (ends_settled k p (behind_term w.term w.form)) (ap (ends_settled k p) w.settled_is) (agrees_ends w.term w.form k p) in
    let P : State → Type 0 = λ x. Agrees (step_done x k p) (ends_settled k p s) in
    subst P (sym w.state_is) there

-- ---- a step in each state

abbrev IsNoNumber : Symbol → Type 0
IsNoNumber (Number v) = ⊥
IsNoNumber _ = Unit {0}

agrees_begins : (c : RoundOther) (k : Symbol) (p : Span) → IsNoNumber k → Agrees (begin_other c k p) (moves.begins k p (at_other c))
agrees_begins c (Number v) p h = absurd h
agrees_begins c Text p h = (settles_primary c (text p)).goes_there
agrees_begins c (Truth b) p h = (settles_primary c (truth b p)).goes_there
agrees_begins c k p h = refl

agrees_owes : (c : RoundUnary) (k : Symbol) (p : Span) → Agrees (step_owes c k p) (moves.begins k p (at_unary c))
agrees_owes c (Number v) p = (settles_unary c (number v p)).goes_there
agrees_owes c k p = agrees_begins (no_sign c) k p tt

agrees_signed : (m : Span) (c : RoundOther) (k : Symbol) (p : Span) → Agrees (step_signed m c k p) (moves.signed m.start k p (at_other c))
agrees_signed m c (Number v) p = (settles_other c (literal m v p)).goes_there
agrees_signed m c Greatest p = (settles_other c (least m p)).goes_there
agrees_signed m c k p = agrees_begins (after_negate m c) k p tt

agrees_opened : (o : Span) (c : RoundOther) (k : Symbol) (p : Span) → Agrees (step_opened o c k p) (moves.opened o.start k p (at_other c))
agrees_opened o c CloseParen p = (settles_primary c (unit o p)).goes_there
agrees_opened o c k p = agrees_owes (unary_at (group_in o c)) k p

agrees_call_open : (f : Callee) (o : Span) (c : RoundOther) (k : Symbol) (p : Span) → Agrees (step_call_open f o c k p) (moves.call_open (kept_callee_of f) k p (at_other c))
agrees_call_open (called f) o c CloseParen p = (settles_primary c (call (called f) o p)).goes_there
agrees_call_open (started w q f) o c CloseParen p = (settles_primary c (call (started w q f) o p)).goes_there
agrees_call_open f o c k p = agrees_owes (unary_at (first_arg f o c)) k p

agrees_items : (c : RoundItems) (k : Symbol) (p : Span) → Agrees (step_items c k p) (moves.in_items k p (at_items c))
agrees_items c WordLet p = refl
agrees_items c CloseBrace p = agrees_end_items c p
agrees_items c k p = agrees_owes (unary_at (item_in c)) k p

agrees_named : (x : Span) (c : RoundOther) (k : Symbol) (p : Span) → Agrees (step_named x c k p) (moves.named x k p (at_other c))
agrees_named x c OpenParen p = refl
agrees_named x c k p = agrees_done (complete (head.Variable x) 0 x.start 0 (at_other c)) (put_primary c (variable x)) k p (settles_primary c (variable x))

agrees_then : (i : Span) (e : Expr) (b : Block) (c : RoundIf) (k : Symbol) (p : Span) → Agrees (step_then i e b c k p) (moves.then_read i.start (both (expr_height e) (block_height b)) k p (with_form (form_of_block b) (with_form (form_of_expr e) (at_if c))))
agrees_then i e b c WordElse p = refl
agrees_then i e b c k p =
    agrees_done (settle_if i.start (height_of_parts (if_parts (if_then i e b))) (with_parts (if_parts (if_then i e b)) (at_if c))) (put_if c (if_then i e b)) k p (settles_if c (if_then i e b))

agrees_else : (i : Span) (e : Expr) (b : Block) (l : Span) (c : RoundIf) (k : Symbol) (p : Span) → Agrees (step_else i e b l c k p) (moves.else_read i.start (both (expr_height e) (block_height b)) k p (with_form (form_of_block b) (with_form (form_of_expr e) (at_if c))))
agrees_else i e b l c OpenBrace p = refl
agrees_else i e b l c WordIf p = refl
agrees_else i e b l c _ p = refl

agrees_owes_type : (c : RoundType) (k : Symbol) (p : Span) → Agrees (step_owes_type c k p) (moves.owes_type k (at_type c))
agrees_owes_type c (ActOne Ref) p = refl
agrees_owes_type c (ActOne w) p = refl
agrees_owes_type c k p = refl

agrees_has_type : (c : RoundType) (t : WrittenType) (k : Symbol) (p : Span) → Agrees (step_has_type c t k p) (moves.typed_top (type_of t) (top_of (at_type c).frames) k p.start (popped (at_type c)))
agrees_has_type (of_param (first_param o) x q) t Comma p = refl
agrees_has_type (of_param (later_param o xs m) x q) t Comma p = refl
agrees_has_type (of_param (first_param o) x q) t CloseParen p = refl
agrees_has_type (of_param (later_param o xs m) x q) t CloseParen p = refl
agrees_has_type (of_param c x q) t _ p = refl
agrees_has_type (of_result o ps e q) t OpenBrace p = refl
agrees_has_type (of_result o ps e q) t _ p = refl
agrees_has_type (in_chan w o c) t CloseBracket p = refl
agrees_has_type (in_chan w o c) t _ p = refl
agrees_has_type (in_ref w o c) t CloseBracket p = refl
agrees_has_type (in_ref w o c) t _ p = refl
agrees_has_type (pair_left o c) t Comma p = refl
agrees_has_type (pair_left o c) t _ p = refl
agrees_has_type (pair_right o l m c) t CloseParen p = refl
agrees_has_type (pair_right o l m c) t _ p = refl
agrees_has_type (of_chan w o c) t CloseBracket p = refl
agrees_has_type (of_chan w o c) t _ p = refl

agrees_between : (ps : Program) (k : Symbol) (p : Span) → Agrees (machine.step_between ps k p) (moves.between k (in_program ps))
agrees_between ps WordFn p = refl
agrees_between ps k p = refl

agrees_fn_read : (ps : Program) (f : Span) (k : Symbol) (p : Span) → Agrees (machine.step_fn_read ps f k p) (moves.fn_read k p (in_program ps))
agrees_fn_read ps f Name p = refl
agrees_fn_read ps f k p = refl

agrees_fn_named : (ps : Program) (f x : Span) (k : Symbol) (p : Span) → Agrees (machine.step_fn_named ps f x k p) (moves.fn_named x k (in_program ps))
agrees_fn_named ps f x OpenParen p = refl
agrees_fn_named ps f x k p = refl

agrees_params_open : (o : Opening) (k : Symbol) (p : Span) → Agrees (machine.step_params_open o k p) (moves.params_open (name_of_opening o) k p (in_program (program_of o)))
agrees_params_open (opening ps f x o) CloseParen p = refl
agrees_params_open (opening ps f x o) Name p = refl
agrees_params_open (opening ps f x o) k p = refl

agrees_param_owed : (o : Opening) (xs : ParamList) (m : Span) (k : Symbol) (p : Span) → Agrees (machine.step_param_owed o xs m k p) (moves.param_owed (name_of_opening o) (param_list_of xs) k p (in_program (program_of o)))
agrees_param_owed o xs m Name p = refl
agrees_param_owed o xs m k p = refl

agrees_param_named : (c : RoundParam) (x : Span) (k : Symbol) (p : Span) → Agrees (machine.step_param_named c x k p) (moves.param_named (name_of_opening (opening_of c)) (before_of c) x k (in_program (program_of (opening_of c))))
agrees_param_named c x Colon p = refl
agrees_param_named c x k p = refl

agrees_params_closed : (o : Opening) (ps : Params) (e : Span) (k : Symbol) (p : Span) → Agrees (machine.step_params_closed o ps e k p) (moves.params_closed (name_of_opening o) (params_of ps) k (in_program (program_of o)))
agrees_params_closed o ps e Colon p = refl
agrees_params_closed o ps e k p = refl

agrees_alone_open : (w : ActWord) (q o : Span) (c : RoundOther) (k : Symbol) (p : Span) → Agrees (machine.step_alone_open w q o c k p) (moves.paren_end (head.Act w) q.start k (at_other c))
agrees_alone_open w q o c CloseParen p = (settles_primary c (act (act_alone w q o p))).goes_there
agrees_alone_open w q o c k p = refl

agrees_chan_open : (q o : Span) (t : WrittenType) (e b : Span) (c : RoundOther) (k : Symbol) (p : Span) → Agrees (machine.step_chan_open q o t e b c k p) (moves.paren_end (head.NewChan (type_of t)) q.start k (at_other c))
agrees_chan_open q o t e b c CloseParen p = (settles_primary c (act (new_chan q o t e b p))).goes_there
agrees_chan_open q o t e b c k p = refl

pub agrees : (st : State) (k : Symbol) (p : Span) → Agrees (step st k p) (move (phase_of st) k p (reader_of st))
agrees (machine.between ps) k p = agrees_between ps k p
agrees (fn_read ps f) k p = agrees_fn_read ps f k p
agrees (fn_named ps f x) k p = agrees_fn_named ps f x k p
agrees (params_open o) k p = agrees_params_open o k p
agrees (param_owed o xs m) k p = agrees_param_owed o xs m k p
agrees (param_named c x) k p = agrees_param_named c x k p
agrees (params_closed o ps e) k p = agrees_params_closed o ps e k p
agrees (owes_type c) k p = agrees_owes_type c k p
agrees (chan_type_read q c) OpenBracket p = refl
agrees (chan_type_read q c) k p = refl
agrees (ref_type_read q c) OpenBracket p = refl
agrees (ref_type_read q c) k p = refl
agrees (has_type c t) k p = agrees_has_type c t k p
agrees (owes c) k p = agrees_owes c k p
agrees (signed m c) k p = agrees_signed m c k p
agrees (opened o c) k p = agrees_opened o c k p
agrees (named x c) k p = agrees_named x c k p
agrees (call_open f o c) k p = agrees_call_open f o c k p
agrees (word_read w q c) Name p = refl
agrees (word_read w q c) k p = refl
agrees (word_named w q x c) OpenParen p = refl
agrees (word_named w q x c) k p = refl
agrees (alone_read w q c) OpenParen p = refl
agrees (alone_read w q c) k p = refl
agrees (alone_open w q o c) k p = agrees_alone_open w q o c k p
agrees (one_read w q c) OpenParen p = refl
agrees (one_read w q c) k p = refl
agrees (two_read w q c) OpenParen p = refl
agrees (two_read w q c) k p = refl
agrees (chan_read q c) OpenBracket p = refl
agrees (chan_read q c) k p = refl
agrees (chan_typed q o t e c) OpenParen p = refl
agrees (chan_typed q o t e c) k p = refl
agrees (chan_open q o t e b c) k p = agrees_chan_open q o t e b c k p
agrees (in_items c) k p = agrees_items c k p
agrees (let_read l c) Name p = refl
agrees (let_read l c) k p = refl
agrees (let_named l x c) Equal p = refl
agrees (let_named l x c) k p = refl
agrees (has c t) k p = agrees_ends c t k p
agrees (then_read i e b c) k p = agrees_then i e b c k p
agrees (else_read i e b l c) k p = agrees_else i e b l c k p

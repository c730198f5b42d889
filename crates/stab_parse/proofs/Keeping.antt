-- A parser that walks through tokens keeps what the machine's state is.
use Rattle.std.proofs.Common.{◌≡◌, ℕ, Bool, true, false, cond, Ok, Err, refl, ap, ◌∙◌, arith}
use Rattle.std.specs.Prelude.{Result, nat_lt}
use Rattle.stab_lex.specs.declared.token.Token.{Token}
use Rattle.stab_parse.specs.declared.fault.ParseFault.{ParseFault}
use Rattle.stab_parse.specs.declared.fault.ParseFault.TheVariants.{TooNested}
use Rattle.stab_parse.specs.declared.parser.Parser.{Parser}
use Rattle.stab_parse.specs.Faults.{max_open}
use Rattle.stab_parse.specs.Frames.{open_in}
use Rattle.stab_parse.proofs.Machine.{Opening, opening, RoundParam, first_param, later_param, RoundType, of_param, of_result, in_chan, in_ref, pair_left, pair_right, of_chan, RoundItems, items_in, RoundBlock, body, block_primary, then_block, else_block, RoundIf, if_primary, after_else, RoundExpr, group_in, second_in, first_arg, later_arg, one_in, two_left, two_right, let_value, item_in, condition, RoundAnd, first_and, after_or, RoundCmp, first_cmp, after_and, RoundSum, first_sum, after_compare, RoundTerm, first_term, after_plus, after_minus, RoundUnary, first_unary, after_times, after_not, RoundOther, no_sign, after_negate, open_items, open_block, open_if, open_expr, open_and, open_cmp, open_sum, open_term, open_unary, open_other, open_type, State, fn_read, fn_named, params_open, param_owed, param_named, params_closed, owes_type, chan_type_read, ref_type_read, has_type, owes, signed, opened, named, call_open, word_read, word_named, alone_read, alone_open, one_read, two_read, chan_read, chan_typed, chan_open, in_items, let_read, let_named, has, then_read, else_read, open_of, unary_at, put, put_other, put_primary, put_if, put_block, sum_with, round_term, cmp_with, round_sum, and_with, round_cmp, expr_with, round_and, params_with, opening_of, Move, fails, goes, opens, close_paren, comma, semicolon, close_brace, open_brace, ends_expr, ends_and, ends_cmp, relate, ends_sum, ends_term, step_done, begin_other, step_owes, step_signed, step_opened, step_call_open, end_block, step_items, step_named, step_then, step_else, step_owes_type, step_has_type, step}
use Rattle.stab_parse.proofs.Machine as machine
use Rattle.stab_parse.specs.Moves.{Outcome, move, open_total, reached, after_step, advance}
use Rattle.stab_parse.specs.Symbols.{symbol_of, span_of}
use Rattle.stab_parse.proofs.Kept.{at_items, at_block, at_if, at_expr, at_and, at_cmp, at_sum, at_term, at_unary, at_other, at_type, phase_of, reader_of}
use Rattle.stab_parse.proofs.Reading.{step_by, walk_on, okay, failed}
use Rattle.stab_parse.proofs.Simulation.{Agrees, agrees}

-- the frames have open what the places have
mutual
  open_at_items : (c : RoundItems) → open_in (at_items c).frames ≡ open_items c
  open_at_items (items_in o is c) = omega (arith, open_at_block c)

  open_at_block : (c : RoundBlock) → open_in (at_block c).frames ≡ open_block c
  open_at_block (body o xs e q t) = refl
  open_at_block (block_primary c) = open_at_other c
  open_at_block (then_block i e c) = open_at_if c
  open_at_block (else_block i e b l c) = open_at_if c

  open_at_if : (c : RoundIf) → open_in (at_if c).frames ≡ open_if c
  open_at_if (if_primary c) = open_at_other c
  open_at_if (after_else i e b l c) = omega (arith, open_at_if c)

  open_at_expr : (c : RoundExpr) → open_in (at_expr c).frames ≡ open_expr c
  open_at_expr (group_in o c) = omega (arith, open_at_other c)
  open_at_expr (second_in o e m c) = omega (arith, open_at_other c)
  open_at_expr (first_arg f o c) = omega (arith, open_at_other c)
  open_at_expr (later_arg f o a m c) = omega (arith, open_at_other c)
  open_at_expr (one_in w p o c) = omega (arith, open_at_other c)
  open_at_expr (two_left w p o c) = omega (arith, open_at_other c)
  open_at_expr (two_right w p o e m c) = omega (arith, open_at_other c)
  open_at_expr (let_value l x q c) = omega (arith, open_at_items c)
  open_at_expr (item_in c) = open_at_items c
  open_at_expr (condition i c) = omega (arith, open_at_if c)

  open_at_and : (c : RoundAnd) → open_in (at_and c).frames ≡ open_and c
  open_at_and (first_and c) = open_at_expr c
  open_at_and (after_or e p c) = omega (arith, open_at_expr c)

  open_at_cmp : (c : RoundCmp) → open_in (at_cmp c).frames ≡ open_cmp c
  open_at_cmp (first_cmp c) = open_at_and c
  open_at_cmp (after_and a p c) = omega (arith, open_at_and c)

  open_at_sum : (c : RoundSum) → open_in (at_sum c).frames ≡ open_sum c
  open_at_sum (first_sum c) = open_at_cmp c
  open_at_sum (after_compare l o p c) = omega (arith, open_at_cmp c)

  open_at_term : (c : RoundTerm) → open_in (at_term c).frames ≡ open_term c
  open_at_term (first_term c) = open_at_sum c
  open_at_term (after_plus s p c) = omega (arith, open_at_sum c)
  open_at_term (after_minus s p c) = omega (arith, open_at_sum c)

  open_at_unary : (c : RoundUnary) → open_in (at_unary c).frames ≡ open_unary c
  open_at_unary (first_unary c) = open_at_term c
  open_at_unary (after_times t o p c) = omega (arith, open_at_term c)
  open_at_unary (after_not p c) = omega (arith, open_at_other c)

  open_at_other : (c : RoundOther) → open_in (at_other c).frames ≡ open_other c
  open_at_other (no_sign c) = open_at_unary c
  open_at_other (after_negate p c) = omega (arith, open_at_other c)

open_at_type : (c : RoundType) → open_in (at_type c).frames ≡ open_type c
open_at_type (of_param c x q) = refl
open_at_type (of_result o ps e q) = refl
open_at_type (in_chan w o c) = omega (arith, open_at_type c)
open_at_type (in_ref w o c) = omega (arith, open_at_type c)
open_at_type (pair_left o c) = omega (arith, open_at_type c)
open_at_type (pair_right o t m c) = omega (arith, open_at_type c)
open_at_type (of_chan w o c) = omega (arith, open_at_other c)

pub open_agrees : (st : State) → open_total (phase_of st) (reader_of st) ≡ open_of st
open_agrees (machine.between ps) = refl
open_agrees (fn_read ps f) = refl
open_agrees (fn_named ps f x) = refl
open_agrees (params_open o) = refl
open_agrees (param_owed o xs m) = refl
open_agrees (param_named c x) = refl
open_agrees (params_closed o ps e) = refl
open_agrees (owes_type c) = omega (arith, open_at_type c)
open_agrees (chan_type_read p c) = omega (arith, open_at_type c)
open_agrees (ref_type_read p c) = omega (arith, open_at_type c)
open_agrees (has_type c t) = omega (arith, open_at_type c)
open_agrees (owes c) = omega (arith, open_at_unary c)
open_agrees (signed p c) = omega (arith, open_at_other c)
open_agrees (opened o c) = omega (arith, open_at_other c)
open_agrees (named x c) = omega (arith, open_at_other c)
open_agrees (call_open f o c) = omega (arith, open_at_other c)
open_agrees (word_read w p c) = omega (arith, open_at_other c)
open_agrees (word_named w p x c) = omega (arith, open_at_other c)
open_agrees (alone_read w p c) = omega (arith, open_at_other c)
open_agrees (alone_open w p o c) = omega (arith, open_at_other c)
open_agrees (one_read w p c) = omega (arith, open_at_other c)
open_agrees (two_read w p c) = omega (arith, open_at_other c)
open_agrees (chan_read p c) = omega (arith, open_at_other c)
open_agrees (chan_typed p o t e c) = omega (arith, open_at_other c)
open_agrees (chan_open p o t e q c) = omega (arith, open_at_other c)
open_agrees (in_items c) = omega (arith, open_at_items c)
open_agrees (let_read l c) = omega (arith, open_at_items c)
open_agrees (let_named l x c) = omega (arith, open_at_items c)
open_agrees (has c t) = omega (arith, open_at_term c)
open_agrees (then_read i e b c) = omega (arith, open_at_if c)
open_agrees (else_read i e b l c) = omega (arith, open_at_if c)

-- what is kept of a state, or the fault
abbrev pub kept_of : Result State ParseFault → Result Parser ParseFault
kept_of (Ok st) = Ok (reached (phase_of st) (reader_of st))
kept_of (Err f) = Err f

both_ways : (b : Bool) (at : ℕ) (next : State) → cond b (Err (TooNested at)) (Ok (reached (phase_of next) (reader_of next))) ≡ kept_of (cond b (failed (TooNested at)) (okay next))
both_ways true at next = refl
both_ways false at next = refl

agrees_after : (m : Move) (o : Outcome) (at : ℕ) → Agrees m o → after_step o.step o.reader at ≡ kept_of (walk_on m okay at)
agrees_after fails o at h = ap (λ s. after_step s o.reader at) h
agrees_after (goes next) o at h = ap (λ x. after_step x.step x.reader at) h
agrees_after (opens next) o at h =
    ap (λ x. after_step x.step x.reader at) h
    ∙ ap (λ n. cond (nat_lt max_open n) (Err (TooNested at)) (Ok (reached (phase_of next) (reader_of next)))) (open_agrees next)
    ∙ both_ways (nat_lt max_open (open_of next)) at next

-- a token leads a parser where it leads the machine
pub advances : (st : State) (t : Token) → advance (phase_of st) t (reader_of st) ≡ kept_of (walk_on (step_by st t) okay t.start)
advances st t = agrees_after (step_by st t) (move (phase_of st) (symbol_of t.kind) (span_of t) (reader_of st)) t.start (agrees st (symbol_of t.kind) (span_of t))

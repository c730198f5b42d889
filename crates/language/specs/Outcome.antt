-- What a redex does: the table of pure steps, and the acts.
use Rattle.std.specs.Prelude.{ℕ, ℤ, pos, ◌+ℤ◌, ◌-ℤ◌, ◌*ℤ◌, int_div, int_rem, int_lt, int_le, Bool, true, false, not, if◌then◌else◌, List, [], ◌∷◌, Option, Some, None, slice_get}
use Rattle.std.specs.Ordering.{int_eq}
use Rattle.stab_base.specs.Datum.{Datum, truth, int, chan, reference, pair, datum_eq}
use Rattle.stab_base.specs.Limits.{is_within_limits}
use Rattle.stab_base.specs.declared.fault.Fault.{Fault}
use Rattle.stab_base.specs.declared.fault.Fault.TheVariants.{WrongKind, Overflow, ZeroDivisor, DeepValue}
use Rattle.stab_code.specs.declared.head.Op.{Op}
use Rattle.stab_code.specs.declared.head.Op.TheVariants.{Or, And, Eq, Ne, Lt, Le, Gt, Ge, Add, Sub, Mul, Div, Rem}
use Rattle.language.specs.declared.head.Head.{Head}
use Rattle.language.specs.declared.head.Head.TheVariants.{Block, If, Two, Not, Neg, Pair, Fst, Snd, Call, Spawn, Stable, NewChan, NewRef, Get, Set, Send, Recv, Pick, Stabilize, Cut, Pin, Print, Probe, Attempt, Section}
use Rattle.language.specs.Numbers.{fits_word}
use Rattle.language.specs.Expression.{Expr, value, form, Parts, none, part, put, put_parts, only}
use Rattle.language.specs.FewValues.{one_of, two_values_of}
use Rattle.language.specs.Table.{Act, spawns, makes_chan, makes_ref, gets, sets, sends, receives, picks, enters, stabilizes, cuts, pins, prints, probes, attempts}

-- the redex becomes an expression, the whole expression fails, or the redex is an act
pub data Outcome : Type 0 where
  becomes : Expr → Outcome
  fails : Fault → Outcome
  acts : Act Expr → Outcome

-- the act that a redex is
abbrev pub told : Outcome → Option (Act Expr)
told (acts a) = Some a
told _ = None

-- the operands, where they are there
abbrev pub on_one : Option Datum → (Datum → Outcome) → Outcome
on_one (Some v) k = k v
on_one None k = fails WrongKind

abbrev pub on_two : Option (Datum × Datum) → (Datum → Datum → Outcome) → Outcome
on_two (Some both) k = k both.0 both.1
on_two None k = fails WrongKind

-- so many values, of these kinds; another number of values, or one of another kind, is WrongKind
abbrev pub with_one : List Datum → (Datum → Outcome) → Outcome
with_one vs k = on_one (one_of vs) k

abbrev pub with_two : List Datum → (Datum → Datum → Outcome) → Outcome
with_two vs k = on_two (two_values_of vs) k

abbrev pub with_truth : Datum → (Bool → Outcome) → Outcome
with_truth (truth b) k = k b
with_truth _ k = fails WrongKind

abbrev pub with_number : Datum → (ℤ → Outcome) → Outcome
with_number (int n) k = k n
with_number _ k = fails WrongKind

abbrev pub with_chan : Datum → (ℕ → Outcome) → Outcome
with_chan (chan c) k = k c
with_chan _ k = fails WrongKind

abbrev pub with_reference : Datum → (ℕ → Outcome) → Outcome
with_reference (reference r) k = k r
with_reference _ k = fails WrongKind

abbrev pub with_pair : Datum → (Datum → Datum → Outcome) → Outcome
with_pair (pair a b) k = k a b
with_pair _ k = fails WrongKind

abbrev pub with_numbers : Datum → Datum → (ℤ → ℤ → Outcome) → Outcome
with_numbers v w k = with_number v (λ m. with_number w (λ n. k m n))

-- a number, where it has 64 bits
abbrev pub number : ℤ → Outcome
number n = if fits_word n then becomes (value (int n)) else fails Overflow

abbrev pub truth_value : Bool → Outcome
truth_value b = becomes (value (truth b))

-- of a division whose quotient has 64 bits; the remainder of the least number by -1 overflows too
abbrev pub divided : ℤ → ℤ → ℤ → Outcome
divided m n result = if int_eq n (pos 0) then fails ZeroDivisor else (if fits_word (int_div m n) then becomes (value (int result)) else fails Overflow)

-- an operator between two values; a quotient is truncated toward zero, a remainder has the sign of the left
abbrev pub by_operator : Op → Datum → Datum → Outcome
by_operator Eq v w = truth_value (datum_eq v w)
by_operator Ne v w = truth_value (not (datum_eq v w))
by_operator Lt v w = with_numbers v w (λ m n. truth_value (int_lt m n))
by_operator Le v w = with_numbers v w (λ m n. truth_value (int_le m n))
by_operator Gt v w = with_numbers v w (λ m n. truth_value (int_lt n m))
by_operator Ge v w = with_numbers v w (λ m n. truth_value (int_le n m))
by_operator Add v w = with_numbers v w (λ m n. number (m +ℤ n))
by_operator Sub v w = with_numbers v w (λ m n. number (m -ℤ n))
by_operator Mul v w = with_numbers v w (λ m n. number (m *ℤ n))
by_operator Div v w = with_numbers v w (λ m n. divided m n (int_div m n))
by_operator Rem v w = with_numbers v w (λ m n. divided m n (int_rem m n))
by_operator Or v w = fails WrongKind
by_operator And v w = fails WrongKind

-- the one part that waits
abbrev pub waiting_one : Parts → Outcome
waiting_one (part e none) = becomes e
waiting_one _ = fails WrongKind

-- `&&` and `||` look at the left side alone
abbrev pub two_of : Op → List Datum → Parts → Outcome
two_of And vs rest = with_one vs (λ v. with_truth v (λ b. if b then waiting_one rest else truth_value false))
two_of Or vs rest = with_one vs (λ v. with_truth v (λ b. if b then truth_value true else waiting_one rest))
two_of op vs rest = with_two vs (by_operator op)

-- what is left of a block: its last expression alone after the last item
abbrev pub block_of : List (Option ℕ) → Parts → Outcome
block_of [] (part e none) = becomes e
block_of slots ps = becomes (form (Block slots) ps)

-- the first item is left out; a let's value goes in for its variable
abbrev pub after_item : List (Option ℕ) → Datum → Parts → Outcome
after_item (None ∷ slots) v rest = block_of slots rest
after_item (Some x ∷ slots) v rest = block_of slots (put_parts (only x v) rest)
after_item [] v rest = fails WrongKind

abbrev pub branch_of : Bool → Parts → Outcome
branch_of b (part x (part y none)) = becomes (if b then x else y)
branch_of b _ = fails WrongKind

abbrev pub pair_of : Datum → Datum → Outcome
pair_of v w = if is_within_limits (pair v w) then becomes (value (pair v w)) else fails DeepValue

module _ (body : ℕ → Expr) where
  -- the body of a function with values in place of its parameters
  abbrev pub called : ℕ → List Datum → Expr
  called f vs = put (slice_get vs) (body f)

  -- what a redex does, by its head, the values of the parts that count, and the parts that wait
  abbrev pub outcome : Head → List Datum → Parts → Outcome
  outcome (Block slots) vs rest = with_one vs (λ v. after_item slots v rest)
  outcome If vs rest = with_one vs (λ v. with_truth v (λ b. branch_of b rest))
  outcome (Two op) vs rest = two_of op vs rest
  outcome Not vs rest = with_one vs (λ v. with_truth v (λ b. truth_value (not b)))
  outcome Neg vs rest = with_one vs (λ v. with_number v (λ n. number (pos 0 -ℤ n)))
  outcome Pair vs rest = with_two vs pair_of
  outcome Fst vs rest = with_one vs (λ v. with_pair v (λ a b. becomes (value a)))
  outcome Snd vs rest = with_one vs (λ v. with_pair v (λ a b. becomes (value b)))
  outcome (Call f) vs rest = becomes (called f.0 vs)
  outcome (Section m) vs rest = with_one vs (λ v. becomes (value v))
  outcome (Spawn f) vs rest = acts (spawns (called f.0 vs))
  outcome (Stable f) vs rest = acts (enters (called f.0 vs))
  outcome NewChan vs rest = acts makes_chan
  outcome NewRef vs rest = with_one vs (λ v. acts (makes_ref v))
  outcome Get vs rest = with_one vs (λ v. with_reference v (λ r. acts (gets r)))
  outcome Set vs rest = with_two vs (λ v w. with_reference v (λ r. acts (sets r w)))
  outcome Send vs rest = with_two vs (λ v w. with_chan v (λ c. acts (sends c w)))
  outcome Recv vs rest = with_one vs (λ v. with_chan v (λ c. acts (receives c)))
  outcome Pick vs rest = with_two vs (λ v w. with_chan v (λ c. with_chan w (λ d. acts (picks c d))))
  outcome Stabilize vs rest = acts stabilizes
  outcome Cut vs rest = acts cuts
  outcome Pin vs rest = acts pins
  outcome Print vs rest = with_one vs (λ v. acts (prints v))
  outcome Probe vs rest = acts probes
  outcome Attempt vs rest = acts attempts

-- The types of forms: a table by the head of a form and the types of its parts.
use Rattle.std.specs.Prelude.{◌≡◌, ℕ, ℤ, Bool, true, List, [], ◌∷◌, length, take, slice_get, Option, Some, None, option_map}
use Rattle.stab_base.specs.declared.numbers.FnId.{FnId}
use Rattle.stab_base.specs.declared.numbers.TextId.{TextId}
use Rattle.stab_code.specs.declared.head.Head.{Head}
use Rattle.stab_code.specs.declared.head.Head.TheVariants.{Unit, Truth, Int, Text, Var, Block, If, Two, Not, Neg, Pair, Fst, Snd, Call, Spawn, Stable, NewChan, NewRef, Get, Set, Send, Recv, Pick, Stabilize, Cut, Pin, Print, Probe, Attempt}
use Rattle.stab_code.specs.declared.head.Op.{Op}
use Rattle.stab_code.specs.declared.head.Op.TheVariants.{Or, And, Eq, Ne, Lt, Le, Gt, Ge, Add, Sub, Mul, Div, Rem}
use Rattle.stab_code.specs.Heads.{strict_parts}
use Rattle.stab_code.specs.Program.{FunctionParts}
use Rattle.stab_code.specs.Written.{Written, unit_type, bool_type, int_type, text_type, chan_type, ref_type, pair_type}
use Rattle.stab_types.specs.ExprType.{ExprType, of, never, has_never, all_of}

-- what an operator makes of two numbers, if it takes numbers alone
abbrev pub from_numbers : Op → Option Written
from_numbers Lt = Some bool_type
from_numbers Le = Some bool_type
from_numbers Gt = Some bool_type
from_numbers Ge = Some bool_type
from_numbers Add = Some int_type
from_numbers Sub = Some int_type
from_numbers Mul = Some int_type
from_numbers Div = Some int_type
from_numbers Rem = Some int_type
from_numbers _ = None

-- a block has the type of its last part, where no item is Never
abbrev pub block_type : List (Option ℕ) → List ExprType → Option ExprType
block_type [] (t ∷ []) = Some t
block_type (slot ∷ slots) (of a ∷ ts) = block_type slots ts
block_type (slot ∷ slots) (never ∷ ts) = option_map (λ _. never) (block_type slots ts)
block_type _ _ = None

-- the type of a form, from its head and the types of its parts, where functions and the variables that are seen have these
pub data Rule (functions : List FunctionParts) (seen : ℕ → Option ExprType) : Head → List ExprType → ExprType → Type 0 where
  -- a part that must be a value first is Never
  stops : {h : Head} {ts : List ExprType} → has_never (take (strict_parts h (length ts)) ts) ≡ true → Rule functions seen h ts never
  unit_literal : Rule functions seen Unit [] (of unit_type)
  truth_literal : (b : Bool) → Rule functions seen (Truth b) [] (of bool_type)
  int_literal : (n : ℤ) → Rule functions seen (Int n) [] (of int_type)
  text_literal : (t : TextId) → Rule functions seen (Text t) [] (of text_type)
  variable : {x : ℕ} {t : ExprType} → seen x ≡ Some t → Rule functions seen (Var x) [] t
  -- each block has an item
  block : {slot : Option ℕ} {slots : List (Option ℕ)} {ts : List ExprType} {t : ExprType} → block_type (slot ∷ slots) ts ≡ Some t → Rule functions seen (Block (slot ∷ slots)) ts t
  -- both branches have one type, or one of them is Never
  branches : {t : ExprType} → Rule functions seen If (of bool_type ∷ t ∷ t ∷ []) t
  else_branch : {t : ExprType} → Rule functions seen If (of bool_type ∷ never ∷ t ∷ []) t
  then_branch : {t : ExprType} → Rule functions seen If (of bool_type ∷ t ∷ never ∷ []) t
  and_value : Rule functions seen (Two And) (of bool_type ∷ of bool_type ∷ []) (of bool_type)
  and_never : Rule functions seen (Two And) (of bool_type ∷ never ∷ []) (of bool_type)
  or_value : Rule functions seen (Two Or) (of bool_type ∷ of bool_type ∷ []) (of bool_type)
  or_never : Rule functions seen (Two Or) (of bool_type ∷ never ∷ []) (of bool_type)
  numbers : {op : Op} {a : Written} → from_numbers op ≡ Some a → Rule functions seen (Two op) (of int_type ∷ of int_type ∷ []) (of a)
  equal : {a b : Written} → Rule functions seen (Two Eq) (of a ∷ of b ∷ []) (of bool_type)
  unequal : {a b : Written} → Rule functions seen (Two Ne) (of a ∷ of b ∷ []) (of bool_type)
  not : Rule functions seen Not (of bool_type ∷ []) (of bool_type)
  negative : Rule functions seen Neg (of int_type ∷ []) (of int_type)
  pair : {a b : Written} → Rule functions seen Pair (of a ∷ of b ∷ []) (of (pair_type a b))
  first : {a b : Written} → Rule functions seen Fst (of (pair_type a b) ∷ []) (of a)
  second : {a b : Written} → Rule functions seen Snd (of (pair_type a b) ∷ []) (of b)
  -- arguments as the parameters are written
  call : {f : FnId} {callee : FunctionParts} → slice_get functions f.0 ≡ Some callee → Rule functions seen (Call f) (all_of callee.takes) (of callee.gives)
  stable : {f : FnId} {callee : FunctionParts} → slice_get functions f.0 ≡ Some callee → Rule functions seen (Stable f) (all_of callee.takes) (of callee.gives)
  spawn : {f : FnId} {callee : FunctionParts} → slice_get functions f.0 ≡ Some callee → Rule functions seen (Spawn f) (all_of callee.takes) (of unit_type)
  new_channel : {a : Written} → Rule functions seen (NewChan a) [] (of (chan_type a))
  new_reference : {a : Written} → Rule functions seen NewRef (of a ∷ []) (of (ref_type a))
  get : {a : Written} → Rule functions seen Get (of (ref_type a) ∷ []) (of a)
  set : {a : Written} → Rule functions seen Set (of (ref_type a) ∷ of a ∷ []) (of unit_type)
  send : {a : Written} → Rule functions seen Send (of (chan_type a) ∷ of a ∷ []) (of unit_type)
  receive : {a : Written} → Rule functions seen Recv (of (chan_type a) ∷ []) (of a)
  pick : {a : Written} → Rule functions seen Pick (of (chan_type a) ∷ of (chan_type a) ∷ []) (of (pair_type int_type a))
  stabilize : Rule functions seen Stabilize [] never
  cut : Rule functions seen Cut [] (of unit_type)
  pin : Rule functions seen Pin [] (of unit_type)
  print : {a : Written} → Rule functions seen Print (of a ∷ []) (of unit_type)
  probe : Rule functions seen Probe [] (of int_type)
  attempt : Rule functions seen Attempt [] (of int_type)

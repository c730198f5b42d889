-- The types of forms as they are computed.
use Rattle.std.specs.Prelude.{ℕ, Bool, true, false, ◌&&◌, if◌then◌else◌, List, [], ◌∷◌, length, take, slice_get, Option, Some, None, option_and_then, option_map}
use Rattle.stab_code.specs.declared.head.Head.{Head}
use Rattle.stab_code.specs.declared.head.Head.TheVariants.{Unit, Truth, Int, Text, Var, Block, If, Two, Not, Neg, Pair, Fst, Snd, Call, Spawn, Stable, NewChan, NewRef, Get, Set, Send, Recv, Pick, Stabilize, Cut, Pin, Print, Probe, Attempt}
use Rattle.stab_code.specs.declared.head.Op.{Op}
use Rattle.stab_code.specs.declared.head.Op.TheVariants.{Or, And, Eq, Ne}
use Rattle.stab_code.specs.Heads.{slots_of, strict_parts}
use Rattle.stab_code.specs.Program.{FunctionParts}
use Rattle.stab_code.specs.Trees.{Tree, Trees, tree, none, more}
use Rattle.stab_code.specs.Written.{Written, unit_type, bool_type, int_type, text_type, chan_type, ref_type, pair_type}
use Rattle.stab_types.specs.ExprType.{ExprType, of, never, has_never}
use Rattle.stab_types.specs.Rule.{from_numbers, block_type}
use Rattle.stab_types.specs.Typed.{Seen, behind}

abbrev pub written_eq : Written → Written → Bool
written_eq unit_type unit_type = true
written_eq bool_type bool_type = true
written_eq int_type int_type = true
written_eq text_type text_type = true
written_eq (chan_type a) (chan_type b) = written_eq a b
written_eq (ref_type a) (ref_type b) = written_eq a b
written_eq (pair_type a b) (pair_type c d) = written_eq a c && written_eq b d
written_eq _ _ = false

-- the parts have exactly these types
abbrev pub exactly : List ExprType → List Written → ExprType → Option ExprType
exactly [] [] t = Some t
exactly (of a ∷ ts) (b ∷ bs) t = if written_eq a b then exactly ts bs t else None
exactly _ _ t = None

-- one part with a written type, and two
abbrev pub of_one : List ExprType → (Written → Option ExprType) → Option ExprType
of_one (of a ∷ []) k = k a
of_one _ k = None

abbrev pub of_two : List ExprType → (Written → Written → Option ExprType) → Option ExprType
of_two (of a ∷ of b ∷ []) k = k a b
of_two _ k = None

-- of branches: the same type, or that of the one that isn't Never
abbrev pub joined : ExprType → ExprType → Option ExprType
joined never t = Some t
joined (of a) never = Some (of a)
joined (of a) (of b) = if written_eq a b then Some (of a) else None

abbrev pub branches_of : List ExprType → Option ExprType
branches_of (of a ∷ s ∷ t ∷ []) = if written_eq a bool_type then joined s t else None
branches_of _ = None

-- of `&&` and `||`
abbrev pub bool_or_never : ExprType → Option ExprType
bool_or_never never = Some (of bool_type)
bool_or_never (of a) = if written_eq a bool_type then Some (of bool_type) else None

abbrev pub shortcut_of : List ExprType → Option ExprType
shortcut_of (of a ∷ t ∷ []) = if written_eq a bool_type then bool_or_never t else None
shortcut_of _ = None

abbrev pub two_numbers : Option Written → List ExprType → Option ExprType
two_numbers None ts = None
two_numbers (Some a) ts = exactly ts (int_type ∷ int_type ∷ []) (of a)

abbrev pub operator_of : Op → List ExprType → Option ExprType
operator_of And ts = shortcut_of ts
operator_of Or ts = shortcut_of ts
operator_of Eq ts = of_two ts (λ a b. Some (of bool_type))
operator_of Ne ts = of_two ts (λ a b. Some (of bool_type))
operator_of op ts = two_numbers (from_numbers op) ts

abbrev pub first_of : Written → Option ExprType
first_of (pair_type a b) = Some (of a)
first_of _ = None

abbrev pub second_of : Written → Option ExprType
second_of (pair_type a b) = Some (of b)
second_of _ = None

abbrev pub held_in : Written → Option Written
held_in (ref_type a) = Some a
held_in _ = None

abbrev pub sent_on : Written → Option Written
sent_on (chan_type a) = Some a
sent_on _ = None

-- a second part of the type that the first holds or carries
abbrev pub given_to : Option Written → Written → Option ExprType
given_to None b = None
given_to (Some a) b = if written_eq a b then Some (of unit_type) else None

abbrev pub picked_from : Option Written → Option Written → Option ExprType
picked_from (Some a) (Some b) = if written_eq a b then Some (of (pair_type int_type a)) else None
picked_from _ _ = None

abbrev pub called_with : Option FunctionParts → List ExprType → Option ExprType
called_with None ts = None
called_with (Some f) ts = exactly ts f.takes (of f.gives)

abbrev pub spawned_with : Option FunctionParts → List ExprType → Option ExprType
spawned_with None ts = None
spawned_with (Some f) ts = exactly ts f.takes (of unit_type)

abbrev pub alone : List ExprType → Option ExprType → Option ExprType
alone [] o = o
alone _ o = None

-- each block has an item
abbrev pub block_of : List (Option ℕ) → List ExprType → Option ExprType
block_of [] ts = None
block_of (slot ∷ slots) ts = block_type (slot ∷ slots) ts

-- of a form that names no variable and no function, where no part that must be a value first is Never
abbrev pub plain_type : Head → List ExprType → Option ExprType
plain_type Unit ts = exactly ts [] (of unit_type)
plain_type (Truth b) ts = exactly ts [] (of bool_type)
plain_type (Int n) ts = exactly ts [] (of int_type)
plain_type (Text t) ts = exactly ts [] (of text_type)
plain_type (Block slots) ts = block_of slots ts
plain_type If ts = branches_of ts
plain_type (Two op) ts = operator_of op ts
plain_type Not ts = exactly ts (bool_type ∷ []) (of bool_type)
plain_type Neg ts = exactly ts (int_type ∷ []) (of int_type)
plain_type Pair ts = of_two ts (λ a b. Some (of (pair_type a b)))
plain_type Fst ts = of_one ts first_of
plain_type Snd ts = of_one ts second_of
plain_type (NewChan a) ts = exactly ts [] (of (chan_type a))
plain_type NewRef ts = of_one ts (λ a. Some (of (ref_type a)))
plain_type Get ts = of_one ts (λ a. option_map of (held_in a))
plain_type Set ts = of_two ts (λ a b. given_to (held_in a) b)
plain_type Send ts = of_two ts (λ a b. given_to (sent_on a) b)
plain_type Recv ts = of_one ts (λ a. option_map of (sent_on a))
plain_type Pick ts = of_two ts (λ a b. picked_from (sent_on a) (sent_on b))
plain_type Stabilize ts = exactly ts [] never
plain_type Cut ts = exactly ts [] (of unit_type)
plain_type Pin ts = exactly ts [] (of unit_type)
plain_type Print ts = of_one ts (λ a. Some (of unit_type))
plain_type Probe ts = exactly ts [] (of int_type)
plain_type Attempt ts = exactly ts [] (of int_type)
plain_type _ ts = None

module _ (functions : List FunctionParts) (seen : Seen) where
  -- where no part that must be a value first is Never
  abbrev pub going : Head → List ExprType → Option ExprType
  going (Var x) ts = alone ts (seen x)
  going (Call f) ts = called_with (slice_get functions f.0) ts
  going (Stable f) ts = called_with (slice_get functions f.0) ts
  going (Spawn f) ts = spawned_with (slice_get functions f.0) ts
  going h ts = plain_type h ts

  -- the type of a form, from its head and the types of its parts
  abbrev pub type_by : Head → List ExprType → Option ExprType
  type_by h ts = if has_never (take (strict_parts h (length ts)) ts) then Some never else going h ts

module _ (functions : List FunctionParts) where
  abbrev mutual
    pub type_in : Seen → Tree → Option ExprType
    type_in seen (tree h parts) = option_and_then (type_by functions seen h) (types_in seen (slots_of h) parts)

    pub types_in : Seen → List (Option ℕ) → Trees → Option (List ExprType)
    types_in seen slots none = Some []
    types_in seen [] (more part parts) = option_and_then (λ t. option_map (λ ts. t ∷ ts) (types_in seen [] parts)) (type_in seen part)
    types_in seen (slot ∷ slots) (more part parts) = option_and_then (λ t. option_map (λ ts. t ∷ ts) (types_in (behind slot t seen) slots parts)) (type_in seen part)

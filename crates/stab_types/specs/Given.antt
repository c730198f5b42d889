-- The types that a table gives to numbers, to what expressions give, to variables and to functions.
use Rattle.std.specs.Prelude.{◌≡◌, ℕ, ◌-◌, nat_lt, nat_eq, Bool, true, false, List, [], ◌∷◌, ◌++◌, length, map, replicate, slice_index_or, slice_set, Option, Some, None, option_map, IfSome}
use Rattle.std.specs.List.{AllByRecursion}
use Rattle.stab_code.specs.Program.{FunctionParts}
use Rattle.stab_code.specs.Written.{Written}
use Rattle.type_table.specs.declared.shape.TypeId.{TypeId}
use Rattle.type_table.specs.Table.{type_at, IsLonger}
use Rattle.stab_types.specs.declared.given.Given.{Given}
use Rattle.stab_types.specs.declared.given.Given.TheVariants.{Of, Never}
use Rattle.stab_types.specs.declared.given.Signature.{Signature}
use Rattle.stab_types.specs.declared.variables.Hidden.{Hidden}
use Rattle.stab_types.specs.ExprType.{ExprType, of, never}
use Rattle.stab_types.specs.Typed.{Seen}

abbrev pub type_of : List Written → Given → ExprType
type_of types (Of n) = of (type_at types n)
type_of types Never = never

-- a number of one of the first n types
abbrev pub is_below : ℕ → Given → Bool
is_below n (Of a) = nat_lt a.0 n
is_below n Never = true

abbrev pub AreBelow : ℕ → List Given → Type 0
AreBelow n gs = AllByRecursion (λ g. is_below n g ≡ true) gs

-- ---- variables

-- what is seen in a slot
abbrev pub seen_in : List (Option Given) → ℕ → Option Given
seen_in seen x = slice_index_or seen x None

abbrev pub AreSeenBelow : ℕ → List (Option Given) → Type 0
AreSeenBelow n seen = (x : ℕ) → IfSome (seen_in seen x) (λ g. is_below n g ≡ true)

-- the types of what is seen
abbrev pub seen_of : List Written → List (Option Given) → Seen
seen_of types seen = λ x. option_map (type_of types) (seen_in seen x)

-- what is seen behind an item with this slot, if it is a let
abbrev pub with_let : Option ℕ → Given → List (Option Given) → List (Option Given)
with_let None g seen = seen
with_let (Some x) g seen = slice_set seen x (Some g)

-- what such an item hides
abbrev pub hidden_by : Option ℕ → List (Option Given) → List Hidden
hidden_by None seen = []
hidden_by (Some x) seen = record { slot = x; given = seen_in seen x } ∷ []

-- what was seen before lets hid this, one after another
abbrev pub put_back : List (Option Given) → List Hidden → List (Option Given)
put_back seen [] = seen
put_back seen (h ∷ hidden) = slice_set (put_back seen hidden) h.slot h.given

-- parameters of these types, and as many slots as are left
abbrev pub parameters_in : ℕ → List TypeId → List (Option Given)
parameters_in slots takes = map (λ n. Some (Of n)) takes ++ replicate (slots - length takes) None

-- ---- functions

-- the signatures are those of the functions
pub record AreSignatures (types : List Written) (signatures : List Signature) (functions : List FunctionParts) : Type 0 where
  pub takes_below : AllByRecursion (λ (s : Signature). AllByRecursion (λ (n : TypeId). nat_lt n.0 (length types) ≡ true) s.takes.items) signatures
  pub gives_below : AllByRecursion (λ (s : Signature). nat_lt s.gives.0 (length types) ≡ true) signatures
  pub takes : (all : List Written) → IsLonger types all → map (λ (s : Signature). map (type_at all) s.takes.items) signatures ≡ map (λ (f : FunctionParts). f.takes) functions
  pub gives : (all : List Written) → IsLonger types all → map (λ (s : Signature). type_at all s.gives) signatures ≡ map (λ (f : FunctionParts). f.gives) functions

-- ---- answers

-- the table has grown, and under it the answer is what is computed
pub record IsComputed (old new : List Written) (found : Option Given) (computed : List Written → Option ExprType) : Type 0 where
  pub longer : IsLonger old new
  pub below : IfSome found (λ g. is_below (length new) g ≡ true)
  pub is : (all : List Written) → IsLonger new all → option_map (type_of all) found ≡ computed all

-- whether what is given is this type, by its number, or never a value
abbrev pub is_given_as : Option Given → TypeId → Bool
is_given_as None gives = false
is_given_as (Some (Of n)) gives = nat_eq n.0 gives.0
is_given_as (Some Never) gives = true

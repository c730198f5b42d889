-- Written types in a list, each made of earlier ones.
use Rattle.std.specs.Prelude.{◌≡◌, ℕ, nat_lt, Bool, true, false, ◌&&◌, List, [], ◌∷◌, ◌++◌, slice_get, unwrap_or, Some}
use Rattle.stab_code.specs.Written.{Written, unit_type, bool_type, int_type, text_type, chan_type, ref_type, pair_type}
use Rattle.type_table.specs.declared.shape.TypeId.{TypeId}
use Rattle.type_table.specs.declared.shape.TypeShape.{TypeShape}
use Rattle.type_table.specs.declared.shape.TypeShape.TheVariants as shape

-- the type of a number
abbrev pub type_at : List Written → TypeId → Written
type_at types n = unwrap_or (slice_get types n.0) unit_type

-- the type that a shape is
abbrev pub written_by : List Written → TypeShape → Written
written_by types shape.Unit = unit_type
written_by types shape.Bool = bool_type
written_by types shape.Int = int_type
written_by types shape.Text = text_type
written_by types (shape.Chan a) = chan_type (type_at types a)
written_by types (shape.Ref a) = ref_type (type_at types a)
written_by types (shape.Pair a b) = pair_type (type_at types a) (type_at types b)

-- the shape is made of types with smaller numbers
abbrev pub is_made_below : ℕ → TypeShape → Bool
is_made_below n (shape.Chan a) = nat_lt a.0 n
is_made_below n (shape.Ref a) = nat_lt a.0 n
is_made_below n (shape.Pair a b) = nat_lt a.0 n && nat_lt b.0 n
is_made_below n _ = true

-- the types so far, and those of further shapes
abbrev pub types_after : List Written → List TypeShape → List Written
types_after types [] = types
types_after types (s ∷ shapes) = types_after (types ++ written_by types s ∷ []) shapes

abbrev pub types_of : List TypeShape → List Written
types_of shapes = types_after [] shapes

-- the types with which each table begins, and their shapes
abbrev pub base_types : List Written
base_types = unit_type ∷ bool_type ∷ int_type ∷ text_type ∷ []

abbrev pub base_shapes : List TypeShape
base_shapes = shape.Unit ∷ shape.Bool ∷ shape.Int ∷ shape.Text ∷ []

-- a type that is made of others
abbrev pub is_made : TypeShape → Bool
is_made (shape.Chan a) = true
is_made (shape.Ref a) = true
is_made (shape.Pair a b) = true
is_made _ = false

-- the shapes of a table: each is made of earlier ones, and none stands twice
abbrev pub AreMadeBelow : List TypeShape → Type 0
AreMadeBelow shapes = (i : ℕ) (s : TypeShape) → slice_get shapes i ≡ Some s → is_made_below i s ≡ true

abbrev pub AreApart : List TypeShape → Type 0
AreApart shapes = (i j : ℕ) (s : TypeShape) → slice_get shapes i ≡ Some s → slice_get shapes j ≡ Some s → i ≡ j

-- the second has the types of the first under the same numbers
pub record IsLonger (old new : List Written) : Type 0 where
  pub more : List Written
  pub is : new ≡ old ++ more

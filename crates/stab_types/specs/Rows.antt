-- What is computed of a form from its parts' types by their numbers.
use Rattle.std.specs.Prelude.{Bool, true, false, nat_eq, ◌&&◌, List, [], ◌∷◌, Option, Some, None}
use Rattle.type_table.specs.declared.shape.TypeId.{TypeId}
use Rattle.stab_types.specs.declared.given.Given.{Given}
use Rattle.stab_types.specs.declared.given.Given.TheVariants.{Of, Never}

abbrev pub is_never : Given → Bool
is_never Never = true
is_never (Of a) = false

abbrev pub one_given : List Given → Option TypeId
one_given (Of a ∷ []) = Some a
one_given _ = None

abbrev pub two_given : List Given → Option (TypeId × TypeId)
two_given (Of a ∷ Of b ∷ []) = Some (a, b)
two_given _ = None

abbrev pub are_given : List Given → List TypeId → Bool
are_given [] [] = true
are_given (Of a ∷ gs) (b ∷ bs) = nat_eq a.0 b.0 && are_given gs bs
are_given _ _ = false

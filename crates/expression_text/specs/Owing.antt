-- How what is owed lies in memory: of each kind so many, what is owed first last.
use Rattle.std.specs.Prelude.{◌≡◌, ◌≤◌, Bool, true, false, List, [], ◌∷◌, Option, Some, None}
use Rattle.std.specs.List.{AllByRecursion}
use Rattle.expression_text.specs.Reading.{Plan}
use Rattle.expression_text.specs.Shape as shape
use Rattle.expression_text.specs.Shape.{expression, val, item, many, begun, begun_value, next}
use Rattle.expression_text.specs.declared.shaping.Owed.{Owed}
use Rattle.expression_text.specs.declared.shaping.Owed.TheVariants.{Expression, Value, Item}
use Rattle.expression_text.specs.declared.shaping.Owes.{Owes}
use Rattle.expression_text.specs.declared.shaping.Begun.{Begun}
use Rattle.expression_text.specs.declared.shaping.Begun.TheVariants as code
use Rattle.expression_text.specs.declared.word.Word.{Word}

abbrev pub owed : Owed → shape.Owed
owed Expression = expression
owed Value = val
owed Item = item

abbrev pub owed_onto : List Owes → List shape.Owed → List shape.Owed
owed_onto [] os = os
owed_onto (x ∷ xs) os = owed_onto xs (many x.count (owed x.what) os)

abbrev pub owed_by : List Owes → List shape.Owed
owed_by xs = owed_onto xs []

abbrev pub AreSome : List Owes → Type 0
AreSome = AllByRecursion (λ (x : Owes). 1 ≤ x.count)

abbrev pub Takes : List Owes → List Owes → Option Owed → Type 0
Takes old new None = owed_by old ≡ []
Takes old new (Some what) = owed_by old ≡ owed what ∷ owed_by new

-- what is owed then, or nothing begins so
abbrev pub BeginsBy : Option (List shape.Owed) → List shape.Owed → Bool → Type 0
BeginsBy then new true = then ≡ Some new
BeginsBy then new false = then ≡ None

abbrev pub Begins : shape.Owed → Word → List shape.Owed → List shape.Owed → Bool → Type 0
Begins o w old new b = BeginsBy (next o w old) new b

abbrev pub by_expression : Begun → List shape.Owed → Option (List shape.Owed)
by_expression code.Value os = Some os
by_expression code.Leaf os = Some os
by_expression code.Both os = Some (val ∷ val ∷ os)
by_expression (code.Form n) os = Some (many n expression os)
by_expression (code.Block n) os = Some (many n item (expression ∷ os))
by_expression code.Stray os = None

abbrev pub by_value : Begun → List shape.Owed → Option (List shape.Owed)
by_value code.Value os = Some os
by_value code.Both os = Some (val ∷ val ∷ os)
by_value b os = None

pub record IsBegun (b : Begun) (p : Plan) : Type 0 where
  pub expressions : (os : List shape.Owed) → begun p os ≡ by_expression b os
  pub values : (os : List shape.Owed) → begun_value p os ≡ by_value b os

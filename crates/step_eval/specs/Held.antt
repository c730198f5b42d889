-- The values that a frame holds.
use Rattle.std.specs.Prelude.{List, [], ◌∷◌}
use Rattle.stab_base.specs.Datum.{Datum}
use Rattle.step_eval.specs.declared.held.Kept.{Kept}
use Rattle.step_eval.specs.declared.held.Kept.TheVariants as kept

-- none, one, or those of a list
abbrev pub held_of : Kept → List Datum
held_of kept.Empty = []
held_of (kept.One v) = v ∷ []
held_of (kept.Many list) = list.value.items

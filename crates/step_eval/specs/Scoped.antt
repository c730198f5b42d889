-- What the values of variables by their slots have to do with the forms that name these slots.
use Rattle.std.specs.Prelude.{ℕ, ◌+◌, ◌-◌, ◌<◌, ◌≤◌, List, [], ◌∷◌, ◌++◌, length, replicate}
use Rattle.std.specs.List.{All}
use Rattle.stab_base.specs.Datum.{Datum, unit}
use Rattle.stab_code.specs.Syntax.{lets_of, open_in}
use Rattle.stab_code.specs.Trees.{Tree}

-- values by slots, and one for a slot behind them; the slots that are passed over have no variable, and get unit
abbrev pub bound : List Datum → ℕ → Datum → List Datum
bound env slot v = (env ++ replicate (slot - length env) unit) ++ v ∷ []

-- the slots rise, from a first one on
abbrev pub SlotsRise : ℕ → List ℕ → Type 0
SlotsRise least [] = Unit {0}
SlotsRise least (slot ∷ slots) = (least ≤ slot) × SlotsRise (slot + 1) slots

-- so many values by slots have one for each variable that the form leaves open, and its lets come behind them
pub record IsScoped (size : ℕ) (t : Tree) : Type 0 where
  pub seen : All (λ slot. slot < size) (open_in t)
  pub ahead : SlotsRise size (lets_of t)

-- The controls that are saved.
use Rattle.std.specs.Prelude.{◌≡◌, ℕ, cond, nat_lt, List, Option, Some, None, IfSome, option_map}
use Rattle.std.specs.FinMap as map
use Rattle.std.specs.FinMap.{FinMap}
use Rattle.stab_journal.specs.declared.event.Numbered.{Numbered}
use Rattle.stab_journal.specs.Floor.{floor}
use Rattle.checkpoint_store.specs.Saved.{place_cmp}
use Rattle.language.specs.Steps.{State, Table}
use Rattle.commit_book.specs.Run.{stood_at}

-- what is saved of the thread t before the step numbered q
abbrev pub saved_of : {C : Type 0} → FinMap place_cmp C → ℕ → ℕ → Option C
saved_of controls q t = map.get controls (record { 0 = q }, record { 0 = t })

-- one control is saved for each actor of each Enter, Comm and Get of the run above its floor, and nothing else; it stands for
-- where the actor stood before that step
abbrev pub AreSaved : {C E : Type 0} → (C → E) → Table E → FinMap place_cmp C → State E → List Numbered → Type 0
AreSaved expr effect controls start run =
    (q t : ℕ) → option_map expr (saved_of controls q t)
    ≡ cond (nat_lt (floor run) q) (stood_at effect q t (Some start) run) None

-- each saved control has the property
abbrev pub AllSaved : {C : Type 0} → (C → Type 0) → FinMap place_cmp C → Type 0
AllSaved P controls = (q t : ℕ) → IfSome (saved_of controls q t) P

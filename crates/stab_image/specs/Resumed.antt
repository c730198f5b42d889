-- What was made that goes on from an image.
use Rattle.std.specs.Prelude.{◌≡◌, ◌≤◌, ◌++◌, ℕ, true, false, List, None}
use Rattle.std.specs.List.{AllByRecursion}
use Rattle.stab_base.specs.Datum.{Datum}
use Rattle.stab_journal.specs.declared.event.Event.{Event}
use Rattle.stab_journal.specs.Event.{weight_of}
use Rattle.language.specs.Plain.{language_of, standing}
use Rattle.language.specs.Quiet.{IsQuiet}
use Rattle.image_laws.specs.Image.{Image, IsContinuedBy}
use Rattle.image_run.specs.declared.going.Resumed.{Resumed}
use Rattle.image_run.specs.Machine.{worker}
use Rattle.image_run.specs.Turns.{AreTurns}

-- The events continue the image up to the state, and are those of turns of one worker. The run is spent where its events weigh as much
-- as the fuel and somebody can step; where it isn't, nobody can.
pub record IsResumed (image : Image) (fuel quantum : ℕ) (r : Resumed) : Type 0 where
  pub continues : IsContinuedBy image r.events.items r.state.state
  pub program : r.state.program ≡ image.program
  pub workers : AllByRecursion (λ (e : Event). e.worker ≡ worker) r.events.items
  pub turns : AreTurns fuel quantum r.events.items
  pub spent : r.spent ≡ true → (fuel ≤ weight_of r.events.items) × (IsQuiet (language_of image.program) r.state.state → ⊥)
  pub quiet : r.spent ≡ false → IsQuiet (language_of image.program) r.state.state

-- the state has no thread 0, and what was printed begins with what was printed up to the cut
pub record IsBehind (image : Image) (r : Resumed) : Type 0 where
  pub first : standing r.state.state 0 ≡ None
  pub more : List Datum
  pub printed : r.state.state.output ≡ image.state.output ++ more

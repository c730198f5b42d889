-- What a run shows that went on from an image.
use Rattle.std.specs.Prelude.{◌≡◌, ◌++◌, ℕ, true, false}
use Rattle.language.specs.Shown.{shown, value_lines}
use Rattle.image_laws.specs.Image.{Image}
use Rattle.stab_image.specs.Resumed.{IsResumed}
use Rattle.state_text.specs.Ended.{AllDone, SomeHeld}
use Rattle.image_commands.specs.declared.resuming.Shown.{Shown}

-- the run went on from the image; the text is what the state shows behind the lines of what was printed up to the cut; and whether all
-- threads ended without a fault
pub record IsShown (image : Image) (fuel quantum : ℕ) (s : Shown) : Type 0 where
  pub resumed : IsResumed image fuel quantum s.resumed
  pub text : shown image.program s.resumed.state.state ≡ value_lines image.program image.state.output ++ s.text.items
  pub all : s.all_ended ≡ true → AllDone image.program s.resumed.state.state
  pub some : s.all_ended ≡ false → SomeHeld image.program s.resumed.state.state

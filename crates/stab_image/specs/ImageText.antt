-- The text of an image.
use Rattle.std.specs.Prelude.{ℕ, List, ◌++◌}
use Rattle.image_laws.specs.Image.{Image}
use Rattle.image_text.specs.ImageText.{end_text, next_text, probes_text, program_text, state_text}

-- what stands before the lines of the state
abbrev pub head_text : Image → List ℕ
head_text i = program_text i.text ++ (probes_text i.script i.used ++ next_text i.seq i.next_thread i.next_chan i.next_ref)

abbrev pub lines_of_state : Image → List ℕ
lines_of_state i = state_text i.generations i.next_chan i.state

-- The program, the probes, the next numbers, then the state, and the end.
abbrev pub text_of_image : Image → List ℕ
text_of_image i = head_text i ++ (lines_of_state i ++ end_text)

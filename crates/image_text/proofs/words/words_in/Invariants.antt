use Rattle.std.proofs.Common.{◌≡◌, length}
use Rattle.std.specs.Option.{option_copied, option_map}
use Rattle.image_text.specs.Pieces.{pieces_left}
use Rattle.image_text.specs.Reading.{reading}
use Rattle.image_text.specs.Seen.{seen}
use Rattle.image_text.proofs.WordsSoFar.{before}
use Rattle.image_text.proofs.words.words_in.Given as goal

-- the words so far, and those of what is left
abbrev pub invariant-loop-left : goal.invariant-loop-left
invariant-loop-left l = reading (pieces_left (option_copied l.fn.line)) ≡ option_map (before (seen l.found)) (reading (pieces_left (option_copied l.left)))

abbrev pub decreases-loop-left : goal.decreases-loop-left
decreases-loop-left l = length (pieces_left (option_copied l.left))

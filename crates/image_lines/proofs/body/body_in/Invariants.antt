use Rattle.std.proofs.Common.{◌≡◌, ◌+◌, length}
use Rattle.text_lines.specs.Lines.{split}
use Rattle.image_lines.specs.Body.{before, read_lines}
use Rattle.image_lines.proofs.body.body_in.Given as goal

-- the lines so far and those of what is left, together, are all lines
abbrev pub invariant-loop-text : goal.invariant-loop-text
invariant-loop-text l = record {
  same : read_lines l.start (split 10 l.bytes) ≡ before l.lines.items (read_lines l.at (split 10 l.rest));
  place : l.at + length l.rest ≡ l.start + length l.bytes;
}

abbrev pub decreases-loop-text : goal.decreases-loop-text
decreases-loop-text l = length l.rest

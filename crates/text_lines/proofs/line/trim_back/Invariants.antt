use Rattle.std.proofs.Common.{◌≡◌, length, reverse}
use Rattle.text_lines.specs.Lines.{trim_front}
use Rattle.text_lines.proofs.line.trim_back.Given as goal

abbrev pub invariant-loop-last : goal.invariant-loop-last
invariant-loop-last l = trim_front (reverse l.rest) ≡ trim_front (reverse l.bytes)

abbrev pub decreases-loop-last : goal.decreases-loop-last
decreases-loop-last l = length l.rest

use Rattle.std.proofs.Common.{◌≡◌, ◌+◌, ◌<◌, ◌^◌, length}
use Rattle.text_lines.specs.Lines.{lines_from, split}
use Rattle.text_lines.proofs.lines.LinesIterator.next.Given as goal

-- the lines that were passed over say nothing
abbrev pub invariant-loop-self : goal.invariant-loop-self
invariant-loop-self l = record {
  within : l.self-inside.at + length l.self-inside.rest.now < 2 ^ 64;
  left : lines_from l.self-inside.at (split 10 l.self-inside.rest.now) ≡ l.fn.self;
}

abbrev pub decreases-loop-self : goal.decreases-loop-self
decreases-loop-self l = length l.self-inside.rest.now

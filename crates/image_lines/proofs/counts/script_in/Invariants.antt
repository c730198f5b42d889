use Rattle.std.proofs.Common.{◌≡◌, ◌+◌, length}
use Rattle.image_lines.specs.Counts.{behind, script_in}
use Rattle.image_lines.proofs.counts.script_in.Given as goal

-- the numbers so far and those that are left, together, are all numbers
abbrev pub invariant-loop-left : goal.invariant-loop-left
invariant-loop-left l = record {
  same : script_in l.count l.start l.bytes ≡ behind l.numbers.items (script_in l.left l.at l.rest);
  place : l.at + length l.rest ≡ l.start + length l.bytes;
}

abbrev pub decreases-loop-left : goal.decreases-loop-left
decreases-loop-left l = l.left

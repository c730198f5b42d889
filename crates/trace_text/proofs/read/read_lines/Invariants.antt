use Rattle.std.proofs.Common.{◌≡◌, ◌+◌, ◌*◌, ◌≤◌, length}
use Rattle.stab_journal.specs.Event.{weight_of}
use Rattle.trace_text.specs.Reading.{after, read_lines}
use Rattle.trace_text.specs.Text.{entries}
use Rattle.text_lines.specs.Lines.{split}
use Rattle.trace_text.proofs.read.read_lines.Given as goal

-- what was read so far and what the other lines are read as, together, are what all lines are read as
abbrev pub invariant-loop-line : goal.invariant-loop-line
invariant-loop-line l = record {
  same : read_lines l.header l.start 1 (split 10 l.lines) ≡ after (entries l.history) (read_lines l.header l.at (length l.history.events + 1) (split 10 l.rest));
  place : l.at + length l.rest ≡ l.start + length l.lines;
  few : length l.history.events ≤ l.at;
  light : weight_of l.history.events ≤ l.at * 4294967295;
}

abbrev pub decreases-loop-line : goal.decreases-loop-line
decreases-loop-line l = length l.rest

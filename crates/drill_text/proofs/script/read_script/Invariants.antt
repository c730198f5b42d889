use Rattle.std.proofs.Common.{◌≡◌, ◌++◌, map}
use Rattle.drill_text.specs.Script.{line_of, script_of}
use Rattle.drill_text.proofs.script.read_script.Given as goal

-- what was read so far and the other lines are the script
abbrev pub invariant-loop-line : goal.invariant-loop-line
invariant-loop-line l = record {
  can_next : (goal.iterator-loop-line).can_next l.line-iterator;
  is_finite : (goal.iterator-loop-line).is_finite l.line-iterator;
  same : script_of l.bytes ≡ l.script.items ++ map line_of l.line-iterator;
}

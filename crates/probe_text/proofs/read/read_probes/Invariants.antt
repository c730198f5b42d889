use Rattle.std.proofs.Common.{◌≡◌, ◌+◌, ◌*◌, ◌≤◌, List, ◌++◌, length, ℤ, Result, Ok, Err}
use Rattle.probe_text.specs.declared.fault.ProbesFault.{ProbesFault}
use Rattle.probe_text.specs.Probes.{read_lines, reading}
use Rattle.probe_text.proofs.read.read_probes.Given as goal

-- the numbers before, and then those of the other lines
abbrev pub behind : List ℤ → Result (List ℤ) ProbesFault → Result (List ℤ) ProbesFault
behind ns (Ok others) = Ok (ns ++ others)
behind ns (Err fault) = Err fault

-- what was read so far and what the other lines are read as, together, are what the file is read as
abbrev pub invariant-loop-line : goal.invariant-loop-line
invariant-loop-line l = record {
  can_next : (goal.iterator-loop-line).can_next l.line-iterator;
  is_finite : (goal.iterator-loop-line).is_finite l.line-iterator;
  same : reading l.bytes ≡ behind l.numbers.items (read_lines l.line-iterator);
  few : 2 * (length l.numbers.items + length l.line-iterator) ≤ length l.bytes + 1;
}

use Rattle.std.proofs.Common.{◌≡◌, ◌≤◌, ◌++◌, ◌∷◌, [], suc, length, drop, ℕ, List, vec_capacity}
use Rattle.stab_files.specs.Told.{Appends}
use Rattle.trace_text.specs.Text.{end_line, ended, entries, event_lines, trace}
use Rattle.trace_text.proofs.write.put_lines.Given as goal

-- the lines so far were put, and those of the other events and of the end are left
abbrev pub invariant-loop-passed : goal.invariant-loop-passed
invariant-loop-passed g l = record {
  front : List ℕ;
  whole : trace l.history ≡ front ++ ended (event_lines (suc l.passed) (drop l.passed (entries l.history)) ++ (end_line (length (entries l.history)) ∷ []));
  put : Appends (g.K.Sink.told l.fn.sink) (g.K.Sink.told l.sink) front;
  quiet : g.K.Sink.faults l.sink ≡ g.K.Sink.faults l.fn.sink;
  room : 128 ≤ vec_capacity l.line;
}

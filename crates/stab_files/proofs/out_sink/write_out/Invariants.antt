-- What is gone from `rest` was appended, and no write failed.
use Rattle.std.proofs.Common.{◌≡◌, ℕ, List, ◌++◌, length}
use Rattle.std.specs.Io.KnownBytes.{Appends}
use Rattle.stab_files.proofs.out_sink.write_out.Given as goal

abbrev pub invariant-loop-rest : goal.invariant-loop-rest
invariant-loop-rest g l =
    (done : List ℕ) × (l.piece ≡ done ++ l.rest) × Appends (g.W.Write.contents l.fn.writer.device) (g.W.Write.contents l.writer.device) done × (l.writer.faults ≡ l.fn.writer.faults)

abbrev pub decreases-loop-rest : goal.decreases-loop-rest
decreases-loop-rest g l = length l.rest

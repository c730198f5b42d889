use Rattle.std.proofs.Common.{◌≡◌, All}
use Rattle.std.specs.Vec.Iter.{into_iter_items}
use Rattle.board_trial.proofs.tests.rounds.gather_all.Given as goal

abbrev pub invariant-loop-reader : goal.invariant-loop-reader
invariant-loop-reader g l = (l.writer.pass.board ≡ l.initial.writer.pass.board) × All (λ r. r.pass.board ≡ l.fn.board) (into_iter_items l.reader-iterator)

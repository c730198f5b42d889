use Rattle.std.proofs.Common.{◌≡◌, All}
use Rattle.board_trial.proofs.tests.rounds.readers_of.Given as goal

abbrev pub invariant-loop : goal.invariant-loop
invariant-loop l = (l.writer.pass.board ≡ l.initial.writer.pass.board) × All (λ r. r.pass.board ≡ l.fn.board) l.readers.items

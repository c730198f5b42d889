use Rattle.std.proofs.Common.{◌≡◌}
use Rattle.board_trial.proofs.tests.readers.Reader.read_all.Given as goal

abbrev pub invariant-loop : goal.invariant-loop
invariant-loop g l = (goal.iterator-loop g).can_next l.iterator' × (goal.iterator-loop g).is_finite l.iterator' × (l.self.pass.board ≡ l.initial.self.pass.board)

use Rattle.std.proofs.Common.{◌≡◌}
use Rattle.board_trial.proofs.tests.rounds.show_each.Given as goal

abbrev pub invariant-loop-event : goal.invariant-loop-event
invariant-loop-event g l = l.writer.pass.board ≡ l.initial.writer.pass.board

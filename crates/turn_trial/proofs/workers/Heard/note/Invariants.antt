use Rattle.std.proofs.Common.{◌≡◌}
use Rattle.turn_trial.proofs.workers.Heard.note.Given as goal

abbrev pub invariant-loop-more : goal.invariant-loop-more
invariant-loop-more l = l.self.spent ≡ l.fn.reply.spent

use Rattle.std.proofs.Common.{◌≡◌, length}
use Rattle.watched_rounds.proofs.looking.LookingGate.new.Given as goal

abbrev pub invariant-loop-made : goal.invariant-loop-made
invariant-loop-made g l = (l.writer ≡ l.initial.writer) × (length l.readers.items ≡ l._made)

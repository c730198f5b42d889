use Rattle.std.proofs.Common.{◌≡◌, length}
use Rattle.std.specs.FinMap.{from_entries}
use Rattle.language.proofs.Onto.{onto}
use Rattle.plain_language.proofs.parts.copied_threads.Given as goal

-- what is left, put onto the copies, gives all of it
abbrev pub invariant-loop-t : goal.invariant-loop-t
invariant-loop-t l = onto l.left (from_entries l.copies.entries) ≡ from_entries l.threads.entries

abbrev pub decreases-loop-t : goal.decreases-loop-t
decreases-loop-t l = length l.left

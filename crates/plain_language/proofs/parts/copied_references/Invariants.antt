use Rattle.std.proofs.Common.{◌≡◌, length}
use Rattle.std.specs.FinMap.{from_entries}
use Rattle.language.proofs.Onto.{onto}
use Rattle.plain_language.proofs.parts.copied_references.Given as goal

-- what is left, put onto the copies, gives all of it
abbrev pub invariant-loop-r : goal.invariant-loop-r
invariant-loop-r l = onto l.left (from_entries l.copies.entries) ≡ from_entries l.references.entries

abbrev pub decreases-loop-r : goal.decreases-loop-r
decreases-loop-r l = length l.left

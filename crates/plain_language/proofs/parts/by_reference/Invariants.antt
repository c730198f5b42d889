use Rattle.std.proofs.Common.{◌≡◌, length, map}
use Rattle.std.specs.FinMap.{from_entries}
use Rattle.language.specs.Parts.{references_of}
use Rattle.language.proofs.Onto.{onto}
use Rattle.plain_language.proofs.parts.by_reference.Given as goal

-- what is left, put onto what was taken, gives all of it
abbrev pub invariant-loop-r : goal.invariant-loop-r
invariant-loop-r l = onto (map (λ r. (r.0.0, r.1)) l.references.items) (from_entries l.map.entries) ≡ references_of l.fn.references.items

abbrev pub decreases-loop-r : goal.decreases-loop-r
decreases-loop-r l = length l.references.items

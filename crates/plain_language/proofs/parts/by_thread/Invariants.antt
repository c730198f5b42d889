use Rattle.std.proofs.Common.{◌≡◌, length, map}
use Rattle.std.specs.FinMap.{from_entries}
use Rattle.language.specs.Parts.{threads_of}
use Rattle.language.proofs.Onto.{onto}
use Rattle.plain_language.proofs.parts.by_thread.Given as goal

-- what is left, put onto what was taken, gives all of it
abbrev pub invariant-loop-t : goal.invariant-loop-t
invariant-loop-t l = onto (map (λ t. (t.0.0, t.1)) l.threads.items) (from_entries l.map.entries) ≡ threads_of l.fn.threads.items

abbrev pub decreases-loop-t : goal.decreases-loop-t
decreases-loop-t l = length l.threads.items

use Rattle.std.proofs.Common.{◌≡◌, map, take}
use Rattle.stab_code.specs.Program.{tree_at}
use Rattle.language.specs.Program.{expr_of}
use Rattle.plain_language.proofs.body.+written.Given as goal

abbrev pub decreases-written : goal.decreases-written
decreases-written l = l.n.0

abbrev pub invariant-loop-part : goal.invariant-loop-part
invariant-loop-part l = l.parts.items ≡ map (λ k. expr_of (tree_at l.program k)) (take l.part-index l.part-items)

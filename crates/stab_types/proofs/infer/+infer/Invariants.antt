use Rattle.stab_types.proofs.Going.{IsGoing}
use Rattle.stab_types.proofs.infer.+infer.Given as goal

abbrev pub decreases-infer : goal.decreases-infer
decreases-infer l = l.n.0

abbrev pub invariant-loop-i : goal.invariant-loop-i
invariant-loop-i l = IsGoing l.program.functions l.program l.initial.types l.types l.initial.seen l.seen l.hidden.items l.node.head l.node.parts l.i l.parts.items

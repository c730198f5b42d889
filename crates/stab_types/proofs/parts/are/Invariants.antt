use Rattle.std.proofs.Common.{◌≡◌, drop}
use Rattle.stab_types.specs.Rows.{are_given}
use Rattle.stab_types.proofs.parts.are.Given as goal

abbrev pub invariant-loop-i : goal.invariant-loop-i
invariant-loop-i l = are_given l.parts l.wanted ≡ are_given (drop l.i l.parts) (drop l.i l.wanted)

-- The lines of the values so far.
use Rattle.std.proofs.Common.{◌≡◌, ◌++◌, take}
use Rattle.std.specs.List.{flat_map}
use Rattle.stab_base.specs.Printed.{printed}
use Rattle.language.specs.Shown.{line}
use Rattle.state_text.proofs.text.put_values.Given as goal

abbrev pub invariant-loop-value : goal.invariant-loop-value
invariant-loop-value l = l.text.items ≡ l.initial.text.items ++ flat_map (λ v. line (printed l.texts v)) (take l.value-index l.values)

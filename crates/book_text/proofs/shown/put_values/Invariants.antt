use Rattle.std.proofs.Common.{◌≡◌, ◌++◌}
use Rattle.std.specs.List.{flat_map}
use Rattle.stab_base.specs.Printed.{printed}
use Rattle.language.specs.Shown.{line}
use Rattle.book_text.proofs.shown.put_values.Given as goal

abbrev pub invariant-loop-value : goal.invariant-loop-value
invariant-loop-value l =
    l.text.items ++ flat_map (λ v. line (printed l.texts v)) l.value-iterator ≡ l.fn.text.items ++ flat_map (λ v. line (printed l.texts v)) l.fn.values

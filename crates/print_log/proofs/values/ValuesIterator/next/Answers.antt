use Rattle.std.proofs.Common.{◌++◌, List, ap, ◌∙◌}
use Rattle.print_log.specs.declared.recent.Entry.{Entry}
use Rattle.print_log.proofs.Entries.{values_first, values_in, values_none}
use Rattle.print_log.proofs.values.ValuesIterator.next.Goals as goal

pub returns-in-Some-value-clause-steps : goal.returns-in-Some-value-clause-steps
returns-in-Some-value-clause-steps c =
    c.loop-entry.invariant.left
    ∙ ap (λ (es : List Entry). c.loop-entry.self-inside.finals.now ++ values_in es) c.in-Some-split_first.ensures.cases.0
    ∙ values_first c.loop-entry.self-inside.finals.now c.in-Some-split_first.entry.now c.in-Some-split_first.others.now c.in-Some-value.value c.loop-entry.invariant.none c.in-Some-value.is

pub returns-clause-steps : goal.returns-clause-steps
returns-clause-steps c =
    let none = values_none c.loop-entry.self-inside.finals.now c.loop-entry.self-inside.recent.now c.loop-entry.invariant.none c.in_default-split_first.ensures.cases in
    (c.loop-entry.invariant.left ∙ none, none)

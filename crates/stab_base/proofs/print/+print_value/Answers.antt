-- What was appended before memory gave out is a prefix of the printed pair.
use Rattle.std.proofs.lemmas.Result.{err_from_is_err_and, on_err_weaker}
use Rattle.stab_base.specs.Printed.{printed}
use Rattle.stab_base.proofs.GainLemmas.{GainsPrefix-between, GainsPrefix-second_part, GainsPrefix-end}
use Rattle.stab_base.proofs.print.+print_value.Goals as goal

pub returns-in_err-put-in-Pair-2-clause-err : goal.returns-in_err-put-in-Pair-2-clause-err
returns-in_err-put-in-Pair-2-clause-err t c =
    let p = err_from_is_err_and c.from_residual-in_err-put-in-Pair-2.result c.from_residual-in_err-put-in-Pair-2.ensures.1 in
    rw (p.1, ← c.shape.ensures.same, c.in-Pair.is, ← c.deref-parts.ensures) (GainsPrefix-between c.args.out.now.items c.put-in-Pair.new.out.items c.print_value.new.out.items c.put-in-Pair-2.new.out.items
    (printed c.args.texts.now c.deref-parts.result.now.first) (printed c.args.texts.now c.deref-parts.result.now.second)
    c.in_ok-put-in-Pair.ensures.ok c.in_ok-print_value-in-Pair.ensures.ok c.in_err-put-in-Pair-2.ensures.err)

pub returns-in_err-print_value-in-Pair-2-clause-err :
    goal.returns-in_err-print_value-in-Pair-2-clause-err
returns-in_err-print_value-in-Pair-2-clause-err t c =
    let p = err_from_is_err_and c.from_residual-in_err-print_value-in-Pair-2.result c.from_residual-in_err-print_value-in-Pair-2.ensures.1 in
    rw (p.1, ← c.shape.ensures.same, c.in-Pair.is, ← c.deref-parts.ensures) (GainsPrefix-second_part c.args.out.now.items c.put-in-Pair.new.out.items c.print_value.new.out.items c.put-in-Pair-2.new.out.items c.print_value-in-Pair.new.out.items
    (printed c.args.texts.now c.deref-parts.result.now.first) (printed c.args.texts.now c.deref-parts.result.now.second)
    c.in_ok-put-in-Pair.ensures.ok c.in_ok-print_value-in-Pair.ensures.ok c.in_ok-put-in-Pair-2.ensures.ok c.in_err-print_value-in-Pair-2.ensures.err)

pub returns-in_ok-print_value-in-Pair-2-clause-err :
    goal.returns-in_ok-print_value-in-Pair-2-clause-err
returns-in_ok-print_value-in-Pair-2-clause-err t c =
    rw (← c.shape.ensures.same, c.in-Pair.is, ← c.deref-parts.ensures) (on_err_weaker c.put-in-Pair-3.result (λ g. GainsPrefix-end c.args.out.now.items c.put-in-Pair.new.out.items c.print_value.new.out.items c.put-in-Pair-2.new.out.items c.print_value-in-Pair.new.out.items c.put-in-Pair-3.new.out.items
    (printed c.args.texts.now c.deref-parts.result.now.first) (printed c.args.texts.now c.deref-parts.result.now.second)
    c.in_ok-put-in-Pair.ensures.ok c.in_ok-print_value-in-Pair.ensures.ok c.in_ok-put-in-Pair-2.ensures.ok c.in_ok-print_value-in-Pair-2.ensures.ok g) c.put-in-Pair-3.ensures.err)

-- What was appended before memory gave out is a prefix of the name and the number.
use Rattle.std.proofs.Common.{decimal}
use Rattle.std.proofs.lemmas.Result.{err_from_is_err_and, on_err_weaker}
use Rattle.stab_base.proofs.GainLemmas.{GainsPrefix-append, GainsPrefix-after}
use Rattle.stab_base.proofs.print.put_named.Goals as goal

pub returns-in_err-put-clause-err : goal.returns-in_err-put-clause-err
returns-in_err-put-clause-err c =
    let p = err_from_is_err_and c.from_residual.result c.from_residual.ensures.1 in
    rw (p.1) (GainsPrefix-append c.args.out.now.items c.put.new.out.items c.args.name.now (decimal c.args.n) c.in_err-put.ensures.err)

pub returns-clause-err : goal.returns-clause-err
returns-clause-err c =
    on_err_weaker c.put_number.result (λ g. GainsPrefix-after c.args.out.now.items c.put.new.out.items c.put_number.new.out.items c.args.name.now (decimal c.args.n) c.in_ok-put.ensures.ok g) c.put_number.ensures.err

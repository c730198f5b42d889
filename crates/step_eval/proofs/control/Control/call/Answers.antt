use Rattle.std.proofs.Common.{List, subst}
use Rattle.stab_base.specs.Datum.{Datum}
use Rattle.step_eval.specs.Entries.{IsBodyEntry}
use Rattle.step_eval.proofs.Calls.{called-expr, called-fits}
use Rattle.step_eval.proofs.control.Control.call.Goals as goal

pub returns-in-Ok-clause-expr : goal.returns-in-Ok-clause-expr
returns-in-Ok-clause-expr c =
    called-expr c.args.program.now c.args.f.0 c.args.args.items c.in-Ok.n c.in-Ok.value c.entered.result
    (subst (λ (xs : List Datum). IsBodyEntry c.args.program.now c.args.f.0 xs c.in-Ok.n c.in-Ok.value) c.deref.ensures.value c.in-Ok.ensures) c.entered.ensures.view

pub returns-in-Ok-clause-fits : goal.returns-in-Ok-clause-fits
returns-in-Ok-clause-fits c =
    called-fits c.args.program.now c.args.f.0 c.args.args.items c.in-Ok.n c.in-Ok.value c.entered.result
    (subst (λ (xs : List Datum). IsBodyEntry c.args.program.now c.args.f.0 xs c.in-Ok.n c.in-Ok.value) c.deref.ensures.value c.in-Ok.ensures) c.entered.ensures.view

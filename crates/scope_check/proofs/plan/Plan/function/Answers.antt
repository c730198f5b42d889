use Rattle.std.proofs.Common.{[], ◌+◌, ◌-◌, ap, length, map, refl, sym, subst, ◌∙◌}
use Rattle.scope_check.specs.Made.{IsFormMade, IsFunctionMade}
use Rattle.scope_check.specs.Seen.{params_seen}
use Rattle.scope_check.proofs.Functions.{function-made}
use Rattle.scope_check.proofs.plan.Plan.function.Goals as goal

pub returns-clause-ok : goal.returns-clause-ok
returns-clause-ok c =
    let plan = c.args.self.now in
    let f = c.args.function.now in
    let old = c.args.progress.now in
    let begun = c.begin.new.self in
    let new = c.form.new.progress in
    let e = c.all-params.ensures in
    let made = subst (λ ps. IsFormMade plan.bytes.now plan.functions.now (length ps) plan.forms.now (f.forms_end - 1) begun new) e c.in_ok-form.ensures.ok in
    subst (λ m. IsFunctionMade plan.bytes.now plan.functions.now plan.forms.now f old new m) (sym c.new.ensures)
    (function-made plan.bytes.now plan.functions.now plan.forms.now f old begun (c.in_ok-begin.ensures.seen ∙ ap (λ ps. params_seen 0 ps []) e) c.in_ok-begin.ensures.lets c.in_ok-begin.ensures.heads c.in_ok-begin.ensures.texts
    new c.in_ok-takes.takes.items c.in_ok-gives.gives (length c.all-params.result.now + new.lets) (f.forms_end - 1) made
    (c.in_ok-takes.ensures.types ∙ ap (map (λ x. x.ty)) e) c.in_ok-gives.ensures.ty (ap (λ ps. length ps + new.lets) e) refl)

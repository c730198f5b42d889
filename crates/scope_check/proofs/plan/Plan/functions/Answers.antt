use Rattle.std.proofs.Common.{◌+◌, arith, refl, sym, subst}
use Rattle.std.proofs.lemmas.Option.{slice_get_read}
use Rattle.std.proofs.lemmas.Result.{err_from_is_err_and}
use Rattle.scope_check.proofs.Functions.{FunctionsSoFar, functions-all, functions-fault, functions-next, functions-none}
use Rattle.scope_check.proofs.plan.Plan.functions.Goals as goal

pub loop-function-init : goal.loop-function-init
loop-function-init c =
    let plan = c.args.self.now in
    functions-none plan.bytes.now plan.functions.now plan.forms.now c.args.progress.now c.new-functions.result.items c.requires.none_made c.requires.none c.new-functions.ensures.items

pub returns-in_err-function-clause-fault : goal.returns-in_err-function-clause-fault
returns-in_err-function-clause-fault c =
    let p = err_from_is_err_and c.from_residual.result c.from_residual.ensures.1 in
    let plan = c.args.self.now in
    let i = c.loop-function.function-index in
    let found = slice_get_read plan.functions.now _ i c.function-item.result refl c.loop-function-test.true c.function-item.is in
    rw (p.1, p.2) (functions-fault plan.bytes.now plan.functions.now plan.forms.now c.loop-function.progress c.loop-function.functions.items i c.function-item.result found c.loop-function.invariant
    c.in_err-function.field-0.0 c.in_err-function.ensures.fault c.loop-function-test.true)

pub loop-function-preserved : goal.loop-function-preserved
loop-function-preserved c =
    let plan = c.args.self.now in
    let i = c.loop-function.function-index in
    let found = slice_get_read plan.functions.now _ i c.function-item.result refl c.loop-function-test.true c.function-item.is in
    subst (λ l. FunctionsSoFar plan.bytes.now plan.functions.now plan.forms.now c.function.new.progress l (i + 1)) (sym c.in_ok-push.ensures.items)
    (functions-next plan.bytes.now plan.functions.now plan.forms.now c.loop-function.progress c.loop-function.functions.items i c.function-item.result found c.loop-function.invariant
    c.function.new.progress c.in_ok-function.field-0 c.in_ok-function.ensures.ok)

pub returns-clause-ok : goal.returns-clause-ok
returns-clause-ok c =
    let plan = c.args.self.now in
    functions-all plan.bytes.now plan.functions.now plan.forms.now c.loop-function.progress c.loop-function.functions.items c.loop-function.function-index
    (omega (arith, c.loop-function-test.false, c.loop-function.auto.function-index-end)) c.loop-function.invariant

use Rattle.scope_check.proofs.Functions.{FunctionsSoFar}
use Rattle.scope_check.proofs.plan.Plan.functions.Given as goal

abbrev pub invariant-loop-function : goal.invariant-loop-function
invariant-loop-function l = FunctionsSoFar l.self.bytes.now l.self.functions.now l.self.forms.now l.progress l.functions.items l.function-index

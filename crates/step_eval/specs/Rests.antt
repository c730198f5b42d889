-- Whether an expression has ended.
use Rattle.language.specs.Expression.{Expr, value, failed}
use Rattle.step_eval.specs.declared.rest.Rest.{Rest}
use Rattle.step_eval.specs.declared.rest.Rest.TheVariants.{Going, Done, Failed}

abbrev pub rest_of : Expr → Rest
rest_of (value v) = Done
rest_of (failed k) = Failed k
rest_of e = Going

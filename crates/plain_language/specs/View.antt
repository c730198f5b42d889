-- The expression that a node in memory is.
use Rattle.plain_language.specs.declared.expr.Node.{Node}
use Rattle.plain_language.specs.declared.expr.Node.TheVariants.{Value, Var, Fault, Form}
use Rattle.language.specs.Expression.{Expr, value, variable, failed, form, parts_of}

abbrev pub node_expr : Node → Expr
node_expr (Value v) = value v
node_expr (Var x) = variable x
node_expr (Fault k) = failed k
node_expr (Form h ps) = form h (parts_of ps.items)

-- Each part of an expression is smaller than the expression.
use Rattle.std.specs.Prelude.{◌≤◌, max}
use Rattle.std.proofs.Common.{arith}
use Rattle.plain_language.specs.declared.expr.Node.{Node}
use Rattle.plain_language.specs.declared.expr.Node.TheVariants.{Value, Var, Fault, Form}
use Rattle.plain_language.specs.declared.expr.Expr.TheDeep.{deep-Node}
use Rattle.language.specs.Size.{size_of, most_le-size_of_parts}
use Rattle.plain_language.specs.View.{node_expr}

pub deep_le-size : (n : Node) → max (deep-Node n) 0 ≤ size_of (node_expr n)
deep_le-size (Value v) = omega arith
deep_le-size (Var x) = omega arith
deep_le-size (Fault k) = omega arith
deep_le-size (Form h ps) = omega (arith, most_le-size_of_parts ps.items)

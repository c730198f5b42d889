use Rattle.std.proofs.Common.{◌≡◌, subst, IfOk}
use Rattle.language.specs.Expression.{Expr}
use Rattle.plain_language.proofs.Blocks.{put-given_nothing}
use Rattle.plain_language.proofs.expr.Expr.copy.Goals as goal

pub returns : goal.returns
returns c = subst (λ (x : Expr). IfOk c.put_copy.result (λ copy. copy ≡ x)) (put-given_nothing c.args.self.now) c.put_copy.ensures

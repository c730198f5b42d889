use Rattle.image_text.proofs.ExpressionLaws.{expression_was, expression_written}
use Rattle.image_text.proofs.laws.expressions_read_back.Goals as goal

pub returns-clause-written : goal.returns-clause-written
returns-clause-written c = expression_written

pub returns-clause-exact : goal.returns-clause-exact
returns-clause-exact c = expression_was

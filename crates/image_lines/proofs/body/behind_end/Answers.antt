use Rattle.std.proofs.Common.{length, sym, ap}
use Rattle.std.proofs.lemmas.Bool.{eqb-false}
use Rattle.image_lines.proofs.BodySteps.{something_behind}
use Rattle.image_lines.proofs.body.behind_end.Goals as goal

pub returns-else-is_empty : goal.returns-else-is_empty
returns-else-is_empty c = sym (something_behind c.args.at c.args.others.now (λ none. eqb-false (length c.args.others.now) 0 (sym c.if-is_empty.ensures) (ap length none)))

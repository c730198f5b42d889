use Rattle.std.proofs.Common.{◌∙◌, ap}
use Rattle.language.specs.Outcome.{becomes}
use Rattle.plain_language.proofs.Blocks.{put-given_nothing, waiting_two, waiting_wrong}
use Rattle.plain_language.proofs.pure.waiting.Goals as goal

pub returns-in_ok-put_copy : goal.returns-in_ok-put_copy
returns-in_ok-put_copy c = ap becomes (c.in_ok-put_copy.ensures ∙ put-given_nothing c.index-parts-1.result ∙ c.index-parts-1.is) ∙ waiting_two c.args.parts.now _ c.if-parts-eq2.true

pub returns-else-parts-eq2 : goal.returns-else-parts-eq2
returns-else-parts-eq2 c = c.wrong_kind.ensures ∙ waiting_wrong c.args.parts.now c.if-parts-eq2.false

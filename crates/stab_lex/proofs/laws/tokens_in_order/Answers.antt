use Rattle.stab_lex.proofs.Spans.{reads_in_order, reads_slices}
use Rattle.stab_lex.proofs.laws.tokens_in_order.Goals as goal

pub returns-clause-order : goal.returns-clause-order
returns-clause-order c = λ bytes tokens read. reads_in_order read

pub returns-clause-slices : goal.returns-clause-slices
returns-clause-slices c = λ bytes tokens read. reads_slices read

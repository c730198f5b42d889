use Rattle.std.proofs.Common.{subst, length}
use Rattle.std.specs.List.{AllByRecursion}
use Rattle.std.proofs.lemmas.Result.{IfOk-weaker}
use Rattle.stab_lex.specs.declared.token.Token.{Token}
use Rattle.std.proofs.Common.{Vec}
use Rattle.std.proofs.Common.{Global}
use Rattle.stab_lex.specs.Readings.{Reads, InOrder, IsSlice}
use Rattle.stab_lex.proofs.Spans.{reads_in_order, reads_slices}
use Rattle.stab_lex.proofs.tokens.lex.Goals as goal

pub returns-in-Ok-clause-order : goal.returns-in-Ok-clause-order
returns-in-Ok-clause-order c =
    IfOk-weaker c.text_tokens.result
    (λ (tokens : Vec Token Global). Reads c.in-Ok.text.now tokens.items)
    (λ (tokens : Vec Token Global). InOrder 0 tokens.items (length c.args.bytes.now))
    (λ tokens read. subst (λ bs. InOrder 0 tokens.items (length bs)) c.in-Ok.ensures.cases.0 (reads_in_order read))
    c.text_tokens.ensures.read

pub returns-in-Ok-clause-slices : goal.returns-in-Ok-clause-slices
returns-in-Ok-clause-slices c =
    IfOk-weaker c.text_tokens.result
    (λ (tokens : Vec Token Global). Reads c.in-Ok.text.now tokens.items)
    (λ (tokens : Vec Token Global). AllByRecursion (IsSlice c.args.bytes.now) tokens.items)
    (λ tokens read. subst (λ bs. AllByRecursion (IsSlice bs) tokens.items) c.in-Ok.ensures.cases.0 (reads_slices read))
    c.text_tokens.ensures.read

use Rattle.std.proofs.Common.{◌∙◌, ◌++◌}
use Rattle.stab_lex.specs.Readings.{token_of}
use Rattle.stab_lex.proofs.Progress.{ReadTo-more, reads_all}
use Rattle.stab_lex.proofs.tokens.text_tokens.Goals as goal

pub loop-first-preserved : goal.loop-first-preserved
loop-first-preserved c =
    ReadTo-more c.loop-first.invariant c.in_ok-kind.ensures
    (c.in_ok-push_token.ensures.ok ∙ (λ i. c.loop-first.tokens.items ++ token_of c.in_ok-kind.kind (c.at-start.ensures i) (c.at.ensures i)))

pub returns-clause-read : goal.returns-clause-read
returns-clause-read c = reads_all c.utf8.text c.loop-first.invariant c.in_default.ensures

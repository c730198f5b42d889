use Rattle.stab_lex.proofs.TextCharacters.{answers_quote, answers_backslash, answers_plain}
use Rattle.stab_lex.proofs.literal.next_character.Goals as goal

pub returns-then-c-eq34-clause-next : goal.returns-then-c-eq34-clause-next
returns-then-c-eq34-clause-next c = λ cs written. answers_quote cs c.in_ok-c.ensures written c.if-c-eq34.true

pub returns-then-c-eq92-clause-next : goal.returns-then-c-eq92-clause-next
returns-then-c-eq92-clause-next c = λ cs written. answers_backslash cs c.in_ok-c.ensures written c.bump-then-c-eq92.new.self c.bump-then-c-eq92.result c.if-c-eq92.true c.bump-then-c-eq92.ensures

pub returns-clause-next : goal.returns-clause-next
returns-clause-next c = λ cs written. answers_plain cs c.in_ok-c.ensures written c.if-c-eq34.false c.if-c-eq92.false

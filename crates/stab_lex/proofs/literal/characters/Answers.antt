use Rattle.std.proofs.Common.{ap, ◌∙◌}
use Rattle.std.specs.Str.{chars}
use Rattle.stab_lex.specs.Place.{Place}
use Rattle.stab_lex.proofs.TextCharacters.{ReadsTo-begin, ReadsTo-more, ReadsTo-all}
use Rattle.stab_lex.proofs.literal.characters.Goals as goal

pub loop-c-init : goal.loop-c-init
loop-c-init c = λ cs text.
    ReadsTo-begin cs c.args.literal.now _ c.new-cursor.result c.bump.new.self c.bump.result text
    (ap (λ (p : Place). p.rest) c.new-cursor.ensures ∙ ap chars c.in-Ok.ensures.cases.0)
    c.new-text.ensures.bytes c.bump.ensures

pub loop-c-preserved : goal.loop-c-preserved
loop-c-preserved c = λ cs text.
    ReadsTo-more c.next_character.new.cursor c.in-Some.c _ (c.loop-c.invariant cs text) c.in-Some.ensures.next c.in_ok-push.ensures.bytes

pub returns-clause-characters : goal.returns-clause-characters
returns-clause-characters c = λ cs text. ReadsTo-all c.next_character.new.cursor (c.loop-c.invariant cs text) c.in_default-next_character.ensures.next

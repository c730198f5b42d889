use Rattle.std.proofs.Common.{◌≡◌, ◌∷◌, Some, ◌∙◌, ap, sym, arith}
use Rattle.std.proofs.lemmas.Grind.{common_steps}
use Rattle.language.specs.Expression.{parts_of}
use Rattle.language.specs.Outcome.{becomes}
use Rattle.plain_language.specs.Pures.{left_of_block}
use Rattle.plain_language.proofs.Blocks.{block_of-left, item_is}
use Rattle.plain_language.proofs.pure.item.Goals as goal

pub returns-in_ok-parts-in-Some-slot : goal.returns-in_ok-parts-in-Some-slot
returns-in_ok-parts-in-Some-slot c =
    let all : c.args.parts.now ≡ c.in-Some.first.now ∷ c.in-Some.rest.now = first_of (cc, grind (arith, common_steps)) in
    let cut : c.args.slots.now ≡ Some c.in-Some-slot.x ∷ c.in-Some-split_first.others.now = first_of (cc, grind (arith, common_steps)) in
    let slots : c.in_ok-slots.slots ≡ c.in-Some-split_first.others.now = c.in_ok-slots.ensures in
    ap becomes (c.left.ensures ∙ ap (λ s. left_of_block s (parts_of c.in_ok-parts-in-Some-slot.parts.items)) slots ∙ ap (left_of_block c.in-Some-split_first.others.now) c.in_ok-parts-in-Some-slot.ensures)
    ∙ sym (block_of-left c.in-Some-split_first.others.now _)
    ∙ item_is c.args.parts.now c.in-Some.rest.now c.in-Some.first.now c.in-Some-as_value.v.now c.args.slots.now c.in-Some-split_first.others.now (Some c.in-Some-slot.x)
    all c.in-Some-as_value.ensures cut

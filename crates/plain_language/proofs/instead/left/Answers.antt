use Rattle.std.proofs.Common.{◌∙◌, ap, nat_eq, length}
use Rattle.plain_language.proofs.Blocks.{left_items, left_many}
use Rattle.plain_language.proofs.instead.left.Goals as goal
use Rattle.plain_language.proofs.instead.left.Goals.{else-is_empty-via-then-is_empty+else-len-eq1, else-is_empty-via-else-is_empty}

pub returns-else-is_empty : goal.returns-else-is_empty
returns-else-is_empty c =
    c.form.ensures
    ∙ elim c.else-is_empty.branch [
      | else-is_empty-via-then-is_empty+else-len-eq1 w ↦ left_many c.args.slots c.args.parts.items (λ one. w.if-len-eq1.false (w.len.ensures ∙ c.args.parts.ok.0 ∙ one))
      | else-is_empty-via-else-is_empty w ↦ left_items c.args.slots c.args.parts.items c.is_empty.result (c.is_empty.ensures ∙ ap (λ s. nat_eq (length s) 0) c.all.ensures) w.if-is_empty.false
    ]

use Rattle.std.proofs.Common.{sym}
use Rattle.stab_types.proofs.RowLemmas.{block_none_row, block_never_row, block_last_row}
use Rattle.stab_types.proofs.plain.block.Goals as goal

pub returns-then-parts-items : goal.returns-then-parts-items
returns-then-parts-items c = λ types below. block_none_row c.args.slots.now c.args.parts.now c.if-items-eq0.false types below c.if-parts-items.true

pub returns-then-has_never : goal.returns-then-has_never
returns-then-has_never c = λ types below. block_never_row c.args.slots.now c.args.parts.now c.if-items-eq0.false types below c.if-parts-items.false (sym c.if-has_never.ensures)

pub returns : goal.returns
returns c = λ types below. block_last_row c.args.slots.now c.args.parts.now c.if-items-eq0.false types below _ c.if-parts-items.false (sym c.if-has_never.ensures)

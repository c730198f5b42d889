use Rattle.stab_types.proofs.RowLemmas.{are_lengths}
use Rattle.stab_types.proofs.parts.are.Goals as goal

pub returns-then-parts-wanted : goal.returns-then-parts-wanted
returns-then-parts-wanted c = are_lengths c.args.parts.now c.args.wanted.now c.if-parts-wanted.true

use Rattle.std.proofs.Common.{sym, ◌∙◌}
use Rattle.stab_types.proofs.RowLemmas.{same_test}
use Rattle.stab_types.proofs.rows.is_same.Goals as goal

pub returns : goal.returns
returns c = λ all l. same_test c.args.types.now c.apart.ensures all l c.args.a c.args.b c.requires.first c.requires.second ∙ sym c.eq.ensures

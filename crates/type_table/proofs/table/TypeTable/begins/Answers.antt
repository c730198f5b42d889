use Rattle.std.proofs.Common.{List, subst}
use Rattle.stab_code.specs.Written.{Written}
use Rattle.type_table.specs.Table.{base_types, IsLonger}
use Rattle.type_table.proofs.Types.{after_longer}
use Rattle.type_table.proofs.table.TypeTable.begins.Goals as goal

pub returns : goal.returns
returns c = subst (λ (ts : List Written). IsLonger base_types ts) c.self.view_is (after_longer base_types c.self.inside.shapes.keys)

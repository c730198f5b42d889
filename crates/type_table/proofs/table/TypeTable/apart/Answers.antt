use Rattle.std.proofs.Common.{◌≡◌, ◌<◌, List, ◌++◌, length, sym, subst}
use Rattle.stab_code.specs.Written.{Written}
use Rattle.type_table.specs.Table.{types_of, base_shapes, IsLonger}
use Rattle.type_table.proofs.Types.{equal_numbers}
use Rattle.type_table.proofs.table.TypeTable.apart.Goals as goal

pub returns : goal.returns
returns c = λ all l m n low high same.
    let keys = base_shapes ++ c.self.inside.shapes.keys in
    let v : types_of keys ≡ c.args.self.now = c.self.view_is in
    let longer : IsLonger (types_of keys) all = subst (λ (ts : List Written). IsLonger ts all) (sym v) l in
    equal_numbers keys c.self.invariant.0 all longer c.self.invariant.1 m n (subst (λ (ts : List Written). m.0 < length ts) (sym v) low) (subst (λ (ts : List Written). n.0 < length ts) (sym v) high) same

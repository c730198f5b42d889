use Rattle.std.proofs.Common.{◌≡◌, ◌<◌, ◌-◌, List, ◌++◌, length, sym, subst, ◌∙◌, arith, length-append}
use Rattle.stab_code.specs.Written.{Written}
use Rattle.type_table.specs.Table.{types_of, base_shapes, base_types, IsLonger}
use Rattle.type_table.proofs.Types.{types_at, length-types_of, longer_trans, base_at, behind_base}
use Rattle.type_table.proofs.table.TypeTable.shape.Goals as goal

pub returns-then-n-lt-BASE-clause-is : goal.returns-then-n-lt-BASE-clause-is
returns-then-n-lt-BASE-clause-is c = λ all l.
    base_at all (longer_trans base_types c.args.self.now all c.begins.ensures l) c.args.n.0 c.base_shape.result c.base_shape.ensures

pub index-requires : goal.index-requires
index-requires c =
    let keys = c.self.inside.shapes.keys in
    let v : types_of (base_shapes ++ keys) ≡ c.args.self.now = c.self.view_is in
    let within : c.args.n.0 < length (types_of (base_shapes ++ keys)) = subst (λ (ts : List Written). c.args.n.0 < length ts) (sym v) c.requires in
    omega (arith, length-types_of (base_shapes ++ keys), length-append base_shapes keys, c.if-n-lt-BASE.false)

pub returns-clause-is : goal.returns-clause-is
returns-clause-is c = λ all l.
    let keys = c.self.inside.shapes.keys in
    let v : types_of (base_shapes ++ keys) ≡ c.args.self.now = c.self.view_is in
    let longer : IsLonger (types_of (base_shapes ++ keys)) all = subst (λ (ts : List Written). IsLonger ts all) (sym v) l in
    let at = behind_base keys (c.args.n.0 - 4) c.args.n.0 (omega (arith, c.if-n-lt-BASE.false)) in
    types_at (base_shapes ++ keys) c.self.invariant.0 all longer c.args.n.0 c.index.result.now (at ∙ c.index.ensures)

pub returns-clause-below : goal.returns-clause-below
returns-clause-below c =
    let keys = c.self.inside.shapes.keys in
    let at = behind_base keys (c.args.n.0 - 4) c.args.n.0 (omega (arith, c.if-n-lt-BASE.false)) in
    c.self.invariant.0 c.args.n.0 c.index.result.now (at ∙ c.index.ensures)

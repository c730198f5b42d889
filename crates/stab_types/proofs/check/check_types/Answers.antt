use Rattle.std.proofs.Common.{refl, sym, subst}
use Rattle.std.specs.Prelude.{IsNone}
use Rattle.std.specs.Arc.{arc_value}
use Rattle.stab_types.specs.Typed.{IsTyped}
use Rattle.stab_types.proofs.check.check_types.Goals as goal

pub new-requires : goal.new-requires
new-requires c =
    let all : IsTyped (arc_value c.args.program.now) = subst IsTyped c.deref.ensures (c.in_ok-f.ensures.none (subst IsNone (sym c.in_default.is) refl)) in
    subst IsTyped (sym c.in-Ok.ensures) all

pub returns-clause-typed : goal.returns-clause-typed
returns-clause-typed c = subst IsTyped c.deref.ensures (c.in_ok-f.ensures.none (subst IsNone (sym c.in_default.is) refl))

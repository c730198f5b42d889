use Rattle.std.proofs.Common.{sym, ap, map, arith, ◌∙◌}
use Rattle.stab_types.specs.Given.{seen_of, type_of}
use Rattle.stab_types.specs.Computed.{going}
use Rattle.stab_types.proofs.RowLemmas.{ok_then, recomputed, alone_empty, going_plain}
use Rattle.stab_types.proofs.rule.going.Goals as goal

pub returns-else-parts-gt0 : goal.returns-else-parts-gt0
returns-else-parts-gt0 c = λ fs are. recomputed c.args.types.now c.args.types.now c.variable.result _ _ (c.variable.ensures.is c.args.types.now c.requires.seen)
    (λ all. sym (alone_empty all c.args.parts.now _ (omega arith)) ∙ ap (λ h. going fs (seen_of all c.args.seen.now) h (map (type_of all) c.args.parts.now)) (sym c.in-Var.is))

pub returns-in-Call : goal.returns-in-Call
returns-in-Call c = λ fs are. recomputed c.args.types.now c.args.types.now c.called.result _ _ (c.called.ensures fs are)
    (λ all. ap (λ h. going fs (seen_of all c.args.seen.now) h (map (type_of all) c.args.parts.now)) (sym c.in-Call.is))

pub returns-in-Stable : goal.returns-in-Stable
returns-in-Stable c = λ fs are. recomputed c.args.types.now c.args.types.now c.called-in-Stable.result _ _ (c.called-in-Stable.ensures fs are)
    (λ all. ap (λ h. going fs (seen_of all c.args.seen.now) h (map (type_of all) c.args.parts.now)) (sym c.in-Stable.is))

pub returns-in-Spawn : goal.returns-in-Spawn
returns-in-Spawn c = ok_then c.spawned.result c.spawned.ensures
    (λ found h fs are. recomputed c.args.types.now c.spawned.new.types found _ _ (h fs are) (λ all. ap (λ h. going fs (seen_of all c.args.seen.now) h (map (type_of all) c.args.parts.now)) (sym c.in-Spawn.is)))

pub returns-in_default : goal.returns-in_default
returns-in_default c = ok_then c.plain_type.result c.plain_type.ensures
    (λ found h fs are. recomputed c.args.types.now c.plain_type.new.types found _ _ h (λ all. sym (going_plain fs (seen_of all c.args.seen.now) c.args.head.now (map (type_of all) c.args.parts.now) c.in_default.not-Var c.in_default.not-Call c.in_default.not-Stable c.in_default.not-Spawn)))

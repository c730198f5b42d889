use Rattle.std.proofs.Common.{List, [], ◌∷◌, ◌++◌, take, get_or, subst, sym, ◌∙◌}
use Rattle.std.proofs.lemmas.List.{take_more}
use Rattle.stab_code.specs.Written.{Written}
use Rattle.type_table.specs.declared.shape.TypeId.{TypeId}
use Rattle.stab_types.specs.Checked.{AreNumbered, IsNumbered}
use Rattle.stab_types.proofs.Numbering.{numbered_more}
use Rattle.stab_types.proofs.numbers.numbers_of.Goals as goal

pub loop-ty-preserved : goal.loop-ty-preserved
loop-ty-preserved c =
    let i = c.loop-ty.ty-index in
    let ws : List Written = c.args.takes.now in
    let w : Written = get_or ws i c.ty-item.result in
    let n = c.in_ok-number_of.field-0 in
    let one : IsNumbered c.loop-ty.types c.number_of.new.types n w = subst (λ (u : Written). IsNumbered c.loop-ty.types c.number_of.new.types n u) (c.form.ensures ∙ c.ty-item.is) c.in_ok-number_of.ensures in
    let all : AreNumbered c.args.types.now c.number_of.new.types (c.loop-ty.numbers.items ++ n ∷ []) (take i ws ++ w ∷ []) =
    numbered_more c.args.types.now c.loop-ty.types c.number_of.new.types c.loop-ty.numbers.items (take i ws) n w c.loop-ty.invariant one in
    subst (λ (us : List Written). AreNumbered c.args.types.now c.number_of.new.types c.push.new.self.items us) (sym (take_more ws i c.ty-item.result c.loop-ty-test.true))
    (subst (λ (ns : List TypeId). AreNumbered c.args.types.now c.number_of.new.types ns (take i ws ++ w ∷ [])) (sym c.in_ok-push.ensures.items) all)

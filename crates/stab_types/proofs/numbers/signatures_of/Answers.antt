use Rattle.std.proofs.Common.{◌≡◌, ◌+◌, List, [], ◌∷◌, ◌++◌, take, slice_get, Some, subst, sym, ap, ◌∙◌}
use Rattle.std.proofs.lemmas.List.{take_more}
use Rattle.std.proofs.lemmas.Option.{slice_get_within, get_or_from_slice_get}
use Rattle.stab_code.specs.Program.{FunctionParts}
use Rattle.stab_code.specs.Written.{Written}
use Rattle.stab_types.specs.declared.given.Signature.{Signature}
use Rattle.stab_types.specs.Checked.{AreNumbered, IsNumbered}
use Rattle.stab_types.specs.Given.{AreSignatures}
use Rattle.stab_types.proofs.Numbering.{signatures_snoc}
use Rattle.stab_types.proofs.numbers.signatures_of.Goals as goal

pub loop-k-preserved : goal.loop-k-preserved
loop-k-preserved c =
    let k = c.loop-k.k in
    let fs : List FunctionParts = c.args.program.now.functions in
    let f : FunctionParts = c.in-Some.function.now in
    let found : slice_get fs k ≡ Some f = sym c.in-Some.ensures.value in
    let s : Signature = record { takes = c.in_ok-takes.takes; gives = c.in_ok-gives.gives } in
    let takes : AreNumbered c.loop-k.types c.numbers_of.new.types s.takes.items f.takes = subst (λ (ws : List Written). AreNumbered c.loop-k.types c.numbers_of.new.types s.takes.items ws) c.takes.ensures c.in_ok-takes.ensures in
    let gives : IsNumbered c.numbers_of.new.types c.number_of.new.types s.gives f.gives = subst (λ (w : Written). IsNumbered c.numbers_of.new.types c.number_of.new.types s.gives w) (c.form.ensures ∙ c.gives.ensures) c.in_ok-gives.ensures in
    let all : AreSignatures c.number_of.new.types (c.loop-k.signatures.items ++ s ∷ []) (take k fs ++ f ∷ []) =
    signatures_snoc c.loop-k.types c.numbers_of.new.types c.number_of.new.types c.loop-k.signatures.items (take k fs) s f c.loop-k.invariant takes gives in
    let more : take (k + 1) fs ≡ take k fs ++ f ∷ [] = take_more fs k f (slice_get_within fs k f found) ∙ ap (λ g. take k fs ++ g ∷ []) (get_or_from_slice_get fs k f f found) in
    subst (λ (gs : List FunctionParts). AreSignatures c.number_of.new.types c.push.new.self.items gs) (sym more)
    (subst (λ (ss : List Signature). AreSignatures c.number_of.new.types ss (take k fs ++ f ∷ [])) (sym c.in_ok-push.ensures.items) all)

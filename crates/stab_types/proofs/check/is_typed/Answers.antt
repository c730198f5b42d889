use Rattle.std.proofs.Common.{◌≡◌, ◌<◌, ◌≤◌, ℕ, nat_lt, Bool, List, length, map, slice_get, Some, true, sym, ap, subst, ◌∙◌, arith}
use Rattle.std.specs.Prelude.{option_map}
use Rattle.std.specs.List.{All, AllByRecursion}
use Rattle.std.proofs.lemmas.Option.{slice_get-get_or}
use Rattle.stab_code.specs.declared.node_id.NodeId.{NodeId}
use Rattle.stab_code.specs.Program.{FunctionParts, arity_of, body_of, tree_at}
use Rattle.stab_code.specs.Syntax.{named_in}
use Rattle.stab_code.specs.Written.{Written}
use Rattle.type_table.specs.declared.shape.TypeId.{TypeId}
use Rattle.type_table.specs.Table.{type_at, IsLonger}
use Rattle.type_table.proofs.Types.{longer_refl, longer_length}
use Rattle.stab_types.specs.declared.given.Signature.{Signature}
use Rattle.stab_types.specs.Checked.{IsVerdictOn}
use Rattle.stab_types.specs.Computed.{type_in}
use Rattle.stab_types.specs.Typed.{Seen, parameters}
use Rattle.stab_types.specs.Given.{AreSeenBelow, is_given_as, parameters_in, seen_of, type_of}
use Rattle.stab_types.proofs.Putting.{some_is}
use Rattle.stab_types.proofs.Judging.{verdict, same_length, takes_length, gives_is, gives_low, length-parameters_in, parameters_below, parameters_seen, takes_low}
use Rattle.stab_types.proofs.check.is_typed.Goals as goal

pub unreachable-requires-in_default-get : goal.unreachable-requires-in_default-get
unreachable-requires-in_default-get c =
    let T = c.args.types.now in
    let size = same_length (λ (s : Signature). map (type_at T) s.takes.items) (λ (f : FunctionParts). f.takes) c.args.signatures.now c.args.program.now.functions (c.requires.signatures.takes T (longer_refl T)) in
    absurd (omega (arith, size, c.in_default-get.ensures.lookup.3, c.requires.there))

pub parameters-requires : goal.parameters-requires
parameters-requires c =
    let p = c.args.program.now in
    let T = c.args.types.now in
    let f : FunctionParts = c.in-Some.function.now in
    let found : slice_get p.functions c.args.f.0 ≡ Some f = sym c.in-Some.ensures.value in
    let s : Signature = c.in-Some-get.signature.now in
    let at : slice_get c.args.signatures.now c.args.f.0 ≡ Some s = slice_get-get_or c.args.signatures.now c.args.f.0 s c.in-Some-get.ensures.lookup.3.0 ∙ ap Some (sym c.in-Some-get.ensures.lookup.1) in
    let arity : arity_of f ≤ f.slots = c.functions_fit.ensures.arity p c.in-Some.ensures.valid c.args.f.0 f found in
    let same : length s.takes.items ≡ arity_of f = takes_length T c.args.signatures.now p.functions c.requires.signatures c.args.f.0 s f at found in
    let long : length c.deref.result.now ≡ length s.takes.items = ap length c.deref.ensures.value in
    omega (arith, c.slots.ensures)

pub infer-requires-clause-slots : goal.infer-requires-clause-slots
infer-requires-clause-slots c =
    let p = c.args.program.now in
    let T = c.args.types.now in
    let f : FunctionParts = c.in-Some.function.now in
    let found : slice_get p.functions c.args.f.0 ≡ Some f = sym c.in-Some.ensures.value in
    let s : Signature = c.in-Some-get.signature.now in
    let at : slice_get c.args.signatures.now c.args.f.0 ≡ Some s = slice_get-get_or c.args.signatures.now c.args.f.0 s c.in-Some-get.ensures.lookup.3.0 ∙ ap Some (sym c.in-Some-get.ensures.lookup.1) in
    let arity : arity_of f ≤ f.slots = c.functions_fit.ensures.arity p c.in-Some.ensures.valid c.args.f.0 f found in
    let same : length s.takes.items ≡ arity_of f = takes_length T c.args.signatures.now p.functions c.requires.signatures c.args.f.0 s f at found in
    let own : length c.deref.result.now ≡ length s.takes.items = ap length c.deref.ensures.value in
    let named : All (λ slot. slot < f.slots) (named_in (body_of p f)) = c.functions_fit.ensures.slots p c.in-Some.ensures.valid c.args.f.0 f found in
    let long : length c.deref_mut.result.now ≡ f.slots =
    ap length c.deref_mut.ensures.value ∙ ap length c.in_ok-seen.ensures ∙ length-parameters_in c.slots.result c.deref.result.now (omega (arith, c.slots.ensures)) ∙ c.slots.ensures in
    subst (λ (n : NodeId). All (λ slot. slot < length c.deref_mut.result.now) (named_in (tree_at p n))) (sym c.body.ensures)
    (subst (λ (k : ℕ). All (λ slot. slot < k) (named_in (body_of p f))) (sym long) named)

pub infer-requires-clause-seen : goal.infer-requires-clause-seen
infer-requires-clause-seen c =
    let s : Signature = c.in-Some-get.signature.now in
    let n = length c.args.types.now in
    let at : slice_get c.args.signatures.now c.args.f.0 ≡ Some s = slice_get-get_or c.args.signatures.now c.args.f.0 s c.in-Some-get.ensures.lookup.3.0 ∙ ap Some (sym c.in-Some-get.ensures.lookup.1) in
    let low = takes_low c.args.types.now c.args.signatures.now c.args.program.now.functions c.requires.signatures c.args.f.0 s at in
    let here = subst (AllByRecursion (λ (m : TypeId). nat_lt m.0 n ≡ true)) (sym c.deref.ensures.value) low in
    subst (AreSeenBelow n) (sym (c.deref_mut.ensures.value ∙ c.in_ok-seen.ensures)) (parameters_below n c.slots.result c.deref.result.now here)

pub returns-clause-is : goal.returns-clause-is
returns-clause-is c = λ f found.
    let p = c.args.program.now in
    let old = c.args.types.now in
    let T : List Written = c.infer.new.types in
    let s : Signature = c.in-Some-get.signature.now in
    let are = c.requires.signatures in
    let at : slice_get c.args.signatures.now c.args.f.0 ≡ Some s = slice_get-get_or c.args.signatures.now c.args.f.0 s c.in-Some-get.ensures.lookup.3.0 ∙ ap Some (sym c.in-Some-get.ensures.lookup.1) in
    let computed = c.in_ok-given.ensures.is in
    let longer : IsLonger old T = computed.longer in
    let seen : c.deref_mut.result.now ≡ parameters_in c.slots.result s.takes.items = c.deref_mut.ensures.value ∙ c.in_ok-seen.ensures ∙ ap (parameters_in c.slots.result) c.deref.ensures.value in
    let env : seen_of T c.deref_mut.result.now ≡ parameters f = ap (seen_of T) seen ∙ parameters_seen old c.args.signatures.now p.functions are c.args.f.0 s f at found T longer c.slots.result in
    let own : c.in-Some.function.now ≡ f = some_is (c.in-Some.ensures.value ∙ found) in
    let body : c.body.result ≡ f.body = c.body.ensures ∙ ap (λ (g : FunctionParts). g.body) own in
    let is : option_map (type_of T) c.in_ok-given.given ≡ type_in p.functions (parameters f) (body_of p f) =
    computed.is T (longer_refl T) ∙ ap (λ (e : Seen). type_in p.functions e (tree_at p c.body.result)) env ∙ ap (λ (n : NodeId). type_in p.functions (parameters f) (tree_at p n)) body in
    let gives = gives_is old c.args.signatures.now p.functions are c.args.f.0 s f at found T longer in
    let low : s.gives.0 < length T = omega (arith, gives_low old c.args.signatures.now p.functions are c.args.f.0 s f at found, longer_length old T longer) in
    let answer : IsVerdictOn p f (is_given_as c.in_ok-given.given s.gives) =
    verdict p f T s.gives gives (λ n within same. c.apart.ensures T (longer_refl T) n s.gives within low same) c.in_ok-given.given computed.below is in
    subst (λ (b : Bool). IsVerdictOn p f b) (sym c.is_given.ensures) answer

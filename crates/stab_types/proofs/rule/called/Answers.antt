use Rattle.std.proofs.Common.{◌≡◌, true, false, Some, slice_get, sym, ap, ◌∙◌}
use Rattle.std.proofs.lemmas.Option.{slice_get-get_or}
use Rattle.stab_types.specs.declared.given.Signature.{Signature}
use Rattle.stab_types.specs.Rows.{are_given}
use Rattle.stab_types.proofs.RowLemmas.{no_call, call_wrong, call_right}
use Rattle.stab_types.proofs.rule.called.Goals as goal

pub returns-in_default : goal.returns-in_default
returns-in_default c = λ fs are. no_call c.args.types.now c.args.signatures.now fs are c.args.f.0 c.args.parts.now c.in_default.ensures.lookup.3

pub returns-then-not-are : goal.returns-then-not-are
returns-then-not-are c = λ fs are.
    let s : Signature = c.in-Some.signature.now in
    let at : slice_get c.args.signatures.now c.args.f.0 ≡ Some s = slice_get-get_or c.args.signatures.now c.args.f.0 s c.in-Some.ensures.lookup.3.0 ∙ ap Some (sym c.in-Some.ensures.lookup.1) in
    let wrong : are_given c.args.parts.now s.takes.items ≡ false = ap (are_given c.args.parts.now) (sym c.deref.ensures.value) ∙ sym c.if-not-are.ensures in
    call_wrong c.args.types.now c.args.signatures.now fs are c.args.f.0 c.apart.ensures s at c.args.parts.now c.requires wrong

pub returns : goal.returns
returns c = λ fs are.
    let s : Signature = c.in-Some.signature.now in
    let at : slice_get c.args.signatures.now c.args.f.0 ≡ Some s = slice_get-get_or c.args.signatures.now c.args.f.0 s c.in-Some.ensures.lookup.3.0 ∙ ap Some (sym c.in-Some.ensures.lookup.1) in
    let right : are_given c.args.parts.now s.takes.items ≡ true = ap (are_given c.args.parts.now) (sym c.deref.ensures.value) ∙ sym c.if-not-are.ensures in
    call_right c.args.types.now c.args.signatures.now fs are c.args.f.0 c.apart.ensures s at c.args.parts.now c.requires right

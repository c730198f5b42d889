use Rattle.std.proofs.Common.{◌+◌, ◌∙◌, ◌∷◌, [], Some, ap, arith, length, length-append, subst, sym}
use Rattle.std.proofs.lemmas.Option.{slice_get-get_or}
use Rattle.scope_check.specs.Stretches.{ArePlainFrom, IsPlainFrom}
use Rattle.scope_check.proofs.PlainForms.{from-other, from-plain, marked-next}
use Rattle.scope_check.proofs.stretches.plain_from.Goals.{else-not-is_plain, then-not-is_plain}
use Rattle.scope_check.proofs.stretches.plain_from.Goals as goal

pub loop-i-preserved : goal.loop-i-preserved
loop-i-preserved c =
    let forms = c.args.forms.now in
    let i = c.loop-i.i in
    let form = c.index-forms-i.result in
    let found = slice_get-get_or forms i form c.loop-i-test.true ∙ ap Some (sym c.index-forms-i.is) in
    let next : IsPlainFrom forms (i + 1) c.if-not-is_plain.first = elim c.if-not-is_plain.branch [
      | then-not-is_plain w ↦
          subst (IsPlainFrom forms (i + 1)) (sym w.first-is) (from-other forms i form found (sym w.if-not-is_plain.ensures))
      | else-not-is_plain w ↦
          subst (IsPlainFrom forms (i + 1)) (sym w.first-is) (from-plain forms i c.loop-i.first form c.loop-i.invariant.next found (sym w.if-not-is_plain.ensures))
    ] in
    let pushed = c.in_ok-push.ensures.items in
    record {
      count = omega (arith, ap length pushed, length-append c.loop-i.numbers.items (c.if-not-is_plain.first ∷ []), c.loop-i.invariant.count);
      marked = subst (ArePlainFrom forms) (sym pushed)
          (marked-next forms c.loop-i.numbers.items c.if-not-is_plain.first c.loop-i.invariant.marked (subst (λ n. IsPlainFrom forms (n + 1) c.if-not-is_plain.first) (sym c.loop-i.invariant.count) next));
      next = next;
    }

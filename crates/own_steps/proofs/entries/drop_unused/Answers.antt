use Rattle.std.proofs.Common.{◌≡◌, ◌-◌, ◌++◌, Some, get_or, length, slice_get, sym, ap, ◌∙◌, arith}
use Rattle.std.specs.List.{slice_index_or}
use Rattle.std.specs.Option.{option_to_list}
use Rattle.std.proofs.lemmas.Option.{get_or_from_slice_get, slice_get_within}
use Rattle.own_steps.specs.Layout.{own_place}
use Rattle.own_steps.proofs.Rows.{pop-unused}
use Rattle.own_steps.proofs.entries.drop_unused.Goals as goal

pub loop-last-preserved : goal.loop-last-preserved
loop-last-preserved c =
    let es = c.loop-last.entries.items in
    let hs = c.args.heads.now in
    let e = c.in-Some.last.now in
    let at : slice_get es (length es - 1) ≡ Some e = ap (λ xs. slice_get xs (length xs - 1)) (sym c.deref.ensures.value) ∙ sym c.in-Some.ensures.value in
    let inside = slice_get_within es (length es - 1) e at in
    let last = get_or_from_slice_get es (length es - 1) e e at in
    let gave = c.pop-unused.ensures.value e (omega (arith, c.loop-last.entries.ok.0)) ∙ ap Some (ap (λ n. slice_index_or es (n - 1) e) c.loop-last.entries.ok.0 ∙ last) in
    let whole = c.pop-unused.ensures.items ∙ ap (λ o. c.pop-unused.new.self.items ++ option_to_list o) gave in
    let popped = pop-unused hs es c.pop-unused.new.self.items e whole c.loop-last.invariant.linked
    (λ used. c.if-place-len.false (c.place.ensures ∙ ap (own_place e.thread.0 (get_or hs e.thread.0 0)) c.deref-in-Some.ensures.value ∙ used ∙ sym c.loop-last.entries.ok.0 ∙ sym c.len.ensures)) in
    let shorter = rw gave at c.pop-unused.ensures.cases in
    record {
      rows = λ t. popped.0 t ∙ c.loop-last.invariant.rows t;
      linked = popped.1;
      fewer = omega (arith, c.loop-last.invariant.fewer, shorter, c.loop-last.entries.ok.0, c.pop-unused.new.self.ok.0);
      spare = omega (arith, c.loop-last.invariant.spare, shorter, c.pop-unused.ensures.capacity);
    }

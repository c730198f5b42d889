use Rattle.std.proofs.Common.{◌≡◌, ◌-◌, Some, length, slice_get, sym, ap, ◌∙◌, arith}
use Rattle.std.specs.List.{slice_index_or}
use Rattle.std.proofs.lemmas.Option.{get_or_from_slice_get, slice_get_within}
use Rattle.ref_log.proofs.Unlinked.{pop-hole}
use Rattle.ref_log.proofs.strike.drop_holes_at_end.Goals as goal

pub loop-last-preserved-else-last-ne0 : goal.loop-last-preserved-else-last-ne0
loop-last-preserved-else-last-ne0 c =
    let es = c.loop-last.recent.items in
    let h = c.in-Some.last.now in
    let at : slice_get es (length es - 1) ≡ Some h = ap (λ xs. slice_get xs (length xs - 1)) (sym c.deref.ensures.value) ∙ sym c.in-Some.ensures.value in
    let inside = slice_get_within es (length es - 1) h at in
    let last = get_or_from_slice_get es (length es - 1) h h at in
    let gave = c.pop-hole.ensures.value h (omega (arith, c.loop-last.recent.ok.0)) ∙ ap Some (ap (λ n. slice_index_or es (n - 1) h) c.loop-last.recent.ok.0 ∙ last) in
    let popped = pop-hole c.args.references.now es c.pop-hole.new.self.items c.pop-hole.result h c.pop-hole.ensures.items gave c.if-last-ne0.false c.loop-last.invariant.linked in
    let shorter = rw gave at c.pop-hole.ensures.cases in
    record {
      writes = λ s. popped.0 s ∙ c.loop-last.invariant.writes s;
      linked = popped.1;
      spare = omega (arith, c.loop-last.invariant.spare, shorter, c.pop-hole.ensures.capacity);
      fewer = omega (arith, c.loop-last.invariant.fewer, shorter, c.loop-last.recent.ok.0, c.pop-hole.new.self.ok.0);
    }

pub loop-last-preserved-else-last-ne0-2 : goal.loop-last-preserved-else-last-ne0-2
loop-last-preserved-else-last-ne0-2 c =
    let es = c.loop-last.recent.items in
    let h = c.in-Some.last.now in
    let at : slice_get es (length es - 1) ≡ Some h = ap (λ xs. slice_get xs (length xs - 1)) (sym c.deref.ensures.value) ∙ sym c.in-Some.ensures.value in
    let inside = slice_get_within es (length es - 1) h at in
    let last = get_or_from_slice_get es (length es - 1) h h at in
    let gave = c.pop-hole.ensures.value h (omega (arith, c.loop-last.recent.ok.0)) ∙ ap Some (ap (λ n. slice_index_or es (n - 1) h) c.loop-last.recent.ok.0 ∙ last) in
    let popped = pop-hole c.args.references.now es c.pop-hole.new.self.items c.pop-hole.result h c.pop-hole.ensures.items gave c.if-last-ne0.false c.loop-last.invariant.linked in
    let shorter = rw gave at c.pop-hole.ensures.cases in
    record {
      writes = λ s. popped.0 s ∙ c.loop-last.invariant.writes s;
      linked = popped.1;
      spare = omega (arith, c.loop-last.invariant.spare, shorter, c.pop-hole.ensures.capacity);
      fewer = omega (arith, c.loop-last.invariant.fewer, shorter, c.loop-last.recent.ok.0, c.pop-hole.new.self.ok.0);
    }

use Rattle.std.proofs.Common.{◌∙◌, refl, sym, ap, Some, arith}
use Rattle.checkpoint_store.proofs.Changed.{pop-hole, not_some}
use Rattle.checkpoint_store.proofs.entries.drop_holes_at_end.Goals as goal

pub loop-last-preserved-else-is_some-2 : goal.loop-last-preserved-else-is_some-2
loop-last-preserved-else-is_some-2 g c =
    let h = c.in-Some.last.now in
    let gave = c.pop_back-hole.ensures.value h (c.in-Some.ensures.variant.0 refl) ∙ ap Some (sym c.in-Some.ensures.lookup) in
    let popped = pop-hole c.loop-last.entries.items c.pop_back-hole.new.self.items c.pop_back-hole.result h c.pop_back-hole.ensures.items gave (not_some h.control (sym c.is_some.ensures ∙ c.if-is_some.false)) c.loop-last.invariant.1 in
    let shorter = rw gave at c.pop_back-hole.ensures.cases in
    (λ k. popped.0 k ∙ c.loop-last.invariant.0 k, popped.1, omega (arith, c.loop-last.invariant.2, shorter, c.pop_back-hole.ensures.capacity))

use Rattle.std.proofs.Common.{◌<◌, length, refl, ◌∙◌, arith}
use Rattle.checkpoint_store.specs.Saved.{before}
use Rattle.checkpoint_store.proofs.Changed.{pop-before, none-before, taken_where}
use Rattle.checkpoint_store.proofs.entries.drop_before.Goals as goal

pub loop-first-preserved-else-event-q : goal.loop-first-preserved-else-event-q
loop-first-preserved-else-event-q g c =
    let es = c.loop-first.entries.items in
    let some : 0 < length es = omega (arith, c.loop-first.entries.ok.0, c.in-Some.ensures.variant.0 refl) in
    let popped = pop-before es c.pop_front-first.new.self.items c.in-Some.first.now c.args.q c.pop_front-first.ensures.rest some c.in-Some.ensures.lookup (omega (arith, c.event.ensures)) c.loop-first.invariant.1 in
    (λ k. popped.0 k ∙ c.loop-first.invariant.0 k, popped.1, omega (arith, c.loop-first.invariant.2, c.pop_front-first.ensures.len, c.pop_front-first.ensures.capacity))

pub loop-first-preserved-else-event-q-2 : goal.loop-first-preserved-else-event-q-2
loop-first-preserved-else-event-q-2 g c =
    let es = c.loop-first.entries.items in
    let some : 0 < length es = omega (arith, c.loop-first.entries.ok.0, c.in-Some.ensures.variant.0 refl) in
    let popped = pop-before es c.pop_front-first.new.self.items c.in-Some.first.now c.args.q c.pop_front-first.ensures.rest some c.in-Some.ensures.lookup (omega (arith, c.event.ensures)) c.loop-first.invariant.1 in
    (λ k. popped.0 k ∙ c.loop-first.invariant.0 k, popped.1, omega (arith, c.loop-first.invariant.2, c.pop_front-first.ensures.len, c.pop_front-first.ensures.capacity))

pub returns-then-event-q-clause-left : goal.returns-then-event-q-clause-left
returns-then-event-q-clause-left g c = λ k.
    taken_where (before c.args.q k) _ _ (none-before c.loop-first.entries.items c.in-Some.first.now c.args.q k c.loop-first.invariant.1 c.in-Some.ensures.lookup (omega (arith, c.event.ensures))) (c.loop-first.invariant.0 k)

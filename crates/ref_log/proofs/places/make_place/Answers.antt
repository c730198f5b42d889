use Rattle.std.proofs.Common.{refl, ap, ◌∙◌, arith}
use Rattle.ref_log.specs.Layout.{head_at, settled_at}
use Rattle.ref_log.proofs.References.{head-grown, settled-grown}
use Rattle.ref_log.proofs.places.make_place.Goals as goal

pub loop-preserved : goal.loop-preserved
loop-preserved c = record {
  settled = λ s. ap (λ xs. settled_at xs s) c.push_reserved.ensures.items ∙ settled-grown c.loop.references.items _ s refl ∙ c.loop.invariant.settled s;
  heads = λ s. ap (λ xs. head_at xs s) c.push_reserved.ensures.items ∙ head-grown c.loop.references.items _ s refl ∙ c.loop.invariant.heads s;
  len = omega (arith, c.push_reserved.ensures.len, c.loop.invariant.len);
  capacity = c.push_reserved.ensures.capacity ∙ c.loop.invariant.capacity;
}

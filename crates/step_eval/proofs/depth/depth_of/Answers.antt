-- Each turn goes into a part, and no more part is left at the end.
use Rattle.std.proofs.Common.{◌<◌, arith}
use Rattle.step_eval.specs.Meaning.{form_at, within_forms}
use Rattle.step_eval.proofs.Searching.{deeper-end, deeper-in}
use Rattle.step_eval.proofs.depth.depth_of.Goals as goal

pub inward-preserved : goal.inward-preserved
inward-preserved c =
    let p = c.args.p.now in
    let n = c.inward.n in
    let from = c.inward.from in
    let taken = c.inward.taken in
    let q = c.in-Some.part in
    let below : q.0 < n.0 = c.in-Some.ensures.below in
    let there = c.inward.invariant.there in
    let few = c.inward.invariant.few in
    record {
      there = omega (arith, below, there);
      left = λ h. absurd (omega (arith, h));
      few = omega (arith, below, few);
      deeper = λ here mark round s fit. deeper-in p n from taken c.inward.depth mark round (within_forms p round (form_at p here)) (c.inward.invariant.deeper here mark round s fit) q c.in-Some.ensures.next;
    }

pub returns-clause-depth : goal.returns-clause-depth
returns-clause-depth c = λ here mark round s fit.
    let p = c.args.p.now in
    deeper-end p c.inward.n c.inward.from c.inward.taken c.inward.depth mark round (within_forms p round (form_at p here)) (c.inward.invariant.deeper here mark round s fit) c.in_default.ensures.next

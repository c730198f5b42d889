-- The next part that counts is there, and its variables are in scope; a leaf's value stands for it.
use Rattle.std.proofs.Common.{◌≡◌, ◌+◌, ◌<◌, length, slice_get, Some, ◌∙◌, ap, arith}
use Rattle.step_eval.specs.Meaning.{node_at, strict_at}
use Rattle.step_eval.specs.declared.site.Site.TheVariants.{Form}
use Rattle.step_eval.proofs.Standing.{form-leaf, next-part, part-found, part-in, part-seen, part-there, strict-found}
use Rattle.step_eval.proofs.settle.take_leaves.Goals as goal

pub item_of-part-requires : goal.item_of-part-requires
item_of-part-requires c =
    let strict : c.strict-strict.result ≡ strict_at c.args.p.now (Form c.args.n c.args.from) = strict-found c.args.p.now c.args.n c.args.from c.node_at-node.result _ c.node_at-node.ensures.node c.strict-strict.ensures in
    let size : c.len-in-leaves.result ≡ length c.leaves.done.items = c.len-in-leaves.ensures ∙ c.leaves.done.ok.0 in
    let few : length c.leaves.done.items < strict_at c.args.p.now (Form c.args.n c.args.from) = (let test = c.leaves-test.true in let all = c.len.ensures ∙ c.leaves.done.ok.0 in omega (arith, all)) in
    let there : c.args.from + length c.leaves.done.items < length (node_at c.args.p.now c.args.n).parts = part-there c.args.p.now c.node_at-node.ensures.valid c.args.n c.args.from (length c.args.values.now) (length c.leaves.done.items) c.requires.fits few in
    let parts : length c.parts-parts.result.now ≡ length (node_at c.args.p.now c.args.n).parts = ap length c.parts-parts.ensures ∙ ap (λ m. length m.parts) c.node_at-node.ensures.node in
    omega (arith, size)

pub leaf-requires-clause-there : goal.leaf-requires-clause-there
leaf-requires-clause-there c =
    let strict : c.strict-strict.result ≡ strict_at c.args.p.now (Form c.args.n c.args.from) = strict-found c.args.p.now c.args.n c.args.from c.node_at-node.result _ c.node_at-node.ensures.node c.strict-strict.ensures in
    let size : c.len-in-leaves.result ≡ length c.leaves.done.items = c.len-in-leaves.ensures ∙ c.leaves.done.ok.0 in
    let few : length c.leaves.done.items < strict_at c.args.p.now (Form c.args.n c.args.from) = (let test = c.leaves-test.true in let all = c.len.ensures ∙ c.leaves.done.ok.0 in omega (arith, all)) in
    let found : slice_get (node_at c.args.p.now c.args.n).parts (c.args.from + length c.leaves.done.items) ≡ Some c.item_of-part.result = part-found c.args.p.now c.args.n c.node_at-node.result c.parts-parts.result.now _ _ c.item_of-part.result c.node_at-node.ensures.node c.parts-parts.ensures c.item_of-part.ensures (omega (arith, size)) in
    part-in c.args.p.now c.node_at-node.ensures.valid c.args.n c.args.from (length c.args.values.now) (length c.leaves.done.items) c.item_of-part.result c.requires.fits few found

pub leaf-requires-clause-scoped : goal.leaf-requires-clause-scoped
leaf-requires-clause-scoped c =
    let strict : c.strict-strict.result ≡ strict_at c.args.p.now (Form c.args.n c.args.from) = strict-found c.args.p.now c.args.n c.args.from c.node_at-node.result _ c.node_at-node.ensures.node c.strict-strict.ensures in
    let size : c.len-in-leaves.result ≡ length c.leaves.done.items = c.len-in-leaves.ensures ∙ c.leaves.done.ok.0 in
    let few : length c.leaves.done.items < strict_at c.args.p.now (Form c.args.n c.args.from) = (let test = c.leaves-test.true in let all = c.len.ensures ∙ c.leaves.done.ok.0 in omega (arith, all)) in
    let found : slice_get (node_at c.args.p.now c.args.n).parts (c.args.from + length c.leaves.done.items) ≡ Some c.item_of-part.result = part-found c.args.p.now c.args.n c.node_at-node.result c.parts-parts.result.now _ _ c.item_of-part.result c.node_at-node.ensures.node c.parts-parts.ensures c.item_of-part.ensures (omega (arith, size)) in
    part-seen c.args.p.now c.node_at-node.ensures.valid c.args.n c.args.from (length c.args.values.now) (length c.leaves.done.items) c.item_of-part.result c.requires.fits few found

pub leaves-preserved : goal.leaves-preserved
leaves-preserved c =
    let strict : c.strict-strict.result ≡ strict_at c.args.p.now (Form c.args.n c.args.from) = strict-found c.args.p.now c.args.n c.args.from c.node_at-node.result _ c.node_at-node.ensures.node c.strict-strict.ensures in
    let size : c.len-in-leaves.result ≡ length c.leaves.done.items = c.len-in-leaves.ensures ∙ c.leaves.done.ok.0 in
    let found : slice_get (node_at c.args.p.now c.args.n).parts (c.args.from + length c.leaves.done.items) ≡ Some c.item_of-part.result = part-found c.args.p.now c.args.n c.node_at-node.result c.parts-parts.result.now _ _ c.item_of-part.result c.node_at-node.ensures.node c.parts-parts.ensures c.item_of-part.ensures (omega (arith, size)) in
    record {
      few = (let test = c.leaves-test.true in let all = c.len.ensures ∙ c.leaves.done.ok.0 in let more = ap length c.in_ok-push-in-Some.ensures.items in omega (arith, all, more));
      same = form-leaf c.args.p.now c.args.n c.args.from c.leaves.done.items c.push.new.self.items c.args.values.now c.item_of-part.result c.in-Some.v found (rw c.in-Some.is at c.in_ok-v.ensures.value) c.in_ok-push-in-Some.ensures.items ∙ c.leaves.invariant.same;
    }

pub returns-in-None-clause-next : goal.returns-in-None-clause-next
returns-in-None-clause-next c =
    let strict : c.strict-strict.result ≡ strict_at c.args.p.now (Form c.args.n c.args.from) = strict-found c.args.p.now c.args.n c.args.from c.node_at-node.result _ c.node_at-node.ensures.node c.strict-strict.ensures in
    let size : c.len-in-leaves.result ≡ length c.leaves.done.items = c.len-in-leaves.ensures ∙ c.leaves.done.ok.0 in
    let few : length c.leaves.done.items < strict_at c.args.p.now (Form c.args.n c.args.from) = (let test = c.leaves-test.true in let all = c.len.ensures ∙ c.leaves.done.ok.0 in omega (arith, all)) in
    let found : slice_get (node_at c.args.p.now c.args.n).parts (c.args.from + length c.leaves.done.items) ≡ Some c.item_of-part.result = part-found c.args.p.now c.args.n c.node_at-node.result c.parts-parts.result.now _ _ c.item_of-part.result c.node_at-node.ensures.node c.parts-parts.ensures c.item_of-part.ensures (omega (arith, size)) in
    next-part c.args.p.now c.node_at-node.ensures.valid c.args.n c.args.from c.leaves.done.items c.args.values.now c.requires.fits c.item_of-part.result few found (rw c.in-None.is at c.in_ok-v.ensures.value)

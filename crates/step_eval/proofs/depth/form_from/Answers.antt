-- The parts that are passed are literals and variables.
use Rattle.std.proofs.Common.{◌≡◌, ◌+◌, ◌<◌, ◌≤◌, length, slice_get, Some, ap, ◌∙◌, refl, arith}
use Rattle.step_eval.specs.Fits.{IsLeft}
use Rattle.step_eval.specs.Meaning.{node_at, strict_at}
use Rattle.step_eval.specs.declared.site.Site.TheVariants.{Form}
use Rattle.step_eval.proofs.Nodes.{part_below, part_count}
use Rattle.step_eval.proofs.Searching.{left-or-whole, past-all, past-form, past-leaf, past-start}
use Rattle.step_eval.proofs.Standing.{any-there, part-found, strict-found, strict-there}
use Rattle.step_eval.proofs.depth.form_from.Goals as goal

pub loop-k-init : goal.loop-k-init
loop-k-init c = λ here s. past-start c.args.p.now c.args.n c.args.from c.args.taken here s

pub item_of-part-requires : goal.item_of-part-requires
item_of-part-requires c =
    let p = c.args.p.now in
    let n = c.args.n in
    let from = c.args.from in
    let valid = c.node_at-node.ensures.valid in
    let there = c.requires.there in
    let k = c.loop-k.k in
    let strict : c.strict-strict.result ≡ strict_at p (Form n from) = strict-found p n from c.node_at-node.result _ c.node_at-node.ensures.node c.strict-strict.ensures in
    let few : k < strict_at p (Form n from) = (let test = c.loop-k-test.true in omega (arith, test)) in
    let left : IsLeft (node_at p n).head from = left-or-whole p valid n there from c.requires.left in
    let inside = strict-there p.functions (node_at p n).head from k (length (node_at p n).parts) (part_count p valid n there) left few in
    let size : length c.parts-parts.result.now ≡ length (node_at p n).parts = ap length c.parts-parts.ensures ∙ ap (λ m. length m.parts) c.node_at-node.ensures.node in
    omega (arith, inside)

pub is_form-requires : goal.is_form-requires
is_form-requires c =
    let p = c.args.p.now in
    let n = c.args.n in
    let from = c.args.from in
    let valid = c.node_at-node.ensures.valid in
    let there = c.requires.there in
    let k = c.loop-k.k in
    let strict : c.strict-strict.result ≡ strict_at p (Form n from) = strict-found p n from c.node_at-node.result _ c.node_at-node.ensures.node c.strict-strict.ensures in
    let part = c.item_of-part.result in
    let found : slice_get (node_at p n).parts (from + k) ≡ Some part = part-found p n c.node_at-node.result c.parts-parts.result.now _ _ part c.node_at-node.ensures.node c.parts-parts.ensures c.item_of-part.ensures refl in
    any-there p valid n (from + k) part there found

pub returns-then-is_form-clause-next : goal.returns-then-is_form-clause-next
returns-then-is_form-clause-next c =
    let p = c.args.p.now in
    let n = c.args.n in
    let from = c.args.from in
    let valid = c.node_at-node.ensures.valid in
    let there = c.requires.there in
    let k = c.loop-k.k in
    let strict : c.strict-strict.result ≡ strict_at p (Form n from) = strict-found p n from c.node_at-node.result _ c.node_at-node.ensures.node c.strict-strict.ensures in
    let few : k < strict_at p (Form n from) = (let test = c.loop-k-test.true in omega (arith, test)) in
    let part = c.item_of-part.result in
    let found : slice_get (node_at p n).parts (from + k) ≡ Some part = part-found p n c.node_at-node.result c.parts-parts.result.now _ _ part c.node_at-node.ensures.node c.parts-parts.ensures c.item_of-part.ensures refl in
    λ here s. past-form p valid n from c.args.taken k here s (c.loop-k.invariant here s) part few found c.if-is_form.ensures.form

pub returns-then-is_form-clause-below : goal.returns-then-is_form-clause-below
returns-then-is_form-clause-below c =
    let p = c.args.p.now in
    let n = c.args.n in
    let from = c.args.from in
    let valid = c.node_at-node.ensures.valid in
    let there = c.requires.there in
    let k = c.loop-k.k in
    let strict : c.strict-strict.result ≡ strict_at p (Form n from) = strict-found p n from c.node_at-node.result _ c.node_at-node.ensures.node c.strict-strict.ensures in
    let part = c.item_of-part.result in
    let found : slice_get (node_at p n).parts (from + k) ≡ Some part = part-found p n c.node_at-node.result c.parts-parts.result.now _ _ part c.node_at-node.ensures.node c.parts-parts.ensures c.item_of-part.ensures refl in
    part_below p valid n there (from + k) part found

pub loop-k-preserved : goal.loop-k-preserved
loop-k-preserved c =
    let p = c.args.p.now in
    let n = c.args.n in
    let from = c.args.from in
    let valid = c.node_at-node.ensures.valid in
    let there = c.requires.there in
    let k = c.loop-k.k in
    let strict : c.strict-strict.result ≡ strict_at p (Form n from) = strict-found p n from c.node_at-node.result _ c.node_at-node.ensures.node c.strict-strict.ensures in
    let few : k < strict_at p (Form n from) = (let test = c.loop-k-test.true in omega (arith, test)) in
    let part = c.item_of-part.result in
    let found : slice_get (node_at p n).parts (from + k) ≡ Some part = part-found p n c.node_at-node.result c.parts-parts.result.now _ _ part c.node_at-node.ensures.node c.parts-parts.ensures c.item_of-part.ensures refl in
    λ here s. past-leaf p valid n from c.args.taken k here s (c.loop-k.invariant here s) part few found c.if-is_form.ensures.leaf

pub returns-clause-next : goal.returns-clause-next
returns-clause-next c =
    let p = c.args.p.now in
    let n = c.args.n in
    let from = c.args.from in
    let valid = c.node_at-node.ensures.valid in
    let there = c.requires.there in
    let k = c.loop-k.k in
    let strict : c.strict-strict.result ≡ strict_at p (Form n from) = strict-found p n from c.node_at-node.result _ c.node_at-node.ensures.node c.strict-strict.ensures in
    let over = c.loop-k-test.false in
    λ here s.
    let many : length here.done ≡ c.args.taken = s.many in
    let most : length here.done ≤ strict_at p (Form n from) = s.few in
    let end : k ≤ c.strict-strict.result = c.loop-k.auto.k-end (omega arith) in
    past-all p valid n from c.args.taken k here s (c.loop-k.invariant here s) (λ h. omega (arith, over, h)) (omega (arith, end))

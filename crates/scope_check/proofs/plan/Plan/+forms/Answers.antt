use Rattle.std.proofs.Common.{rules, ◌≡◌, ◌<◌, ap, length, sym, ◌∙◌, arith, get_or, refl, slice_get, Some, ◌++◌, ◌∷◌, [], reverse}
use Rattle.std.proofs.Math.Seq.{take-length}
use Rattle.std.specs.Prelude.{None}
use Rattle.std.proofs.lemmas.List.{reverse-reverse}
use Rattle.std.proofs.lemmas.Option.{slice_get-get_or, slice_get_within}
use Rattle.std.proofs.lemmas.Result.{err_from_is_err_and}
use Rattle.stab_code.specs.declared.head.Head.TheVariants as code
use Rattle.stab_code.specs.Nodes.{id}
use Rattle.stab_parse.specs.declared.tree.Head.TheVariants as kind
use Rattle.scope_check.specs.Forms.{items_of}
use Rattle.scope_check.specs.Places.{part_lists}
use Rattle.scope_check.proofs.Made.{HeadMet, block-met, form-head-fault, form-made, form-parts-fault, no-item, on-err, on-ok, part-form, part-let, part-none, part-none-fault, seen-on, so-far-all, so-far-fault, so-far-next, so-far-none, slots-known}
use Rattle.scope_check.proofs.Places.{parts-below, parts-there}
use Rattle.scope_check.proofs.PlainForms.{plain-there, stretch-fault, stretch-made}
use Rattle.scope_check.proofs.plan.Plan.+forms.Goals as goal

pub form-returns-in_err-head-clause-fault : goal.form-returns-in_err-head-clause-fault
form-returns-in_err-head-clause-fault t c =
    let p = err_from_is_err_and c.from_residual.result c.from_residual.ensures.1 in
    let plan = c.args.self.now in
    let node = get_or plan.forms.now c.args.at c.index-self-at.result in
    let found = slice_get-get_or plan.forms.now c.args.at c.index-self-at.result c.requires.there in
    rw (p.1, p.2) (form-head-fault plan.bytes.now plan.functions.now c.args.arity plan.forms.now plan.fewer c.args.at c.args.progress.now c.head.new.progress node found c.in_err-head.field-0.0 c.in_err-head.ensures.fault)

pub form-index-requires : goal.form-index-requires
form-index-requires t c =
    let plan = c.args.self.now in
    omega (arith, c.requires.there, plan.marked)

pub form-stretch-requires-clause-plain : goal.form-stretch-requires-clause-plain
form-stretch-requires-clause-plain t c =
    let plan = c.args.self.now in
    plain-there plan.forms.now plan.plain_from.items c.args.at c.index.result.now (length c.args.progress.now.heads.items) c.index.result.now plan.marked plan.plain c.requires.there c.index.ensures (omega (arith, c.if-index-len.true, c.len.ensures))

pub form-returns-then-index-len-clause-ok : goal.form-returns-then-index-len-clause-ok
form-returns-then-index-len-clause-ok t c =
    let plan = c.args.self.now in
    let are = plain-there plan.forms.now plan.plain_from.items c.args.at c.index.result.now (length c.args.progress.now.heads.items) c.index.result.now plan.marked plan.plain c.requires.there c.index.ensures (omega (arith, c.if-index-len.true, c.len.ensures)) in
    on-ok c.stretch.result c.stretch.ensures.ok c.stretch.ensures.seen (λ made seen.
    stretch-made plan.bytes.now plan.functions.now c.args.arity plan.forms.now plan.fewer c.args.at c.args.progress.now are c.stretch.new.progress made)

pub form-returns-then-index-len-clause-fault : goal.form-returns-then-index-len-clause-fault
form-returns-then-index-len-clause-fault t c =
    let plan = c.args.self.now in
    let are = plain-there plan.forms.now plan.plain_from.items c.args.at c.index.result.now (length c.args.progress.now.heads.items) c.index.result.now plan.marked plan.plain c.requires.there c.index.ensures (omega (arith, c.if-index-len.true, c.len.ensures)) in
    on-err c.stretch.result c.stretch.ensures.fault (λ fault broken.
    stretch-fault plan.bytes.now plan.functions.now c.args.arity plan.forms.now plan.fewer c.args.at c.args.progress.now are fault broken)

pub form-block-requires : goal.form-block-requires
form-block-requires t c =
    let plan = c.args.self.now in
    let found = slice_get-get_or plan.forms.now c.args.at c.index-self-at.result c.requires.there in
    (omega (arith, c.decreases), (c.requires.texts, ((get_or plan.forms.now c.args.at c.index-self-at.result, found, c.in-LetBlock.is ∙ ap kind.LetBlock (sym c.all.ensures)), c.requires.few)))

pub form-operands-requires : goal.form-operands-requires
form-operands-requires t c =
    let plan = c.args.self.now in
    let found = slice_get-get_or plan.forms.now c.args.at c.index-self-at.result c.requires.there in
    (omega (arith, c.decreases), (c.requires.texts, ((get_or plan.forms.now c.args.at c.index-self-at.result, found, search rules), c.requires.few)))

pub form-returns-in_err-operands-clause-fault : goal.form-returns-in_err-operands-clause-fault
form-returns-in_err-operands-clause-fault t c =
    let p = err_from_is_err_and c.from_residual-in_err-operands.result c.from_residual-in_err-operands.ensures.1 in
    let plan = c.args.self.now in
    let node = get_or plan.forms.now c.args.at c.index-self-at.result in
    let found = slice_get-get_or plan.forms.now c.args.at c.index-self-at.result c.requires.there in
    let head : HeadMet plan.bytes.now plan.functions.now c.args.arity plan.forms.now plan.fewer node c.args.progress.now c.head.new.progress c.in_ok-head.head =
    record { met = c.in_ok-head.ensures.head; heads = c.in_ok-head.ensures.others.0; seen = c.in_ok-head.ensures.others.1 } in
    rw (p.1, p.2) (form-parts-fault plan.bytes.now plan.functions.now c.args.arity plan.forms.now plan.fewer c.args.at c.args.progress.now c.head.new.progress node found c.in_ok-head.head head c.in_err-operands.field-0.0 c.in_err-operands.ensures.fault)

pub form-returns-clause-ok : goal.form-returns-clause-ok
form-returns-clause-ok t c =
    let plan = c.args.self.now in
    let node = get_or plan.forms.now c.args.at c.index-self-at.result in
    let found = slice_get-get_or plan.forms.now c.args.at c.index-self-at.result c.requires.there in
    let head : HeadMet plan.bytes.now plan.functions.now c.args.arity plan.forms.now plan.fewer node c.args.progress.now c.head.new.progress c.in_ok-head.head =
    record { met = c.in_ok-head.ensures.head; heads = c.in_ok-head.ensures.others.0; seen = c.in_ok-head.ensures.others.1 } in
    form-made plan.bytes.now plan.functions.now c.args.arity plan.forms.now plan.fewer c.args.at c.args.progress.now c.head.new.progress node found c.in_ok-head.head head
    c.operands.new.progress [] c.push.new.self.items c.in_ok-operands.ensures.ok c.in_ok-push.ensures.items

pub operands-of-part-items-requires : goal.operands-of-part-items-requires
operands-of-part-items-requires t c = parts-there c.args.self.now.forms.now c.args.self.now.parts c.args.at c.args.self.now.laid (slice_get_within c.args.self.now.forms.now c.args.at c.requires.other.0 c.requires.other.1)

pub operands-form-requires : goal.operands-form-requires
operands-form-requires t c =
    let plan = c.args.self.now in
    let parts = c.of-part-items.result.now in
    let listed : slice_get (part_lists 0 [] plan.forms.now) c.args.at ≡ Some parts = ap (λ l. slice_get l c.args.at) (sym plan.laid) ∙ c.of-part-items.ensures in
    let below : (get_or parts c.loop-part.part-index (id 0)).0 < c.args.at = parts-below plan.forms.now c.args.at parts listed c.loop-part.part-index (id 0) c.loop-part-test.true in
    let there = slice_get_within plan.forms.now c.args.at c.requires.other.0 c.requires.other.1 in
    (omega (arith, below, c.decreases), (c.requires.texts, (omega (arith, below, there), c.requires.few)))

pub operands-loop-part-init : goal.operands-loop-part-init
operands-loop-part-init t c =
    let plan = c.args.self.now in
    record {
      far = so-far-none plan.bytes.now plan.functions.now c.args.arity plan.forms.now plan.fewer c.args.at c.args.progress.now c.args.progress.now [] refl refl;
      seen = refl;
    }

pub operands-loop-part-preserved : goal.operands-loop-part-preserved
operands-loop-part-preserved t c =
    let plan = c.args.self.now in
    let other = c.requires.other in
    let parts = c.of-part-items.result.now in
    let listed : slice_get (part_lists 0 [] plan.forms.now) c.args.at ≡ Some parts = ap (λ l. slice_get l c.args.at) (sym plan.laid) ∙ c.of-part-items.ensures in
    let i = c.loop-part.part-index in
    let own = slice_get-get_or parts i (id 0) c.loop-part-test.true in
    let next = c.form.new.progress in
    record {
      far = so-far-next plan.bytes.now plan.functions.now c.args.arity plan.forms.now plan.fewer c.args.at c.args.progress.now c.loop-part.progress [] other.0 parts i
          (get_or parts i (id 0)) None other.1 listed own (no-item other.0.head i other.2) c.loop-part.invariant.far next []
          (part-none plan.bytes.now plan.functions.now c.args.arity plan.forms.now plan.fewer (get_or parts i (id 0)).0 [] None c.loop-part.progress next refl c.in_ok-form.ensures.ok c.in_ok-form.ensures.seen);
      seen = c.in_ok-form.ensures.seen ∙ c.loop-part.invariant.seen;
    }

pub operands-returns-in_err-form-clause-fault : goal.operands-returns-in_err-form-clause-fault
operands-returns-in_err-form-clause-fault t c =
    let p = err_from_is_err_and c.from_residual.result c.from_residual.ensures.1 in
    let plan = c.args.self.now in
    let other = c.requires.other in
    let parts = c.of-part-items.result.now in
    let listed : slice_get (part_lists 0 [] plan.forms.now) c.args.at ≡ Some parts = ap (λ l. slice_get l c.args.at) (sym plan.laid) ∙ c.of-part-items.ensures in
    let i = c.loop-part.part-index in
    let own = slice_get-get_or parts i (id 0) c.loop-part-test.true in
    rw (p.1, p.2) (so-far-fault plan.bytes.now plan.functions.now c.args.arity plan.forms.now plan.fewer c.args.at c.args.progress.now c.loop-part.progress [] other.0 parts i
    (get_or parts i (id 0)) None other.1 listed own (no-item other.0.head i other.2) c.loop-part.invariant.far c.in_err-form.field-0.0
    (part-none-fault plan.bytes.now plan.functions.now c.args.arity plan.forms.now plan.fewer (get_or parts i (id 0)).0 [] c.loop-part.progress c.in_err-form.field-0.0 c.in_err-form.ensures.fault))

pub operands-returns-clause-ok : goal.operands-returns-clause-ok
operands-returns-clause-ok t c =
    let plan = c.args.self.now in
    let parts = c.of-part-items.result.now in
    let listed : slice_get (part_lists 0 [] plan.forms.now) c.args.at ≡ Some parts = ap (λ l. slice_get l c.args.at) (sym plan.laid) ∙ c.of-part-items.ensures in
    so-far-all plan.bytes.now plan.functions.now c.args.arity plan.forms.now plan.fewer c.args.at c.args.progress.now c.loop-part.progress [] parts c.loop-part.part-index listed
    (omega (arith, c.loop-part-test.false, c.loop-part.auto.part-index-end)) c.loop-part.invariant.far

pub block-returns-in_err-slots-clause-fault : goal.block-returns-in_err-slots-clause-fault
block-returns-in_err-slots-clause-fault t c =
    let p = err_from_is_err_and c.from_residual.result c.from_residual.ensures.1 in
    let plan = c.args.self.now in
    let block = c.requires.block in
    let old = c.args.progress.now in
    let head = block-met plan.bytes.now plan.functions.now c.args.arity plan.forms.now plan.fewer old block.0 c.args.names.now block.2 in
    rw (p.1, p.2) (form-parts-fault plan.bytes.now plan.functions.now c.args.arity plan.forms.now plan.fewer c.args.at old old block.0 block.1 (code.Block []) head c.in_err-slots.field-0.0 c.in_err-slots.ensures.fault)

pub block-returns-clause-ok : goal.block-returns-clause-ok
block-returns-clause-ok t c =
    let plan = c.args.self.now in
    let block = c.requires.block in
    let old = c.args.progress.now in
    let head = block-met plan.bytes.now plan.functions.now c.args.arity plan.forms.now plan.fewer old block.0 c.args.names.now block.2 in
    let last = c.block_parts.new.progress in
    let slots = c.in_ok-slots.slots.items in
    form-made plan.bytes.now plan.functions.now c.args.arity plan.forms.now plan.fewer c.args.at old old block.0 block.1 (code.Block []) head
    last slots c.push.new.self.items c.in_ok-slots.ensures.ok (c.in_ok-push.ensures.items ∙ ap (λ s. last.heads.items ++ code.Block s ∷ []) (c.in_ok-new.ensures ∙ sym (reverse-reverse slots)) ∙ ap (λ h. last.heads.items ++ h ∷ []) (sym (slots-known (reverse slots))))

pub block_parts-of-part-items-requires : goal.block_parts-of-part-items-requires
block_parts-of-part-items-requires t c = parts-there c.args.self.now.forms.now c.args.self.now.parts c.args.at c.args.self.now.laid (slice_get_within c.args.self.now.forms.now c.args.at c.requires.block.0 c.requires.block.1)

pub block_parts-part-requires : goal.block_parts-part-requires
block_parts-part-requires t c =
    let plan = c.args.self.now in
    let listed : slice_get (part_lists 0 [] plan.forms.now) c.args.at ≡ Some c.of-part-items.result.now = ap (λ l. slice_get l c.args.at) (sym plan.laid) ∙ c.of-part-items.ensures in
    let below : (get_or c.of-part-items.result.now c.loop-i.i (id 0)).0 < c.args.at = parts-below plan.forms.now c.args.at c.of-part-items.result.now listed c.loop-i.i (id 0) c.loop-i-test.true in
    let there = slice_get_within plan.forms.now c.args.at c.requires.block.0 c.requires.block.1 in
    (omega (arith, below, c.decreases), (c.requires.texts, (omega (arith, below, there), c.requires.few)))

pub block_parts-loop-i-init : goal.block_parts-loop-i-init
block_parts-loop-i-init t c =
    let plan = c.args.self.now in
    record {
      far = so-far-none plan.bytes.now plan.functions.now c.args.arity plan.forms.now plan.fewer c.args.at c.args.progress.now c.args.progress.now c.new-slots.result.items refl c.new-slots.ensures.items;
      seen = take-length c.args.progress.now.seen.items;
    }

pub block_parts-loop-i-preserved : goal.block_parts-loop-i-preserved
block_parts-loop-i-preserved t c =
    let plan = c.args.self.now in
    let block = c.requires.block in
    let parts = c.of-part-items.result.now in
    let listed : slice_get (part_lists 0 [] plan.forms.now) c.args.at ≡ Some parts = ap (λ l. slice_get l c.args.at) (sym plan.laid) ∙ c.of-part-items.ensures in
    let own = slice_get-get_or parts c.loop-i.i (id 0) c.loop-i-test.true in
    let item_is = c.item_at.ensures ∙ ap (λ h. slice_get (items_of h) c.loop-i.i) (sym block.2) in
    record {
      far = so-far-next plan.bytes.now plan.functions.now c.args.arity plan.forms.now plan.fewer c.args.at c.args.progress.now c.loop-i.progress c.loop-i.slots.items block.0 parts c.loop-i.i
          (get_or parts c.loop-i.i (id 0)) c.item_at.result block.1 listed own item_is c.loop-i.invariant.far c.part.new.progress c.part.new.slots.items c.in_ok-part.ensures.ok;
      seen = seen-on c.args.progress.now.seen.items c.loop-i.progress.seen.items c.part.new.progress.seen.items c.loop-i.invariant.seen c.in_ok-part.ensures.seen;
    }

pub block_parts-returns-in_err-part-clause-fault : goal.block_parts-returns-in_err-part-clause-fault
block_parts-returns-in_err-part-clause-fault t c =
    let p = err_from_is_err_and c.from_residual.result c.from_residual.ensures.1 in
    let plan = c.args.self.now in
    let block = c.requires.block in
    let parts = c.of-part-items.result.now in
    let listed : slice_get (part_lists 0 [] plan.forms.now) c.args.at ≡ Some parts = ap (λ l. slice_get l c.args.at) (sym plan.laid) ∙ c.of-part-items.ensures in
    let own = slice_get-get_or parts c.loop-i.i (id 0) c.loop-i-test.true in
    let item_is = c.item_at.ensures ∙ ap (λ h. slice_get (items_of h) c.loop-i.i) (sym block.2) in
    rw (p.1, p.2) (so-far-fault plan.bytes.now plan.functions.now c.args.arity plan.forms.now plan.fewer c.args.at c.args.progress.now c.loop-i.progress c.loop-i.slots.items block.0 parts c.loop-i.i
    (get_or parts c.loop-i.i (id 0)) c.item_at.result block.1 listed own item_is c.loop-i.invariant.far c.in_err-part.field-0.0 c.in_err-part.ensures.fault)

pub block_parts-returns-clause-ok : goal.block_parts-returns-clause-ok
block_parts-returns-clause-ok t c =
    let plan = c.args.self.now in
    let parts = c.of-part-items.result.now in
    let listed : slice_get (part_lists 0 [] plan.forms.now) c.args.at ≡ Some parts = ap (λ l. slice_get l c.args.at) (sym plan.laid) ∙ c.of-part-items.ensures in
    so-far-all plan.bytes.now plan.functions.now c.args.arity plan.forms.now plan.fewer c.args.at c.args.progress.now c.loop-i.progress c.loop-i.slots.items parts c.loop-i.i listed
    (omega (arith, c.loop-i-test.false, c.loop-i.auto.i-end)) c.loop-i.invariant.far

pub part-returns-in-None-clause-ok : goal.part-returns-in-None-clause-ok
part-returns-in-None-clause-ok t c =
    let plan = c.args.self.now in
    on-ok c.form.result c.form.ensures.ok c.form.ensures.seen (λ made seen.
    part-none plan.bytes.now plan.functions.now c.args.arity plan.forms.now plan.fewer c.args.at c.args.slots.now.items c.args.item c.args.progress.now c.form.new.progress c.in-None.is made seen)

pub part-returns-in_ok-push-in-Some-None-clause-ok : goal.part-returns-in_ok-push-in-Some-None-clause-ok
part-returns-in_ok-push-in-Some-None-clause-ok t c =
    let plan = c.args.self.now in
    part-form plan.bytes.now plan.functions.now c.args.arity plan.forms.now plan.fewer c.args.at c.args.slots.now.items c.args.item c.args.progress.now c.form-in-Some-None.new.progress c.push.new.self.items
    (c.in-Some-None.is ∙ ap Some (rw c.in-Some-None.is at c.in-Some-None.field-0-is)) c.in_ok-form-in-Some-None.ensures.ok c.in_ok-form-in-Some-None.ensures.seen c.in_ok-push-in-Some-None.ensures.items

pub part-returns-in_ok-push-in-Some-Some-2-clause-ok : goal.part-returns-in_ok-push-in-Some-Some-2-clause-ok
part-returns-in_ok-push-in-Some-Some-2-clause-ok t c =
    let plan = c.args.self.now in
    let number = c.in_ok-variable-in-Some-Some.ensures in
    part-let plan.bytes.now plan.functions.now c.args.arity plan.forms.now plan.fewer c.args.at c.args.slots.now.items c.in-Some-Some.name c.in_ok-variable-in-Some-Some.variable c.args.progress.now c.number_let.new.self
    number.variable number.others.0 number.others.1 c.args.item c.form-in-Some-Some.new.progress c.push-in-Some-Some-2.new.self.items c.push-in-Some-Some.new.self.items
    (c.in-Some-Some.is ∙ ap Some (rw c.in-Some-Some.is at c.in-Some-Some.field-0-is)) c.in_ok-form-in-Some-Some.ensures.ok c.in_ok-form-in-Some-Some.ensures.seen c.in_ok-push-in-Some-Some-2.ensures.items c.in_ok-push-in-Some-Some.ensures.items

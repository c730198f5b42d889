use Rattle.std.proofs.Common.{◌+◌, false, List, refl, sym, ap, subst, ◌∙◌}
use Rattle.std.specs.List.{slice_set}
use Rattle.ref_log.specs.declared.places.Recent.{Recent}
use Rattle.ref_log.specs.declared.places.Reference.{Reference}
use Rattle.ref_log.specs.Layout.{held, IsLinked}
use Rattle.ref_log.proofs.References.{settled-same, linked-append, held-append, head-here}
use Rattle.ref_log.proofs.places.append.Goals as goal

pub returns-clause-settled : goal.returns-clause-settled
returns-clause-settled c = λ s. settled-same c.args.references.now.items c.args.r.0 c.index_mut-reference.result.now (record { settled = c.index_mut-reference.result.now.settled; head = c.len.result }) s c.requires.there c.index_mut-reference.ensures.value refl

pub returns-clause-writes : goal.returns-clause-writes
returns-clause-writes c = λ s.
    let e : Recent = record { number = c.args.q; value = c.args.v; reference = c.args.r; before = c.index_mut-reference.result.now.head; far = c.far_from-far.result.0; rank = c.far_from-far.result.1; struck = false } in
    let y : Reference = record { settled = c.index_mut-reference.result.now.settled; head = c.len.result } in
    let ys : List Reference = slice_set c.args.references.now.items c.args.r.0 y in
    ap (λ es. held ys es s) c.push_reserved.ensures.items
    ∙ held-append c.args.references.now.items ys c.args.recent.now.items c.args.r.0 e s (returns-clause-settled c s) refl c.requires.some refl

pub returns-clause-linked : goal.returns-clause-linked
returns-clause-linked c =
    let x = c.index_mut-reference.result.now in
    let e : Recent = record { number = c.args.q; value = c.args.v; reference = c.args.r; before = x.head; far = c.far_from-far.result.0; rank = c.far_from-far.result.1; struck = false } in
    let y : Reference = record { settled = x.settled; head = c.len.result } in
    let ys : List Reference = slice_set c.args.references.now.items c.args.r.0 y in
    subst (λ es. IsLinked ys es) (sym c.push_reserved.ensures.items)
    (linked-append c.args.references.now.items c.args.recent.now.items c.args.r.0 y e c.requires.linked c.requires.there refl c.requires.some
    (ap (λ z. z.head) c.index_mut-reference.ensures.value ∙ sym (head-here c.args.references.now.items c.args.r.0 x c.requires.there))
    (c.len.ensures ∙ c.push_reserved.ensures.len ∙ ap (λ n. n + 1) c.args.recent.now.ok.0) c.requires.above refl)

use Rattle.std.proofs.Common.{◌+◌, ◌∷◌, [], List, Some, take, refl, sym, ap, subst, ◌∙◌, arith}
use Rattle.std.specs.List.{slice_index_or, slice_set}
use Rattle.ref_log.specs.declared.places.Recent.{Recent}
use Rattle.ref_log.specs.declared.places.Reference.{Reference}
use Rattle.ref_log.specs.Layout.{is_of, write_of, of_reference, settled_at, IsLinked}
use Rattle.ref_log.proofs.Links.{is_of-live, live_both}
use Rattle.ref_log.proofs.References.{settled-set, settled-same, head-here, linked-append, put-behind, long-prefix, stays, stays-settled, goes-settled, linked-heads}
use Rattle.ref_log.proofs.Unlinked.{apart_is}
use Rattle.ref_log.proofs.cut.move_over.Goals as goal

pub returns-then-entry-q-clause-settled : goal.returns-then-entry-q-clause-settled
returns-then-entry-q-clause-settled c = λ s.
    let e = c.args.entry in
    let there = c.requires.there (apart_is e.number.0 0 c.if-entry-eq0.false) in
    settled-set c.args.references.now e.reference.0 _ s there
    ∙ goes-settled s c.args.q.0 e e.reference.0 (write_of e ∷ []) (settled_at c.args.references.now s) refl (omega arith) c.if-entry-q.true c.if-entry.false

pub returns-then-entry-q-clause-linked : goal.returns-then-entry-q-clause-linked
returns-then-entry-q-clause-linked c =
    let e = c.args.entry in
    let there = c.requires.there (apart_is e.number.0 0 c.if-entry-eq0.false) in
    let x = c.index-references-entry.result in
    let y : Reference = record { settled = Some (record { number = e.number; value = e.value }); head = (slice_index_or c.args.references.now e.reference.0 x).head } in
    linked-heads c.args.references.now (take c.args.stay c.args.recent.now) e.reference.0 x y c.requires.linked there c.index-references-entry.is (ap (λ z. z.head) (sym c.index-references-entry.is))

pub returns-clause-recent : goal.returns-clause-recent
returns-clause-recent c = λ s.
    let e = c.args.entry in
    let new : Recent = record e { before = (slice_index_or c.args.references.now e.reference.0 c.index-references-entry.result).head; far = c.far_from-far.result.0; rank = c.far_from-far.result.1 } in
    ap (of_reference s) (put-behind c.args.recent.now c.args.stay new c.requires.stay)
    ∙ stays s c.args.q.0 (take c.args.stay c.args.recent.now) new e refl refl c.if-entry-q.false

pub returns-clause-settled : goal.returns-clause-settled
returns-clause-settled c = λ s.
    let e = c.args.entry in
    let x = c.index-references-entry.result in
    let there = c.requires.there (apart_is e.number.0 0 c.if-entry-eq0.false) in
    let y : Reference = record { settled = (slice_index_or c.args.references.now e.reference.0 x).settled; head = c.args.stay + 1 } in
    settled-same c.args.references.now e.reference.0 x y s there c.index-references-entry.is (ap (λ z. z.settled) (sym c.index-references-entry.is))
    ∙ stays-settled s c.args.q.0 e (write_of e ∷ []) (settled_at c.args.references.now s) c.if-entry-q.false

pub returns-clause-linked : goal.returns-clause-linked
returns-clause-linked c =
    let e = c.args.entry in
    let x = c.index-references-entry.result in
    let there = c.requires.there (apart_is e.number.0 0 c.if-entry-eq0.false) in
    let y : Reference = record { settled = (slice_index_or c.args.references.now e.reference.0 x).settled; head = c.args.stay + 1 } in
    let new : Recent = record e { before = (slice_index_or c.args.references.now e.reference.0 x).head; far = c.far_from-far.result.0; rank = c.far_from-far.result.1 } in
    let live = live_both (is_of e.reference.0 e) e.struck (is_of-live e (apart_is e.number.0 0 c.if-entry-eq0.false)) c.if-entry.false in
    let ys : List Reference = slice_set c.args.references.now e.reference.0 y in
    subst (λ es. IsLinked ys es) (sym (put-behind c.args.recent.now c.args.stay new c.requires.stay))
    (linked-append c.args.references.now (take c.args.stay c.args.recent.now) e.reference.0 y new c.requires.linked there refl (omega arith)
    (sym (head-here c.args.references.now e.reference.0 x there)) (ap (λ n. n + 1) (sym (long-prefix c.args.recent.now c.args.stay c.requires.stay))) (c.requires.above live) c.if-entry.false)

use Rattle.std.proofs.Common.{◌≡◌, ◌<◌, true, cond, None, length, refl, sym, ap, subst, ◌∙◌, arith}
use Rattle.std.specs.List.{slice_index_or, slice_set}
use Rattle.std.proofs.lemmas.List.{set-get_or}
use Rattle.checkpoint_store.specs.Saved.{same_place}
use Rattle.checkpoint_store.specs.Layout.{found}
use Rattle.checkpoint_store.proofs.Found.{found-none, found-absent, found-at}
use Rattle.checkpoint_store.proofs.Order.{absent-below, absent-beyond, not_below}
use Rattle.checkpoint_store.proofs.Changed.{places-set, found-emptied, same-place}
use Rattle.checkpoint_store.proofs.entries.take_at.Goals as goal

pub returns-then-i-len-clause-taken : goal.returns-then-i-len-clause-taken
returns-then-i-len-clause-taken g c =
    let es = c.args.entries.now.items in
    let absent = absent-below es c.args.place (λ j d low within. c.requires.below j d low (omega (arith, c.args.entries.now.ok.0))) in
    sym (found-none es c.args.place (λ j d within same. let other = absent j d within in cc))

pub returns-then-i-len-clause-left : goal.returns-then-i-len-clause-left
returns-then-i-len-clause-left g c = λ k.
    let es = c.args.entries.now.items in
    found-absent es c.args.place k (absent-below es c.args.place (λ j d low within. c.requires.below j d low (omega (arith, c.args.entries.now.ok.0))))

pub returns-then-not-is-clause-taken : goal.returns-then-not-is-clause-taken
returns-then-not-is-clause-taken g c =
    let es = c.args.entries.now.items in
    let inside : c.args.i < length es = omega (arith, c.args.entries.now.ok.0) in
    let absent = absent-beyond es c.args.i c.args.place c.index_mut-entry.result.now c.requires.rises inside c.index_mut-entry.ensures.value c.requires.below c.requires.rest (sym c.is.ensures ∙ c.if-not-is.true) in
    sym (found-none es c.args.place (λ j d within same. let other = absent j d within in cc))

pub returns-then-not-is-clause-left : goal.returns-then-not-is-clause-left
returns-then-not-is-clause-left g c = λ k.
    let es = c.args.entries.now.items in
    let inside : c.args.i < length es = omega (arith, c.args.entries.now.ok.0) in
    let absent = absent-beyond es c.args.i c.args.place c.index_mut-entry.result.now c.requires.rises inside c.index_mut-entry.ensures.value c.requires.below c.requires.rest (sym c.is.ensures ∙ c.if-not-is.true) in
    ap (λ xs. found xs k) (ap (slice_set es c.args.i) c.index_mut-entry.ensures.value ∙ set-get_or es c.args.i c.index_mut-entry.result.now)
    ∙ found-absent es c.args.place k absent

pub returns-clause-taken : goal.returns-clause-taken
returns-clause-taken g c =
    let es = c.args.entries.now.items in
    let e = c.index_mut-entry.result.now in
    let inside : c.args.i < length es = omega (arith, c.args.entries.now.ok.0) in
    let here : same_place (slice_index_or es c.args.i e).place c.args.place ≡ true = subst (λ x. same_place x.place c.args.place ≡ true) c.index_mut-entry.ensures.value (sym c.is.ensures ∙ c.if-not-is.false) in
    c.take.ensures.value
    ∙ ap (λ x. x.control) c.index_mut-entry.ensures.value
    ∙ sym (found-at es c.args.i e c.args.place inside here (λ j early. not_below _ c.args.place (c.requires.below j e (omega arith) early)))

pub returns-clause-left : goal.returns-clause-left
returns-clause-left g c = λ k.
    let es = c.args.entries.now.items in
    let e = c.index_mut-entry.result.now in
    let inside : c.args.i < length es = omega (arith, c.args.entries.now.ok.0) in
    let place = same-place e.place c.args.place (sym c.is.ensures ∙ c.if-not-is.false) in
    found-emptied es c.args.i e (record { place = e.place; control = c.take.new.self }) k c.requires.rises inside c.index_mut-entry.ensures.value refl
    ∙ ap (λ o. cond (same_place e.place k) o (found es k)) c.take.ensures.after
    ∙ ap (λ p. cond (same_place p k) None (found es k)) place

pub returns-clause-places : goal.returns-clause-places
returns-clause-places g c =
    let es = c.args.entries.now.items in
    places-set es c.args.i c.index_mut-entry.result.now (record { place = c.index_mut-entry.result.now.place; control = c.take.new.self }) (omega (arith, c.args.entries.now.ok.0)) c.index_mut-entry.ensures.value refl

use Rattle.std.proofs.Common.{◌<◌, None, length, sym, ap, subst, ◌∙◌, refl, arith}
use Rattle.std.specs.List.{slice_set}
use Rattle.std.proofs.lemmas.List.{set-get_or}
use Rattle.std.proofs.Math.ListN.{length-set}
use Rattle.checkpoint_store.specs.Saved.{at}
use Rattle.checkpoint_store.specs.Layout.{places_of, found, Rises}
use Rattle.checkpoint_store.proofs.Changed.{taken_where, places-set, emptied-elsewhere, holes-more, none-at, after-from}
use Rattle.checkpoint_store.proofs.entries.empty_from.Goals as goal

pub loop-k-preserved : goal.loop-k-preserved
loop-k-preserved g c =
    let es = c.loop-k.entries.items in
    let e = c.index_mut-entry.result.now in
    let h = record e { control = None } in
    let within : c.loop-k.k < length es = omega (arith, c.loop-k.entries.ok.0) in
    let rises : Rises (places_of es) = subst Rises (sym c.loop-k.invariant.places) c.requires.rises in
    record {
      left = λ x. emptied-elsewhere es c.loop-k.k e h c.args.q x rises within c.index_mut-entry.ensures.value refl refl (sym c.event.ensures ∙ c.if-event-q.false) ∙ c.loop-k.invariant.left x;
      holes = holes-more es c.args.i c.loop-k.k h within refl c.loop-k.invariant.holes;
      places = places-set es c.loop-k.k e h within c.index_mut-entry.ensures.value refl ∙ c.loop-k.invariant.places;
      length_is = length-set es c.loop-k.k h ∙ c.loop-k.invariant.length_is;
      spare = c.loop-k.invariant.spare;
      upto = c.loop-k.invariant.upto ∙ sym (length-set es c.loop-k.k h);
    }

pub returns-after-loop-k-clause-left : goal.returns-after-loop-k-clause-left
returns-after-loop-k-clause-left g c = λ x.
    let es = c.loop-k.entries.items in
    taken_where (at c.args.q x) (found es x) _
    (none-at es c.args.entries.now.items c.args.i c.loop-k.k c.args.q x c.loop-k.invariant.places c.requires.below c.loop-k.invariant.holes (λ j d late within. absurd (omega arith)))
    (c.loop-k.invariant.left x)

pub returns-then-event-q-clause-left : goal.returns-then-event-q-clause-left
returns-then-event-q-clause-left g c = λ x.
    let es = c.loop-k.entries.items in
    let e = c.index_mut-entry.result.now in
    let within : c.loop-k.k < length es = omega (arith, c.loop-k.entries.ok.0) in
    let rises : Rises (places_of es) = subst Rises (sym c.loop-k.invariant.places) c.requires.rises in
    let high = after-from es c.args.entries.now.items c.args.i c.loop-k.k e c.args.q c.loop-k.invariant.places rises (omega arith) within c.loop-k.invariant.length_is c.index_mut-entry.ensures.value c.requires.rest (λ same. c.if-event-q.true (c.event.ensures ∙ same)) in
    ap (λ xs. found xs x) (ap (slice_set es c.loop-k.k) c.index_mut-entry.ensures.value ∙ set-get_or es c.loop-k.k e)
    ∙ taken_where (at c.args.q x) (found es x) _ (none-at es c.args.entries.now.items c.args.i c.loop-k.k c.args.q x c.loop-k.invariant.places c.requires.below c.loop-k.invariant.holes high)
    (c.loop-k.invariant.left x)

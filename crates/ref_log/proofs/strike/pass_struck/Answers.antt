use Rattle.std.proofs.Common.{◌≡◌, ◌<◌, ◌-◌, true, length, refl, sym, ap, subst, ◌∙◌, arith}
use Rattle.std.specs.List.{slice_index_or}
use Rattle.std.proofs.lemmas.List.{get_or_default}
use Rattle.ref_log.specs.declared.places.Recent.{Recent}
use Rattle.ref_log.specs.declared.places.Reference.{Reference}
use Rattle.ref_log.specs.Layout.{IsLinked}
use Rattle.ref_log.proofs.References.{settled-same}
use Rattle.ref_log.proofs.Passed.{inside, linked-end, next-less, chained-next, others-next, head-is}
use Rattle.ref_log.proofs.Unlinked.{set_same, struck-hole}
use Rattle.ref_log.proofs.strike.pass_struck.Goals as goal

pub bounds-recent-place : goal.bounds-recent-place
bounds-recent-place c = inside c.loop-place.references c.loop-place.recent c.loop-place.invariant.chained c.args.r.0 c.loop-place.place c.loop-place.invariant.place c.loop-place-test.true

pub loop-place-smaller : goal.loop-place-smaller
loop-place-smaller c =
    let h : Recent = record c.index-recent-place.result { number = record { 0 = 0 } } in
    next-less c.loop-place.references c.loop-place.recent c.loop-place.invariant.chained c.args.r.0 c.loop-place.place c.loop-place.invariant.place c.loop-place-test.true h refl c.index-recent-place.result

pub loop-place-preserved : goal.loop-place-preserved
loop-place-preserved c =
    let xs = c.loop-place.references in
    let es = c.loop-place.recent in
    let r = c.args.r.0 in
    let k = c.loop-place.place - 1 in
    let was = c.loop-place.invariant in
    let d = c.index-recent-place.result in
    let x = c.index-references-r-in-loop-place.result in
    let e = slice_index_or es k d in
    let h : Recent = record e { number = record { 0 = 0 } } in
    let y : Reference = record { settled = (slice_index_or xs r x).settled; head = e.before } in
    let there : r < length xs = omega (arith, c.requires.there, c.loop-place.auto.references) in
    let within = inside xs es was.chained r c.loop-place.place was.place c.loop-place-test.true in
    let struck : (slice_index_or es k h).struck ≡ true = ap (λ (z : Recent). z.struck) (sym (get_or_default es k d h within)) ∙ c.if-not-entry.false in
    record {
      place = head-is xs r y there;
      chained = chained-next xs es was.chained r c.loop-place.place was.place c.loop-place-test.true h refl y d there refl;
      others = λ s other. others-next xs es was.chained r c.loop-place.place was.place c.loop-place-test.true h refl s other (was.others s other);
      writes = λ s. struck-hole s es k h struck refl ∙ was.writes s;
      settled = λ s. settled-same xs r x y s there c.index-references-r-in-loop-place.is (ap (λ (z : Reference). z.settled) (sym c.index-references-r-in-loop-place.is)) ∙ was.settled s;
    }

pub returns-after-loop-place-clause-linked : goal.returns-after-loop-place-clause-linked
returns-after-loop-place-clause-linked c = linked-end c.loop-place.references c.loop-place.recent c.loop-place.invariant.chained c.args.r.0 c.loop-place.place c.loop-place.invariant.place c.loop-place.invariant.others (λ d some. absurd (omega (arith, c.loop-place-test.false)))

pub returns-then-not-entry-clause-linked : goal.returns-then-not-entry-clause-linked
returns-then-not-entry-clause-linked c =
    let es = c.loop-place.recent in
    let k = c.loop-place.place - 1 in
    let e = c.index-recent-place.result in
    let within = inside c.loop-place.references es c.loop-place.invariant.chained c.args.r.0 c.loop-place.place c.loop-place.invariant.place c.loop-place-test.true in
    subst (IsLinked c.loop-place.references) (sym (set_same es k e))
    (linked-end c.loop-place.references es c.loop-place.invariant.chained c.args.r.0 c.loop-place.place c.loop-place.invariant.place c.loop-place.invariant.others (λ d _.
    ap (λ (z : Recent). z.struck) (get_or_default es k d e within) ∙ c.if-not-entry.true))

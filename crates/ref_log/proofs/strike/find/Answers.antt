use Rattle.std.proofs.Common.{sym}
use Rattle.ref_log.proofs.References.{head-here}
use Rattle.ref_log.proofs.Found.{there-has, passed_start, passed_found, passed_far, passed_before}
use Rattle.ref_log.proofs.strike.find.Goals as goal

pub bounds-references-r : goal.bounds-references-r
bounds-references-r c = there-has c.args.references.now c.args.recent.now c.args.r.0 c.args.q.0 c.requires.chained c.requires.there

pub bounds-references-r-2 : goal.bounds-references-r-2
bounds-references-r-2 c = there-has c.args.references.now c.args.recent.now c.args.r.0 c.args.q.0 c.requires.chained c.requires.there

pub loop-place-init : goal.loop-place-init
loop-place-init c =
    let xs = c.args.references.now in
    let es = c.args.recent.now in
    let there = there-has xs es c.args.r.0 c.args.q.0 c.requires.chained c.requires.there in
    record { passed = passed_start xs es c.args.r.0 c.args.q.0 _ c.requires.chained c.requires.there (sym (head-here xs c.args.r.0 c.index-references-r.result there)) }

pub returns-then-entry-q : goal.returns-then-entry-q
returns-then-entry-q c = passed_found c.args.references.now c.args.recent.now c.args.r.0 c.args.q.0 c.loop-place.place c.index-recent-place.result c.requires.chained c.loop-place.invariant.passed c.loop-place-test.true c.index-recent-place.is c.if-entry-q.true

pub loop-place-preserved-then-is_from : goal.loop-place-preserved-then-is_from
loop-place-preserved-then-is_from c =
    let from = c.is_from.ensures c.if-is_from.true in
    record { passed = passed_far c.args.references.now c.args.recent.now c.args.r.0 c.args.q.0 c.loop-place.place c.index-recent-place.result.far c.requires.chained c.loop-place.invariant.passed c.requires.some c.if-far-place.true from.0 from.2 }

pub loop-place-smaller : goal.loop-place-smaller
loop-place-smaller c = (passed_before c.args.references.now c.args.recent.now c.args.r.0 c.args.q.0 c.loop-place.place c.index-recent-place.result c.requires.chained c.loop-place.invariant.passed c.loop-place-test.true c.index-recent-place.is c.if-entry-q.false).0

pub loop-place-preserved : goal.loop-place-preserved
loop-place-preserved c = record {
  passed = (passed_before c.args.references.now c.args.recent.now c.args.r.0 c.args.q.0 c.loop-place.place c.index-recent-place.result c.requires.chained c.loop-place.invariant.passed c.loop-place-test.true c.index-recent-place.is c.if-entry-q.false).1;
}

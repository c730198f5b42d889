use Rattle.std.proofs.Common.{sym, ap, ◌∙◌}
use Rattle.ref_log.specs.Layout.{head_at, settled_at}
use Rattle.ref_log.proofs.References.{head-set, head-past, settled-same, forget-more}
use Rattle.ref_log.proofs.cut.forget_heads.Goals as goal
use Rattle.ref_log.proofs.cut.forget_heads.Goals.{then-r-references, else-r-references}

pub loop-entry-preserved : goal.loop-entry-preserved
loop-entry-preserved c =
    let xs = c.loop-entry.references in
    let e = c.entry-item.result in
    elim c.if-r-references.branch [
      | then-r-references w ↦ record {
        heads = forget-more xs c.if-r-references.references c.args.recent.now c.loop-entry.entry-index e c.loop-entry-test.true c.entry-item.is c.loop-entry.invariant.heads
            (λ s. ap (λ ys. head_at ys s) w.references-is ∙ head-set xs e.reference.0 _ s w.if-r-references.true);
        settled = λ s. ap (λ ys. settled_at ys s) w.references-is ∙ settled-same xs e.reference.0 w.index-references-r.result _ s w.if-r-references.true w.index-references-r.is (ap (λ x. x.settled) (sym w.index-references-r.is)) ∙ c.loop-entry.invariant.settled s;
      }
      | else-r-references w ↦ record {
        heads = forget-more xs c.if-r-references.references c.args.recent.now c.loop-entry.entry-index e c.loop-entry-test.true c.entry-item.is c.loop-entry.invariant.heads
            (λ s. ap (λ ys. head_at ys s) w.references-is ∙ head-past xs e.reference.0 s w.if-r-references.false);
        settled = λ s. ap (λ ys. settled_at ys s) w.references-is ∙ c.loop-entry.invariant.settled s;
      }
    ]

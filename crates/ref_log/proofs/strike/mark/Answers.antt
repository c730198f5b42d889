use Rattle.std.proofs.Common.{true, refl, ap}
use Rattle.std.specs.List.{slice_index_or}
use Rattle.std.proofs.lemmas.List.{get_or_default}
use Rattle.ref_log.specs.declared.places.Recent.{Recent}
use Rattle.ref_log.proofs.Unlinked.{chained-struck, others-struck, gone-struck}
use Rattle.ref_log.proofs.strike.mark.Goals as goal

pub returns-clause-recent : goal.returns-clause-recent
returns-clause-recent c =
    let es = c.args.recent.now in
    let h : Recent = record (slice_index_or es c.args.at c.index-recent-at.result) { value = c.unit.result; struck = true } in
    let same = get_or_default es c.args.at c.index-recent-at.result h c.requires.found.within in
    gone-struck c.args.references.now es c.requires.linked c.args.r.0 c.args.q.0 c.args.at c.requires.found h (ap (λ (x : Recent). x.number.0) same) (ap (λ (x : Recent). x.reference.0) same) (ap (λ (x : Recent). x.before) same) refl c.requires.rising

pub returns-clause-chained : goal.returns-clause-chained
returns-clause-chained c =
    let es = c.args.recent.now in
    let h : Recent = record (slice_index_or es c.args.at c.index-recent-at.result) { value = c.unit.result; struck = true } in
    let same = get_or_default es c.args.at c.index-recent-at.result h c.requires.found.within in
    chained-struck c.args.references.now es c.requires.linked c.args.r.0 c.args.q.0 c.args.at c.requires.found h (ap (λ (x : Recent). x.number.0) same) (ap (λ (x : Recent). x.reference.0) same) (ap (λ (x : Recent). x.before) same) refl

pub returns-clause-others : goal.returns-clause-others
returns-clause-others c =
    let es = c.args.recent.now in
    let h : Recent = record (slice_index_or es c.args.at c.index-recent-at.result) { value = c.unit.result; struck = true } in
    let same = get_or_default es c.args.at c.index-recent-at.result h c.requires.found.within in
    others-struck c.args.references.now es c.requires.linked c.args.r.0 c.args.q.0 c.args.at c.requires.found h (ap (λ (x : Recent). x.number.0) same) (ap (λ (x : Recent). x.reference.0) same) (ap (λ (x : Recent). x.before) same) refl

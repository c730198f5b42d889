use Rattle.std.proofs.Common.{◌≡◌, true, sym, ◌∙◌, subst}
use Rattle.step_eval.specs.Progress.{ProgressView}
use Rattle.commit_book.specs.declared.done.Outcome.{Outcome}
use Rattle.commit_book.specs.declared.done.Outcome.TheVariants as outcome
use Rattle.commit_book.specs.Acting.{AreAsBefore, IsDone, IsPerformed, StandsAt, is_simple, row_by}
use Rattle.commit_book.specs.Layout.{view_of}
use Rattle.commit_book.proofs.Acting.Performed.{on_back, on_done, on_refusal, simple_left, simple_performed, still_ok}
use Rattle.commit_book.proofs.Acting.Rowing.{offers_by}
use Rattle.commit_book.proofs.parts.Parts.perform_act.Goals as goal

pub exchange-requires-clause-offers : goal.exchange-requires-clause-offers
exchange-requires-clause-offers c = offers_by c.args.job.now.program c.args.progress.end c.args.act c.requires.at ∙ sym c.offer_of.ensures ∙ c.in-Some.is

pub stabilize-requires-clause-at : goal.stabilize-requires-clause-at
stabilize-requires-clause-at c = subst (StandsAt c.args.job.now.program c.args.progress.end) c.in-Stabilize.is c.requires.at

pub act-requires-clause-simple : goal.act-requires-clause-simple
act-requires-clause-simple c = simple_left c.args.act (sym c.offer_of.ensures ∙ c.in_default.is) c.in_default-act.not-Stabilize

pub returns-in_default-act : goal.returns-in_default-act
returns-in_default-act c =
    let job = c.args.job.now in
    let old = c.args.self.now in
    let new = c.act.new.self in
    let lease = c.args.lease.now in
    let progress = c.args.progress in
    let simple : is_simple c.args.act ≡ true = simple_left c.args.act (sym c.offer_of.ensures ∙ c.in_default.is) c.in_default-act.not-Stabilize in
    record {
      done = on_done c.act.result c.taken.result outcome.Taken c.taken.ensures.ok c.taken.ensures.err (λ (o : Outcome). IsPerformed job old new lease progress o)
          (still_ok (IsDone job old new lease progress (row_by (view_of job old) lease.thread c.args.act)) (IsPerformed job old new lease progress outcome.Taken) c.act.result (simple_performed job old lease progress new c.args.act c.requires.at simple) c.act.ensures.done);
      back = on_back c.act.result c.taken.result outcome.Taken c.taken.ensures.ok c.taken.ensures.err (λ (g : ProgressView). g ≡ progress) c.act.ensures.back;
      err = on_refusal c.act.result c.taken.result outcome.Taken c.taken.ensures.ok c.taken.ensures.err (AreAsBefore old new) c.act.ensures.err;
      kept = c.act.ensures.kept;
    }

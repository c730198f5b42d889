use Rattle.std.proofs.Common.{rules, ◌≤◌, length, refl, sym, ap, subst, ◌∙◌}
use Rattle.commit_book.specs.declared.parts.Parts.{Parts}
use Rattle.step_eval.specs.declared.act.Act.TheVariants as own
use Rattle.commit_book.proofs.Acting.Acted.{in_ok, named_so, needs_act, needs_few, needs_fit, needs_fits, needs_there, needs_valid}
use Rattle.commit_book.proofs.Acting.CutActs.{cut_lasts}
use Rattle.commit_book.proofs.Acting.Needed.{cut_allowed}
use Rattle.commit_book.proofs.Keeping.SeenAfter.{kept_same}
use Rattle.commit_book.proofs.Acting.SingleActs.{few_at, may_begin}
use Rattle.commit_book.proofs.parts.Parts.cut.Goals as goal

pub plan_cut-requires : goal.plan_cut-requires
plan_cut-requires c = record { few = few_at c.args.job.now c.args.self.now c.args.lease.now c.args.progress c.requires.may }

pub returns-then-is_err-clause-back : goal.returns-then-is_err-clause-back
returns-then-is_err-clause-back c = refl

pub returns-then-is_err-clause-err : goal.returns-then-is_err-clause-err
returns-then-is_err-clause-err c = c.plan_cut.ensures.before

pub returns-then-is_err-clause-kept : goal.returns-then-is_err-clause-kept
returns-then-is_err-clause-kept c = kept_same c.args.job.now c.args.self.now c.plan_cut.new.self c.plan_cut.ensures.before c.requires.may.kept

pub begin-control-requires : goal.begin-control-requires
begin-control-requires c = may_begin c.args.job.now c.args.self.now c.args.lease.now c.args.progress c.requires.may c.plan_cut.new.self c.plan_cut.ensures.before (in_ok c.plan_cut.result c.is_err.result c.plan_cut.ensures.spare c.is_err.ensures.value c.if-is_err.false)

pub push-q-requires-clause-more : goal.push-q-requires-clause-more
push-q-requires-clause-more c = c.begin-control.ensures.more

pub push-q-requires-clause-label : goal.push-q-requires-clause-label
push-q-requires-clause-label c = named_so c.args.job.now c.args.self.now c.args.lease.now c.args.progress c.requires.may c.thread.result c.thread.ensures

pub cut-requires-2 : goal.cut-requires-2
cut-requires-2 c =
    cut_allowed c.args.job.now c.args.self.now c.args.lease.now c.args.progress c.requires.may c.plan_cut.new.self c.begin-control.new.self c.plan_cut.ensures.before c.begin-control.ensures.history c.begin-control.ensures.rest c.push-q.new.self.log (ap (λ (k : Parts). k.log) c.push-q.ensures.rest) c.push-q.result.0 c.push-q.ensures.number

pub cut-requires-4 : goal.cut-requires-4
cut-requires-4 c =
    subst (λ (k : Parts). length k.printed.recent ≤ k.printed.places) (sym c.push-q.ensures.rest)
    (subst (λ (k : Parts). length k.printed.recent ≤ k.printed.places) (sym c.begin-control.ensures.rest)
    (in_ok c.plan_cut.result c.is_err.result c.plan_cut.ensures.places c.is_err.ensures.value c.if-is_err.false))

pub answer-requires-clause-there : goal.answer-requires-clause-there
answer-requires-clause-there c =
    needs_there c.args.job.now c.args.self.now c.args.lease.now c.args.progress c.requires.may c.plan_cut.new.self c.begin-control.new.self (record c.push-q.new.self { graph = c.cut.new.self; store = c.drop_before.new.self; log = c.cut-2.new.self; rollback = c.cut-3.new.self; printed = c.cut-4.new.self; tallies = record c.push-q.new.self.tallies { finals = length c.finals.result.now } }) c.plan_cut.ensures.before c.begin-control.ensures.rest (ap (λ k. k.slots) c.push-q.ensures.rest) c.thread-2.result c.thread-2.ensures

pub answer-requires-clause-few : goal.answer-requires-clause-few
answer-requires-clause-few c =
    needs_few c.args.job.now c.args.self.now c.args.lease.now c.args.progress c.requires.may c.plan_cut.new.self c.begin-control.new.self (record c.push-q.new.self { graph = c.cut.new.self; store = c.drop_before.new.self; log = c.cut-2.new.self; rollback = c.cut-3.new.self; printed = c.cut-4.new.self; tallies = record c.push-q.new.self.tallies { finals = length c.finals.result.now } }) c.plan_cut.ensures.before c.begin-control.ensures.rest (ap (λ k. k.slots) c.push-q.ensures.rest) (ap (λ (k : Parts). k.tallies.faulted) c.push-q.ensures.rest)

pub answer-requires-clause-valid : goal.answer-requires-clause-valid
answer-requires-clause-valid c =
    needs_valid c.args.job.now c.args.self.now c.args.lease.now c.args.progress c.requires.may c.deref.result.now (c.deref.ensures ∙ c.program.ensures.value)

pub answer-requires-clause-fits : goal.answer-requires-clause-fits
answer-requires-clause-fits c =
    needs_fits c.args.job.now c.args.self.now c.args.lease.now c.args.progress c.requires.may c.deref.result.now c.begin-control.result (c.deref.ensures ∙ c.program.ensures.value) c.begin-control.ensures.end

pub answer-requires-clause-fit : goal.answer-requires-clause-fit
answer-requires-clause-fit c =
    needs_fit c.args.job.now c.args.self.now c.args.lease.now c.args.progress c.requires.may c.plan_cut.new.self c.begin-control.new.self (record c.push-q.new.self { graph = c.cut.new.self; store = c.drop_before.new.self; log = c.cut-2.new.self; rollback = c.cut-3.new.self; printed = c.cut-4.new.self; tallies = record c.push-q.new.self.tallies { finals = length c.finals.result.now } }) c.plan_cut.ensures.before c.begin-control.ensures.rest (ap (λ k. k.slots) c.push-q.ensures.rest) c.deref.result.now (c.deref.ensures ∙ c.program.ensures.value)

pub answer-requires-clause-act : goal.answer-requires-clause-act
answer-requires-clause-act c =
    needs_act c.args.job.now c.args.self.now c.args.lease.now c.args.progress c.requires.may own.Cut c.requires.at c.begin-control.result c.begin-control.ensures.end

pub returns : goal.returns
returns c =
    let lasts = cut_lasts c.args.job.now c.args.self.now c.args.lease.now c.args.progress c.requires.may c.plan_cut.new.self c.begin-control.new.self c.plan_cut.ensures.before c.begin-control.ensures.history c.begin-control.ensures.rest c.push-q.new.self c.push-q.result c.push-q.ensures.number c.thread.result c.thread.ensures c.push-q.ensures.history c.push-q.ensures.rest
    c.cut.new.self c.cut.ensures.nodes c.drop_before.new.self c.drop_before.ensures.rest c.cut-2.new.self c.cut-2.ensures.after
    c.cut-3.new.self c.cut-3.ensures.read c.cut-3.ensures.floor c.cut-3.ensures.own c.cut-3.ensures.lost c.cut-4.new.self c.cut-4.ensures.finals c.cut-4.ensures.recent (length c.finals.result.now) (ap length c.finals.ensures)
    c.answer.new.self c.deref.result.now c.thread-2.result c.begin-control.result c.unit.result (c.deref.ensures ∙ c.program.ensures.value) c.thread-2.ensures c.begin-control.ensures.end c.unit.ensures c.requires.at c.answer.ensures in
    record { done = lasts.0; back = search rules; err = search rules; kept = lasts.1 }

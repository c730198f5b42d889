use Rattle.std.proofs.Common.{rules, ◌+◌, refl, ap, ◌∙◌, arith}
use Rattle.commit_book.specs.declared.parts.Parts.{Parts}
use Rattle.step_eval.specs.declared.act.Act.TheVariants as own
use Rattle.commit_book.proofs.Acting.Acted.{in_err, in_ok, named_so, needs_act, needs_few, needs_fit, needs_fits, needs_there, needs_valid}
use Rattle.commit_book.proofs.Acting.Opened.{chan_lasts, none_yet}
use Rattle.commit_book.proofs.Acting.Needed.{chan_low, chan_named}
use Rattle.commit_book.proofs.Keeping.SeenAfter.{kept_same}
use Rattle.commit_book.proofs.Acting.SingleActs.{few_at, may_begin}
use Rattle.commit_book.proofs.parts.Parts.new_chan.Goals as goal

pub plan_chan-requires-clause-few : goal.plan_chan-requires-clause-few
plan_chan-requires-clause-few c =
    few_at c.args.job.now c.args.self.now c.args.lease.now c.args.progress c.requires.may

pub plan_chan-requires-clause-none : goal.plan_chan-requires-clause-none
plan_chan-requires-clause-none c =
    none_yet c.args.job.now c.args.self.now c.args.lease.now c.args.progress c.requires.may (record { 0 = c.args.self.now.next_chan }) refl

pub returns-then-is_err-clause-back : goal.returns-then-is_err-clause-back
returns-then-is_err-clause-back c = refl

pub returns-then-is_err-clause-err : goal.returns-then-is_err-clause-err
returns-then-is_err-clause-err c =
    in_err c.plan_chan.result c.is_err.result c.plan_chan.ensures.err c.is_err.ensures.value c.if-is_err.true

pub returns-then-is_err-clause-kept : goal.returns-then-is_err-clause-kept
returns-then-is_err-clause-kept c =
    kept_same c.args.job.now c.args.self.now (c.plan_chan.new.self) (in_err c.plan_chan.result c.is_err.result c.plan_chan.ensures.err c.is_err.ensures.value c.if-is_err.true) c.requires.may.kept

pub begin-control-requires : goal.begin-control-requires
begin-control-requires c =
    may_begin c.args.job.now c.args.self.now c.args.lease.now c.args.progress c.requires.may (record c.plan_chan.new.self { offers = c.args.self.now.offers }) (in_ok c.plan_chan.result c.is_err.result c.plan_chan.ensures.rest c.is_err.ensures.value c.if-is_err.false) (in_ok c.plan_chan.result c.is_err.result c.plan_chan.ensures.spare c.is_err.ensures.value c.if-is_err.false)

pub push-requires-clause-more : goal.push-requires-clause-more
push-requires-clause-more c = c.begin-control.ensures.more

pub push-requires-clause-label : goal.push-requires-clause-label
push-requires-clause-label c =
    (named_so c.args.job.now c.args.self.now c.args.lease.now c.args.progress c.requires.may c.thread.result c.thread.ensures, chan_named c.args.job.now c.args.self.now c.args.lease.now c.args.progress c.requires.may c.args.self.now.next_chan refl)

pub overflow_add-self : goal.overflow_add-self
overflow_add-self c =
    let low = chan_low c.args.job.now c.args.self.now c.args.lease.now c.args.progress c.requires.may in let same = ap (λ (k : Parts). k.next_chan) c.push.ensures.rest ∙ ap (λ (k : Parts). k.next_chan) c.begin-control.ensures.rest ∙ (in_ok c.plan_chan.result c.is_err.result c.plan_chan.ensures.rest c.is_err.ensures.value c.if-is_err.false).chan in omega (arith, low, same)

pub answer-requires-clause-there : goal.answer-requires-clause-there
answer-requires-clause-there c =
    needs_there c.args.job.now c.args.self.now c.args.lease.now c.args.progress c.requires.may (record c.plan_chan.new.self { offers = c.args.self.now.offers }) (record c.begin-control.new.self { offers = c.args.self.now.offers }) (record c.push.new.self { next_chan = c.push.new.self.next_chan + 1 }) (in_ok c.plan_chan.result c.is_err.result c.plan_chan.ensures.rest c.is_err.ensures.value c.if-is_err.false) (ap (λ (k : Parts). record k { offers = c.args.self.now.offers }) c.begin-control.ensures.rest) (ap (λ k. k.slots) c.push.ensures.rest) c.thread-2.result c.thread-2.ensures

pub answer-requires-clause-few : goal.answer-requires-clause-few
answer-requires-clause-few c =
    needs_few c.args.job.now c.args.self.now c.args.lease.now c.args.progress c.requires.may (record c.plan_chan.new.self { offers = c.args.self.now.offers }) (record c.begin-control.new.self { offers = c.args.self.now.offers }) (record c.push.new.self { next_chan = c.push.new.self.next_chan + 1 }) (in_ok c.plan_chan.result c.is_err.result c.plan_chan.ensures.rest c.is_err.ensures.value c.if-is_err.false) (ap (λ (k : Parts). record k { offers = c.args.self.now.offers }) c.begin-control.ensures.rest) (ap (λ k. k.slots) c.push.ensures.rest) (ap (λ (k : Parts). k.tallies.faulted) c.push.ensures.rest)

pub answer-requires-clause-valid : goal.answer-requires-clause-valid
answer-requires-clause-valid c =
    needs_valid c.args.job.now c.args.self.now c.args.lease.now c.args.progress c.requires.may c.deref.result.now (c.deref.ensures ∙ c.program.ensures.value)

pub answer-requires-clause-fits : goal.answer-requires-clause-fits
answer-requires-clause-fits c =
    needs_fits c.args.job.now c.args.self.now c.args.lease.now c.args.progress c.requires.may c.deref.result.now c.begin-control.result (c.deref.ensures ∙ c.program.ensures.value) c.begin-control.ensures.end

pub answer-requires-clause-fit : goal.answer-requires-clause-fit
answer-requires-clause-fit c =
    needs_fit c.args.job.now c.args.self.now c.args.lease.now c.args.progress c.requires.may (record c.plan_chan.new.self { offers = c.args.self.now.offers }) (record c.begin-control.new.self { offers = c.args.self.now.offers }) (record c.push.new.self { next_chan = c.push.new.self.next_chan + 1 }) (in_ok c.plan_chan.result c.is_err.result c.plan_chan.ensures.rest c.is_err.ensures.value c.if-is_err.false) (ap (λ (k : Parts). record k { offers = c.args.self.now.offers }) c.begin-control.ensures.rest) (ap (λ k. k.slots) c.push.ensures.rest) c.deref.result.now (c.deref.ensures ∙ c.program.ensures.value)

pub answer-requires-clause-act : goal.answer-requires-clause-act
answer-requires-clause-act c =
    needs_act c.args.job.now c.args.self.now c.args.lease.now c.args.progress c.requires.may own.NewChan c.requires.at c.begin-control.result c.begin-control.ensures.end

pub returns : goal.returns
returns c =
    let lasts = chan_lasts c.args.job.now c.args.self.now c.args.lease.now c.args.progress c.requires.may c.plan_chan.new.self c.begin-control.new.self c.push.new.self c.answer.new.self (record { 0 = c.args.self.now.next_chan }) refl (in_ok c.plan_chan.result c.is_err.result c.plan_chan.ensures.rest c.is_err.ensures.value c.if-is_err.false) (in_ok c.plan_chan.result c.is_err.result c.plan_chan.ensures.lines c.is_err.ensures.value c.if-is_err.false) (in_ok c.plan_chan.result c.is_err.result c.plan_chan.ensures.offers c.is_err.ensures.value c.if-is_err.false) c.begin-control.ensures.history c.begin-control.ensures.rest c.push.ensures.rest c.requires.at c.thread.result c.thread.ensures c.push.ensures.history c.deref.result.now c.thread-2.result c.begin-control.result c.chan.result (c.deref.ensures ∙ c.program.ensures.value) c.thread-2.ensures c.begin-control.ensures.end c.chan.ensures c.answer.ensures in
    record { done = lasts.0; back = search rules; err = search rules; kept = lasts.1 }

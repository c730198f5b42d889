use Rattle.std.proofs.Common.{rules, ◌<◌, refl, ap, ◌∙◌, arith}
use Rattle.commit_book.specs.declared.parts.Parts.{Parts}
use Rattle.step_eval.specs.declared.act.Act.TheVariants as own
use Rattle.commit_book.proofs.Acting.Acted.{in_ok, named_so, needs_act, needs_few, needs_fit, needs_fits, needs_there, needs_valid, reserved}
use Rattle.commit_book.proofs.Acting.Lasting.{attempt_lasts}
use Rattle.commit_book.proofs.Acting.Needed.{generation_named}
use Rattle.commit_book.proofs.Keeping.SeenAfter.{kept_same}
use Rattle.commit_book.proofs.Acting.SingleActs.{few_at, may_begin}
use Rattle.stab_journal.specs.Event.{IsGeneration}
use Rattle.std.proofs.Common.{◌^◌, w64}
use Rattle.std.proofs.lemmas.Int.{to_z_pos}
use Rattle.stab_base.specs.Datum.{int}
use Rattle.commit_book.proofs.parts.Parts.attempt.Goals as goal

pub reserve-requires : goal.reserve-requires
reserve-requires c =
    few_at c.args.job.now c.args.self.now c.args.lease.now c.args.progress c.requires.may

pub returns-then-is_err-clause-back : goal.returns-then-is_err-clause-back
returns-then-is_err-clause-back c = refl

pub returns-then-is_err-clause-err : goal.returns-then-is_err-clause-err
returns-then-is_err-clause-err c =
    reserved c.args.self.now c.reserve.new.self c.reserve.ensures.rest

pub returns-then-is_err-clause-kept : goal.returns-then-is_err-clause-kept
returns-then-is_err-clause-kept c =
    kept_same c.args.job.now c.args.self.now (record c.args.self.now { history = c.reserve.new.self }) (reserved c.args.self.now c.reserve.new.self c.reserve.ensures.rest) c.requires.may.kept

pub begin-control-requires : goal.begin-control-requires
begin-control-requires c =
    may_begin c.args.job.now c.args.self.now c.args.lease.now c.args.progress c.requires.may (record c.args.self.now { history = c.reserve.new.self }) (reserved c.args.self.now c.reserve.new.self c.reserve.ensures.rest) (in_ok c.reserve.result c.is_err.result c.reserve.ensures.ok c.is_err.ensures.value c.if-is_err.false)

pub push-requires-clause-more : goal.push-requires-clause-more
push-requires-clause-more c = c.begin-control.ensures.more

pub overflow_cast-n : goal.overflow_cast-n
overflow_cast-n c =
    let low : IsGeneration c.generation-n.result.0 = generation_named c.args.job.now c.args.self.now c.args.lease.now c.args.progress c.requires.may c.generation-n.result.0 c.generation-n.ensures in omega (arith, low)

pub push-requires-clause-label : goal.push-requires-clause-label
push-requires-clause-label c =
    (named_so c.args.job.now c.args.self.now c.args.lease.now c.args.progress c.requires.may c.thread.result c.thread.ensures, generation_named c.args.job.now c.args.self.now c.args.lease.now c.args.progress c.requires.may c.generation-n.result.0 c.generation-n.ensures)

pub answer-requires-clause-there : goal.answer-requires-clause-there
answer-requires-clause-there c =
    needs_there c.args.job.now c.args.self.now c.args.lease.now c.args.progress c.requires.may (record c.args.self.now { history = c.reserve.new.self }) c.begin-control.new.self (c.push.new.self) (reserved c.args.self.now c.reserve.new.self c.reserve.ensures.rest) c.begin-control.ensures.rest (ap (λ k. k.slots) c.push.ensures.rest) c.thread-2.result c.thread-2.ensures

pub answer-requires-clause-few : goal.answer-requires-clause-few
answer-requires-clause-few c =
    needs_few c.args.job.now c.args.self.now c.args.lease.now c.args.progress c.requires.may (record c.args.self.now { history = c.reserve.new.self }) c.begin-control.new.self (c.push.new.self) (reserved c.args.self.now c.reserve.new.self c.reserve.ensures.rest) c.begin-control.ensures.rest (ap (λ k. k.slots) c.push.ensures.rest) (ap (λ (k : Parts). k.tallies.faulted) c.push.ensures.rest)

pub answer-requires-clause-valid : goal.answer-requires-clause-valid
answer-requires-clause-valid c =
    needs_valid c.args.job.now c.args.self.now c.args.lease.now c.args.progress c.requires.may c.deref.result.now (c.deref.ensures ∙ c.program.ensures.value)

pub answer-requires-clause-fits : goal.answer-requires-clause-fits
answer-requires-clause-fits c =
    needs_fits c.args.job.now c.args.self.now c.args.lease.now c.args.progress c.requires.may c.deref.result.now c.begin-control.result (c.deref.ensures ∙ c.program.ensures.value) c.begin-control.ensures.end

pub answer-requires-clause-fit : goal.answer-requires-clause-fit
answer-requires-clause-fit c =
    needs_fit c.args.job.now c.args.self.now c.args.lease.now c.args.progress c.requires.may (record c.args.self.now { history = c.reserve.new.self }) c.begin-control.new.self (c.push.new.self) (reserved c.args.self.now c.reserve.new.self c.reserve.ensures.rest) c.begin-control.ensures.rest (ap (λ k. k.slots) c.push.ensures.rest) c.deref.result.now (c.deref.ensures ∙ c.program.ensures.value)

pub answer-requires-clause-act : goal.answer-requires-clause-act
answer-requires-clause-act c =
    needs_act c.args.job.now c.args.self.now c.args.lease.now c.args.progress c.requires.may own.Attempt c.requires.at c.begin-control.result c.begin-control.ensures.end

pub returns : goal.returns
returns c =
    let lasts = attempt_lasts c.args.job.now c.args.self.now c.args.lease.now c.args.progress c.requires.may (record c.args.self.now { history = c.reserve.new.self }) c.begin-control.new.self (reserved c.args.self.now c.reserve.new.self c.reserve.ensures.rest) c.begin-control.ensures.history c.begin-control.ensures.rest c.push.new.self c.answer.new.self c.thread.result c.thread.ensures c.push.ensures.rest c.deref.result.now c.thread-2.result c.begin-control.result (c.deref.ensures ∙ c.program.ensures.value) c.thread-2.ensures c.begin-control.ensures.end c.requires.at c.generation-n.result.0 c.generation-n.ensures (let low : IsGeneration c.generation-n.result.0 = generation_named c.args.job.now c.args.self.now c.args.lease.now c.args.progress c.requires.may c.generation-n.result.0 c.generation-n.ensures in omega (arith, low)) c.push.ensures.history c.int.result (let low : IsGeneration c.generation-n.result.0 = generation_named c.args.job.now c.args.self.now c.args.lease.now c.args.progress c.requires.may c.generation-n.result.0 c.generation-n.ensures in let small : c.generation-n.result.0 < 2 ^ 63 = omega (arith, low) in c.int.ensures ∙ ap int (to_z_pos w64 c.generation-n.result.0 small)) c.answer.ensures in
    record { done = lasts.0; back = search rules; err = search rules; kept = lasts.1 }

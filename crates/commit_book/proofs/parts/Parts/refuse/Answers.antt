use Rattle.std.proofs.Common.{rules, refl, ap}
use Rattle.commit_book.specs.declared.parts.Parts.{Parts}
use Rattle.commit_book.proofs.Acting.Acted.{in_ok, named_so, needs_few, needs_there, reserved}
use Rattle.commit_book.proofs.Acting.Lasted.{refuse_lasts}
use Rattle.commit_book.proofs.Keeping.SeenAfter.{kept_same}
use Rattle.commit_book.proofs.Acting.SingleActs.{few_at, may_begin}
use Rattle.commit_book.proofs.parts.Parts.refuse.Goals as goal

pub reserve-requires : goal.reserve-requires
reserve-requires c =
    few_at c.args.job.now c.args.self.now c.args.lease.now c.args.progress c.requires.may

pub returns-then-is_err-clause-back : goal.returns-then-is_err-clause-back
returns-then-is_err-clause-back c = refl

pub returns-then-is_err-clause-err : goal.returns-then-is_err-clause-err
returns-then-is_err-clause-err c =
    reserved c.args.self.now c.reserve.new.self c.reserve.ensures.rest

pub returns-then-is_err-clause-kept : goal.returns-then-is_err-clause-kept
returns-then-is_err-clause-kept c =
    kept_same c.args.job.now c.args.self.now (record c.args.self.now { history = c.reserve.new.self }) (reserved c.args.self.now c.reserve.new.self c.reserve.ensures.rest) c.requires.may.kept

pub begin-control-requires : goal.begin-control-requires
begin-control-requires c =
    may_begin c.args.job.now c.args.self.now c.args.lease.now c.args.progress c.requires.may (record c.args.self.now { history = c.reserve.new.self }) (reserved c.args.self.now c.reserve.new.self c.reserve.ensures.rest) (in_ok c.reserve.result c.is_err.result c.reserve.ensures.ok c.is_err.ensures.value c.if-is_err.false)

pub push-requires-clause-more : goal.push-requires-clause-more
push-requires-clause-more c = c.begin-control.ensures.more

pub push-requires-clause-label : goal.push-requires-clause-label
push-requires-clause-label c =
    named_so c.args.job.now c.args.self.now c.args.lease.now c.args.progress c.requires.may c.thread.result c.thread.ensures

pub go_on-requires-clause-there : goal.go_on-requires-clause-there
go_on-requires-clause-there c =
    needs_there c.args.job.now c.args.self.now c.args.lease.now c.args.progress c.requires.may (record c.args.self.now { history = c.reserve.new.self }) c.begin-control.new.self (c.push.new.self) (reserved c.args.self.now c.reserve.new.self c.reserve.ensures.rest) c.begin-control.ensures.rest (ap (λ k. k.slots) c.push.ensures.rest) c.thread-2.result c.thread-2.ensures

pub go_on-requires-clause-few : goal.go_on-requires-clause-few
go_on-requires-clause-few c =
    needs_few c.args.job.now c.args.self.now c.args.lease.now c.args.progress c.requires.may (record c.args.self.now { history = c.reserve.new.self }) c.begin-control.new.self (c.push.new.self) (reserved c.args.self.now c.reserve.new.self c.reserve.ensures.rest) c.begin-control.ensures.rest (ap (λ k. k.slots) c.push.ensures.rest) (ap (λ (k : Parts). k.tallies.faulted) c.push.ensures.rest)

pub returns : goal.returns
returns c =
    let lasts = refuse_lasts c.args.job.now c.args.self.now c.args.lease.now c.args.progress c.requires.may (record c.args.self.now { history = c.reserve.new.self }) c.begin-control.new.self (reserved c.args.self.now c.reserve.new.self c.reserve.ensures.rest) c.begin-control.ensures.history c.begin-control.ensures.rest c.push.new.self c.go_on.new.self c.thread.result c.thread.ensures c.push.ensures.rest c.thread-2.result c.thread-2.ensures c.go_on.result c.fail.new.self (c.fail.ensures.fits c.args.job.now.program) c.requires.at c.requires.held c.push.ensures.history (c.fail.ensures.expr c.args.job.now.program) c.go_on.ensures.before c.go_on.ensures.gone in
    record { done = lasts.0; back = search rules; err = search rules; kept = lasts.1 }

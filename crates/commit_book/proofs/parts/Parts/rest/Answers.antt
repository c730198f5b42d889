use Rattle.std.proofs.Common.{rules, refl}
use Rattle.language.specs.Plain.{look_in}
use Rattle.step_eval.specs.ControlView.{expr_of}
use Rattle.commit_book.proofs.Acting.Acted.{in_ok, needs_few, needs_there, reserved}
use Rattle.commit_book.proofs.Acting.RestActs.{rest_lasts, unoffering}
use Rattle.commit_book.proofs.Keeping.SeenAfter.{kept_same}
use Rattle.commit_book.proofs.Acting.SingleActs.{few_at, may_begin}
use Rattle.commit_book.proofs.parts.Parts.rest.Goals as goal

pub reserve-requires : goal.reserve-requires
reserve-requires c =
    few_at c.args.job.now c.args.self.now c.args.lease.now c.args.progress c.requires.may

pub returns-then-is_err-clause-back : goal.returns-then-is_err-clause-back
returns-then-is_err-clause-back c = refl

pub returns-then-is_err-clause-err : goal.returns-then-is_err-clause-err
returns-then-is_err-clause-err c =
    reserved c.args.self.now c.reserve.new.self c.reserve.ensures.rest

pub returns-then-is_err-clause-kept : goal.returns-then-is_err-clause-kept
returns-then-is_err-clause-kept c =
    kept_same c.args.job.now c.args.self.now (record c.args.self.now { history = c.reserve.new.self }) (reserved c.args.self.now c.reserve.new.self c.reserve.ensures.rest) c.requires.may.kept

pub begin-control-requires : goal.begin-control-requires
begin-control-requires c =
    may_begin c.args.job.now c.args.self.now c.args.lease.now c.args.progress c.requires.may (record c.args.self.now { history = c.reserve.new.self }) (reserved c.args.self.now c.reserve.new.self c.reserve.ensures.rest) (in_ok c.reserve.result c.is_err.result c.reserve.ensures.ok c.is_err.ensures.value c.if-is_err.false)

pub go_on-requires-clause-there : goal.go_on-requires-clause-there
go_on-requires-clause-there c =
    needs_there c.args.job.now c.args.self.now c.args.lease.now c.args.progress c.requires.may (record c.args.self.now { history = c.reserve.new.self }) c.begin-control.new.self c.begin-control.new.self (reserved c.args.self.now c.reserve.new.self c.reserve.ensures.rest) c.begin-control.ensures.rest refl c.thread.result c.thread.ensures

pub go_on-requires-clause-few : goal.go_on-requires-clause-few
go_on-requires-clause-few c =
    needs_few c.args.job.now c.args.self.now c.args.lease.now c.args.progress c.requires.may (record c.args.self.now { history = c.reserve.new.self }) c.begin-control.new.self c.begin-control.new.self (reserved c.args.self.now c.reserve.new.self c.reserve.ensures.rest) c.begin-control.ensures.rest refl refl

pub returns : goal.returns
returns c =
    let lasts = rest_lasts c.args.job.now c.args.self.now c.args.lease.now c.args.progress c.requires.may (unoffering (look_in c.args.job.now.program (expr_of c.args.job.now.program c.args.progress.end)) c.requires.at) (record c.args.self.now { history = c.reserve.new.self }) c.begin-control.new.self (reserved c.args.self.now c.reserve.new.self c.reserve.ensures.rest) c.begin-control.ensures.history c.begin-control.ensures.rest c.go_on.new.self c.thread.result c.go_on.result c.begin-control.result c.thread.ensures c.begin-control.ensures.end c.go_on.ensures.before c.go_on.ensures.gone in
    record { done = lasts.0; back = search rules; err = search rules; kept = lasts.1 }

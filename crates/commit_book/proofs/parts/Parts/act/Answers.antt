use Rattle.std.proofs.Common.{sym, subst}
use Rattle.std.specs.Prelude.{OnOk}
use Rattle.step_eval.specs.declared.act.Act.{Act}
use Rattle.commit_book.specs.Acting.{IsDone, StandsAt, row_by}
use Rattle.commit_book.specs.Layout.{view_of}
use Rattle.commit_book.proofs.parts.Parts.act.Goals as goal

pub spawn-requires-clause-at : goal.spawn-requires-clause-at
spawn-requires-clause-at c = subst (StandsAt c.args.job.now.program c.args.progress.end) c.in-Spawn.is c.requires.at

pub returns-in-Spawn-clause-done : goal.returns-in-Spawn-clause-done
returns-in-Spawn-clause-done c =
    subst (λ (a : Act). OnOk c.spawn.result (IsDone c.args.job.now c.args.self.now c.spawn.new.self c.args.lease.now c.args.progress (row_by (view_of c.args.job.now c.args.self.now) c.args.lease.now.thread a))) (sym c.in-Spawn.is) c.spawn.ensures.done

pub new_chan-requires-clause-at : goal.new_chan-requires-clause-at
new_chan-requires-clause-at c = subst (StandsAt c.args.job.now.program c.args.progress.end) c.in-NewChan.is c.requires.at

pub returns-in-NewChan-clause-done : goal.returns-in-NewChan-clause-done
returns-in-NewChan-clause-done c =
    subst (λ (a : Act). OnOk c.new_chan.result (IsDone c.args.job.now c.args.self.now c.new_chan.new.self c.args.lease.now c.args.progress (row_by (view_of c.args.job.now c.args.self.now) c.args.lease.now.thread a))) (sym c.in-NewChan.is) c.new_chan.ensures.done

pub new_ref-requires-clause-at : goal.new_ref-requires-clause-at
new_ref-requires-clause-at c = subst (StandsAt c.args.job.now.program c.args.progress.end) c.in-NewRef.is c.requires.at

pub returns-in-NewRef-clause-done : goal.returns-in-NewRef-clause-done
returns-in-NewRef-clause-done c =
    subst (λ (a : Act). OnOk c.new_ref.result (IsDone c.args.job.now c.args.self.now c.new_ref.new.self c.args.lease.now c.args.progress (row_by (view_of c.args.job.now c.args.self.now) c.args.lease.now.thread a))) (sym c.in-NewRef.is) c.new_ref.ensures.done

pub get-requires-clause-at : goal.get-requires-clause-at
get-requires-clause-at c = subst (StandsAt c.args.job.now.program c.args.progress.end) c.in-Get.is c.requires.at

pub returns-in-Get-clause-done : goal.returns-in-Get-clause-done
returns-in-Get-clause-done c =
    subst (λ (a : Act). OnOk c.get.result (IsDone c.args.job.now c.args.self.now c.get.new.self c.args.lease.now c.args.progress (row_by (view_of c.args.job.now c.args.self.now) c.args.lease.now.thread a))) (sym c.in-Get.is) c.get.ensures.done

pub set-requires-clause-at : goal.set-requires-clause-at
set-requires-clause-at c = subst (StandsAt c.args.job.now.program c.args.progress.end) c.in-Set.is c.requires.at

pub returns-in-Set-clause-done : goal.returns-in-Set-clause-done
returns-in-Set-clause-done c =
    subst (λ (a : Act). OnOk c.set.result (IsDone c.args.job.now c.args.self.now c.set.new.self c.args.lease.now c.args.progress (row_by (view_of c.args.job.now c.args.self.now) c.args.lease.now.thread a))) (sym c.in-Set.is) c.set.ensures.done

pub enter-requires-clause-at : goal.enter-requires-clause-at
enter-requires-clause-at c = (c.in-Enter.field-0, subst (StandsAt c.args.job.now.program c.args.progress.end) c.in-Enter.is c.requires.at)

pub returns-in-Enter-clause-done : goal.returns-in-Enter-clause-done
returns-in-Enter-clause-done c =
    subst (λ (a : Act). OnOk c.enter.result (IsDone c.args.job.now c.args.self.now c.enter.new.self c.args.lease.now c.args.progress (row_by (view_of c.args.job.now c.args.self.now) c.args.lease.now.thread a))) (sym c.in-Enter.is) c.enter.ensures.done

pub pin-requires-clause-at : goal.pin-requires-clause-at
pin-requires-clause-at c = subst (StandsAt c.args.job.now.program c.args.progress.end) c.in-Pin.is c.requires.at

pub returns-in-Pin-clause-done : goal.returns-in-Pin-clause-done
returns-in-Pin-clause-done c =
    subst (λ (a : Act). OnOk c.pin.result (IsDone c.args.job.now c.args.self.now c.pin.new.self c.args.lease.now c.args.progress (row_by (view_of c.args.job.now c.args.self.now) c.args.lease.now.thread a))) (sym c.in-Pin.is) c.pin.ensures.done

pub cut-requires-clause-at : goal.cut-requires-clause-at
cut-requires-clause-at c = subst (StandsAt c.args.job.now.program c.args.progress.end) c.in-Cut.is c.requires.at

pub returns-in-Cut-clause-done : goal.returns-in-Cut-clause-done
returns-in-Cut-clause-done c =
    subst (λ (a : Act). OnOk c.cut.result (IsDone c.args.job.now c.args.self.now c.cut.new.self c.args.lease.now c.args.progress (row_by (view_of c.args.job.now c.args.self.now) c.args.lease.now.thread a))) (sym c.in-Cut.is) c.cut.ensures.done

pub print-requires-clause-at : goal.print-requires-clause-at
print-requires-clause-at c = subst (StandsAt c.args.job.now.program c.args.progress.end) c.in-Print.is c.requires.at

pub returns-in-Print-clause-done : goal.returns-in-Print-clause-done
returns-in-Print-clause-done c =
    subst (λ (a : Act). OnOk c.print.result (IsDone c.args.job.now c.args.self.now c.print.new.self c.args.lease.now c.args.progress (row_by (view_of c.args.job.now c.args.self.now) c.args.lease.now.thread a))) (sym c.in-Print.is) c.print.ensures.done

pub probe-requires-clause-at : goal.probe-requires-clause-at
probe-requires-clause-at c = subst (StandsAt c.args.job.now.program c.args.progress.end) c.in-Probe.is c.requires.at

pub returns-in-Probe-clause-done : goal.returns-in-Probe-clause-done
returns-in-Probe-clause-done c =
    subst (λ (a : Act). OnOk c.probe.result (IsDone c.args.job.now c.args.self.now c.probe.new.self c.args.lease.now c.args.progress (row_by (view_of c.args.job.now c.args.self.now) c.args.lease.now.thread a))) (sym c.in-Probe.is) c.probe.ensures.done

pub attempt-requires-clause-at : goal.attempt-requires-clause-at
attempt-requires-clause-at c = subst (StandsAt c.args.job.now.program c.args.progress.end) c.in-Attempt.is c.requires.at

pub returns-in-Attempt-clause-done : goal.returns-in-Attempt-clause-done
returns-in-Attempt-clause-done c =
    subst (λ (a : Act). OnOk c.attempt.result (IsDone c.args.job.now c.args.self.now c.attempt.new.self c.args.lease.now c.args.progress (row_by (view_of c.args.job.now c.args.self.now) c.args.lease.now.thread a))) (sym c.in-Attempt.is) c.attempt.ensures.done

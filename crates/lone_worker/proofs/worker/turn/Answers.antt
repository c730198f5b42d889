use Rattle.std.proofs.Common.{◌≡◌, ◌<◌, ◌≤◌, sym, subst, arith}
use Rattle.thread_slots.specs.declared.state.State.TheVariants.{Ready}
use Rattle.commit_book.specs.declared.turn.Turn.TheVariants.{Work}
use Rattle.commit_book.specs.Book.{BookView}
use Rattle.commit_book.specs.Counts.{in_state}
use Rattle.commit_book.specs.Turns.{CanRest, IsTurn, RestsIfQuiet}
use Rattle.commit_book.proofs.Threads.Chosen.{quiet_unready, release_due, spent_says}
use Rattle.lone_worker.specs.declared.worker.RunEnd.TheVariants as ends
use Rattle.lone_worker.specs.Running.{EndSays, IsEndOf, IsStopped}
use Rattle.lone_worker.specs.Turn.{IsTurnOf, IsWorked, left_to_do, worker}
use Rattle.lone_worker.proofs.Ending.{later_both, same_later}
use Rattle.lone_worker.proofs.Lent.{lent_alone, lent_history, lent_job, lent_nearer}
use Rattle.lone_worker.proofs.Turning.{by_none, by_some, stopped}
use Rattle.lone_worker.proofs.worker.turn.Goals as goal

pub work-requires : goal.work-requires
work-requires c =
    lent_alone c.args.book.now c.lease.new.self c.in-Ok-Work.lease c.in-Ok-Work.control c.job-before.ensures.shown c.requires
    (subst (IsTurn c.args.book.now c.lease.new.self worker) c.in-Ok-Work.field-0-is c.in-Ok-Work.ensures.turn)

turn_of : (c : goal.After-work) → IsTurn c.args.book.now c.lease.new.self worker (Work c.in-Ok-Work.lease c.in-Ok-Work.control)
turn_of c = subst (IsTurn c.args.book.now c.lease.new.self worker) c.in-Ok-Work.field-0-is c.in-Ok-Work.ensures.turn

pub returns-in-Ok-Work-clause-later : goal.returns-in-Ok-Work-clause-later
returns-in-Ok-Work-clause-later c =
    let old = c.args.book.now in
    let lent = c.lease.new.self in
    let lease = c.in-Ok-Work.lease in
    let control = c.in-Ok-Work.control in
    later_both old lent c.work.new.book
    (same_later old lent (lent_job old lent lease control c.job-before.ensures.shown c.requires (turn_of c)) (lent_history old lent lease control c.job-before.ensures.shown c.requires (turn_of c)))
    c.work.ensures.later

pub returns-in-Ok-Work-clause-turned : goal.returns-in-Ok-Work-clause-turned
returns-in-Ok-Work-clause-turned c =
    by_none c.work.result (IsWorked c.lease.new.self c.work.new.book c.in-Ok-Work.lease c.in-Ok-Work.control) (IsTurnOf c.args.book.now c.work.new.book)
    (λ works. record { lent = c.lease.new.self; lease = c.in-Ok-Work.lease; control = c.in-Ok-Work.control; leases = turn_of c; works = works })
    c.work.ensures.worked

pub returns-in-Ok-Work-clause-nearer : goal.returns-in-Ok-Work-clause-nearer
returns-in-Ok-Work-clause-nearer c =
    let first = lent_nearer c.args.book.now c.lease.new.self c.in-Ok-Work.lease c.in-Ok-Work.control c.job-before.ensures.shown c.requires (turn_of c) in
    by_none c.work.result (left_to_do c.work.new.book ≤ left_to_do c.lease.new.self) (left_to_do c.work.new.book < left_to_do c.args.book.now) (λ more. omega (arith, first, more)) c.work.ensures.nearer

pub returns-in-Ok-Work-clause-ended : goal.returns-in-Ok-Work-clause-ended
returns-in-Ok-Work-clause-ended c =
    let same = lent_history c.args.book.now c.lease.new.self c.in-Ok-Work.lease c.in-Ok-Work.control c.job-before.ensures.shown c.requires (turn_of c) in
    by_some c.work.result (λ end. IsStopped end c.lease.new.self c.work.new.book) (λ end. IsEndOf end c.args.book.now c.work.new.book)
    (λ end is. stopped end c.args.book.now c.lease.new.self c.work.new.book same is) c.work.ensures.stopped

pub returns-in-Ok-Quiet-clause-says : goal.returns-in-Ok-Quiet-clause-says
returns-in-Ok-Quiet-clause-says c =
    let turn = subst (IsTurn c.args.book.now c.lease.new.self worker) c.in-Ok-Quiet.field-0-is c.in-Ok-Quiet.ensures.turn in
    subst (λ (b : BookView). CanRest b × (in_state Ready b ≡ 0)) (sym turn.1)
    (subst (RestsIfQuiet c.args.book.now) c.in-Ok-Quiet.field-0-is c.in-Ok-Quiet.ensures.rests, quiet_unready c.args.book.now c.job-before.ensures.shown turn.0)

pub returns-in-Ok-Spent-clause-says : goal.returns-in-Ok-Spent-clause-says
returns-in-Ok-Spent-clause-says c =
    let turn = subst (IsTurn c.args.book.now c.lease.new.self worker) c.in-Ok-Spent.field-0-is c.in-Ok-Spent.ensures.turn in
    subst (EndSays ends.Spent) (sym turn.1) (spent_says c.args.book.now c.job-before.ensures.shown c.requires turn.0)

pub returns-in-Ok-Release-clause-says : goal.returns-in-Ok-Release-clause-says
returns-in-Ok-Release-clause-says c =
    let turn = subst (IsTurn c.args.book.now c.lease.new.self worker) c.in-Ok-Release.field-0-is c.in-Ok-Release.ensures.turn in
    subst (EndSays ends.Due) (sym turn.1) (release_due c.args.book.now turn.0)

use Rattle.std.proofs.Common.{arith, ◌≤◌, ap, subst, ◌∙◌}
use Rattle.stab_code.specs.JobParts.{JobParts}
use Rattle.stab_code.specs.Valid.{IsValid}
use Rattle.commit_book.specs.Book.{BookView}
use Rattle.commit_book.specs.Turns.{given_back}
use Rattle.lone_worker.specs.Turn.{is_made}
use Rattle.lone_worker.proofs.Ending.{current, is_undone, not_over}
use Rattle.lone_worker.proofs.Turning.{IsGivenBack, IsGoodCommit, committed, committed_undo, gave_back}
use Rattle.lone_worker.proofs.worker.commit.Goals as goal
use Rattle.lone_worker.proofs.worker.commit.Goals.{After-give_back}

pub commit_current-requires-clause-current : goal.commit_current-requires-clause-current
commit_current-requires-clause-current c = current c.args.book.now c.args.lease c.args.progress.origin c.requires.lent

pub commit_current-requires-clause-going : goal.commit_current-requires-clause-going
commit_current-requires-clause-going c = not_over c.args.book.now c.args.lease c.args.progress.origin c.requires.lent

taken : (c : goal.Joined-commit_current-3) → IsGoodCommit c.args.book.now c.commit_current.new.self c.args.lease c.args.progress c.requires.lent
taken c =
    committed c.args.book.now c.commit_current.new.self c.args.lease c.args.progress c.requires.lent
    c.job.ensures.shown c.commit_current.ensures.shown c.requires.advanced c.in-Ok-Taken.field-0 (ap is_made c.in-Ok-Taken.field-0-is) c.in-Ok-Taken.ensures.done
    (subst IsValid (c.deref.ensures ∙ c.program.ensures.value ∙ ap (λ (j : JobParts). j.program) c.job-2.ensures.job) c.texts-texts.ensures.valid)
    (subst (λ (j : JobParts). 1 ≤ j.quantum) c.job.ensures.job c.quantum-quantum.ensures.limits.some_quantum)
    (ap is_undone c.in-Ok-Taken.field-0-is)

pub returns-in-Ok-Taken-clause-later : goal.returns-in-Ok-Taken-clause-later
returns-in-Ok-Taken-clause-later c = (taken c).later

pub returns-in-Ok-Taken-clause-free : goal.returns-in-Ok-Taken-clause-free
returns-in-Ok-Taken-clause-free c = (taken c).free

pub returns-in-Ok-Taken-clause-worked : goal.returns-in-Ok-Taken-clause-worked
returns-in-Ok-Taken-clause-worked c = (taken c).worked

pub returns-in-Ok-Taken-clause-nearer : goal.returns-in-Ok-Taken-clause-nearer
returns-in-Ok-Taken-clause-nearer c = (taken c).nearer

parked : (c : goal.Joined-this) → IsGoodCommit c.args.book.now c.commit_current.new.self c.args.lease c.args.progress c.requires.lent
parked c =
    committed c.args.book.now c.commit_current.new.self c.args.lease c.args.progress c.requires.lent
    c.job.ensures.shown c.commit_current.ensures.shown c.requires.advanced c.in-Ok-Parked.field-0 (ap is_made c.in-Ok-Parked.field-0-is) c.in-Ok-Parked.ensures.done
    (subst IsValid (c.deref.ensures ∙ c.program.ensures.value ∙ ap (λ (j : JobParts). j.program) c.job-2.ensures.job) c.texts-texts.ensures.valid)
    (subst (λ (j : JobParts). 1 ≤ j.quantum) c.job.ensures.job c.quantum-quantum.ensures.limits.some_quantum)
    (ap is_undone c.in-Ok-Parked.field-0-is)

pub returns-in-Ok-Parked-clause-later : goal.returns-in-Ok-Parked-clause-later
returns-in-Ok-Parked-clause-later c = (parked c).later

pub returns-in-Ok-Parked-clause-free : goal.returns-in-Ok-Parked-clause-free
returns-in-Ok-Parked-clause-free c = (parked c).free

pub returns-in-Ok-Parked-clause-worked : goal.returns-in-Ok-Parked-clause-worked
returns-in-Ok-Parked-clause-worked c = (parked c).worked

pub returns-in-Ok-Parked-clause-nearer : goal.returns-in-Ok-Parked-clause-nearer
returns-in-Ok-Parked-clause-nearer c = (parked c).nearer

undone : (c : goal.Joined-this-3) → IsGoodCommit c.args.book.now c.commit_current.new.self c.args.lease c.args.progress c.requires.lent
undone c =
    committed_undo c.args.book.now c.commit_current.new.self c.args.lease c.args.progress c.requires.lent
    c.job.ensures.shown c.commit_current.ensures.shown c.requires.advanced c.in-Ok-Undone.field-0 (ap is_made c.in-Ok-Undone.field-0-is) c.in-Ok-Undone.ensures.done
    (subst IsValid (c.deref.ensures ∙ c.program.ensures.value ∙ ap (λ (j : JobParts). j.program) c.job-2.ensures.job) c.texts-texts.ensures.valid)
    (subst (λ (j : JobParts). 1 ≤ j.quantum) c.job.ensures.job c.quantum-quantum.ensures.limits.some_quantum)
    c.last_thread-last.result.0 c.last_thread-last.ensures.last (omega arith)

pub returns-in-Ok-Undone-clause-later : goal.returns-in-Ok-Undone-clause-later
returns-in-Ok-Undone-clause-later c = (undone c).later

pub returns-in-Ok-Undone-clause-free : goal.returns-in-Ok-Undone-clause-free
returns-in-Ok-Undone-clause-free c = (undone c).free

pub returns-in-Ok-Undone-clause-worked : goal.returns-in-Ok-Undone-clause-worked
returns-in-Ok-Undone-clause-worked c = (undone c).worked

pub returns-in-Ok-Undone-clause-nearer : goal.returns-in-Ok-Undone-clause-nearer
returns-in-Ok-Undone-clause-nearer c = (undone c).nearer

back : (c : After-give_back) → IsGivenBack c.args.book.now c.give_back.new.self
back c =
    gave_back c.args.book.now c.give_back.new.self c.args.lease c.args.progress.origin c.requires.lent
    (c.give_back.ensures.given ∙ ap (λ (b : BookView). given_back b c.in-Err.field-0.lease) c.in-Err.ensures.err ∙ ap (given_back c.args.book.now) c.in-Err.ensures.back.0)

pub returns-clause-later : goal.returns-clause-later
returns-clause-later c = (back c).later

pub returns-clause-free : goal.returns-clause-free
returns-clause-free c = (back c).free

pub returns-clause-stopped : goal.returns-clause-stopped
returns-clause-stopped c = (back c).history

use Rattle.std.proofs.Common.{◌≡◌, subst, IfErr, IfOk, OnErr}
use Rattle.commit_book.specs.Commits.{IsCommitted, IsCurrent, IsOver}
use Rattle.live_desk.proofs.Answering.{made}
use Rattle.live_desk.proofs.Living.{never}
use Rattle.live_desk.proofs.asking.commit.Goals as goal

pub returns : goal.returns
returns c =
    let e = c.commit.ensures in
    let old = c.args.book.now in
    let new = c.commit.new.self in
    let progress = c.args.progress in
    let mine = c.for_worker.ensures in
    made old new c.args.waiting.now.items c.requires.live c.args.worker c.args.lease progress c.requires.program
    (never _ c.if-is_short.false c.is_short.ensures.1) e.shown c.commit.result
    (subst (λ l. IfOk c.commit.result (IsCommitted old new l progress)) mine e.done)
    (subst (λ l. IfErr c.commit.result (λ refused. (refused.lease ≡ l) × (refused.progress ≡ progress))) mine e.back)
    e.err
    (subst (λ l. OnErr c.commit.result (IsCurrent old.threads l progress.origin × (¬ IsOver old))) mine e.memory)

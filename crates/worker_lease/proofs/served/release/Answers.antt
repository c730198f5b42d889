use Rattle.std.proofs.Common.{refl, sym, ◌∙◌}
use Rattle.worker_lease.proofs.Releasing.{no_memory, none_due, released_now, some_due}
use Rattle.worker_lease.proofs.served.release.Goals as goal

pub returns-then-due-eq0 : goal.returns-then-due-eq0
returns-then-due-eq0 c =
    let old = c.args.book.now in
    none_due old old c.args.worker c.args.text c.args.text c.requires.worker c.requires.empty c.due.ensures.shown c.due.ensures.shown c.requires.by_one
    (sym c.due.ensures.due ∙ c.if-due-eq0.true) refl refl

pub returns-in-Ok : goal.returns-in-Ok
returns-in-Ok c =
    let e = c.in-Ok.ensures in
    released_now c.args.book.now c.release.new.self c.args.worker c.args.text c.release.new.out c.requires.worker c.requires.empty c.due.ensures.shown e.shown c.requires.by_one
    c.in-Ok.number (some_due c.due.result _ c.due.ensures.due c.if-due-eq0.false) e.number e.released e.lines

pub returns-in-Err : goal.returns-in-Err
returns-in-Err c =
    let e = c.in-Err.ensures in
    no_memory c.args.book.now c.release.new.self c.args.worker c.args.text c.release.new.out c.requires.worker c.requires.empty c.due.ensures.shown e.shown c.requires.by_one
    _ (some_due c.due.result _ c.due.ensures.due c.if-due-eq0.false) e.err.0 e.err.1

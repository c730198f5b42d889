use Rattle.std.proofs.Common.{List, Err, sym, ap, subst, ◌∙◌}
use Rattle.commit_book.specs.declared.done.CommitRefused.{CommitRefused}
use Rattle.worker_lease.specs.declared.ask.DeskAsk.TheVariants as ask
use Rattle.worker_lease.specs.declared.ask.DeskAnswer.TheVariants as answer
use Rattle.worker_lease.specs.Asks.{under}
use Rattle.live_desk.specs.declared.waiting.Waiting.{Waiting}
use Rattle.live_desk.specs.Live.{live_of}
use Rattle.live_desk.specs.Serving.{IsLiveServing}
use Rattle.live_desk.proofs.Answering.{kept, refused}
use Rattle.live_desk.proofs.asking.keep.Goals as goal

pub returns-in-Ok : goal.returns-in-Ok
returns-in-Ok c =
    let b = c.args.book.now in
    let ws = c.args.waiting.now.items in
    let made = kept b ws c.requires.live c.job-shown.ensures.shown c.args.worker c.args.lease c.args.progress c.requires.program c.requires.short in
    subst (λ (after : List Waiting). IsLiveServing c.args.worker (ask.Commit c.args.lease c.args.progress) answer.Kept (live_of b ws) (live_of b after)) (sym c.in-Ok.ensures.items) made

pub returns-in-Err : goal.returns-in-Err
returns-in-Err c =
    let b = c.args.book.now in
    let ws = c.args.waiting.now.items in
    let no : CommitRefused = record { lease = c.for_worker.result; progress = c.in-Err.field-0.value.progress } in
    let same = c.in-Err.ensures.value_returned in
    let lease = c.for_worker.ensures ∙ ap (λ (w : Waiting). under c.args.worker w.lease) same in
    let progress = ap (λ (w : Waiting). w.progress) same in
    let made = refused b ws c.requires.live c.job-shown.ensures.shown c.args.worker c.args.lease c.args.progress c.requires.program c.requires.short no lease progress in
    subst (λ (after : List Waiting). IsLiveServing c.args.worker (ask.Commit c.args.lease c.args.progress) (answer.Done (Err no)) (live_of b ws) (live_of b after)) (sym c.in-Err.ensures.items) made

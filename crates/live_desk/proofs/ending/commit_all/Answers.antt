use Rattle.live_desk.specs.Live.{LiveView, live_of}
use Rattle.live_desk.proofs.Committing.{passed_more}
use Rattle.live_desk.proofs.ending.commit_all.Goals as goal

pub loop-book-preserved : goal.loop-book-preserved
loop-book-preserved c =
    let old : LiveView = live_of c.args.book.now c.args.waiting.now.items in
    let mid : LiveView = live_of c.loop-book.book c.loop-book.waiting.items in
    let new : LiveView = live_of c.commit_first.new.book c.commit_first.new.waiting.items in
    passed_more old mid new c.loop-book.invariant c.commit_first.ensures.shown c.in_ok-commit_first.ensures.ok

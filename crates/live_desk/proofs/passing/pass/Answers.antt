use Rattle.std.proofs.Common.{◌<◌, inr, length, arith}
use Rattle.stab_journal.specs.Script.{probed}
use Rattle.live_desk.specs.Live.{LiveView, live_of}
use Rattle.live_desk.proofs.Committing.{passed_more, passed_none, passed_within}
use Rattle.live_desk.proofs.passing.pass.Goals as goal

pub loop-waiting-init : goal.loop-waiting-init
loop-waiting-init c = (passed_none (live_of c.args.book.now c.args.waiting.now.items) c.requires.by_one c.requires.asks, c.requires.within)

pub loop-waiting-preserved : goal.loop-waiting-preserved
loop-waiting-preserved c =
    let old : LiveView = live_of c.args.book.now c.args.waiting.now.items in
    let mid : LiveView = live_of c.loop-waiting.book c.loop-waiting.waiting.items in
    let new : LiveView = live_of c.commit_first.new.book c.commit_first.new.waiting.items in
    let so = c.loop-waiting.invariant in
    let made = c.in_ok-commit_first.ensures.ok in
    let some : length (probed c.loop-waiting.book.history.events) < length c.loop-waiting.book.job.script = omega (arith, c.unused.ensures.unused, c.loop-waiting-test.true) in
    (passed_more old mid new so.0 c.commit_first.ensures.shown made, passed_within mid new so.0.asks made some so.1)

pub returns-clause-all : goal.returns-clause-all
returns-clause-all c = inr (omega (arith, c.unused.ensures.unused, c.loop-waiting-test.false))

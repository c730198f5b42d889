-- Each answer of a live desk is to its ask.
use Rattle.std.specs.Prelude.{ℕ}
use Rattle.worker_lease.specs.declared.ask.DeskAsk.{DeskAsk}
use Rattle.worker_lease.specs.declared.ask.DeskAsk.TheVariants as ask
use Rattle.worker_lease.specs.declared.ask.DeskAnswer.{DeskAnswer}
use Rattle.worker_lease.specs.declared.ask.DeskAnswer.TheVariants as answer
use Rattle.worker_lease.specs.Asks.{IsReplyTo}
use Rattle.live_desk.specs.Live.{LiveView}
use Rattle.live_desk.specs.Serving.{IsLiveServed}

pub replied : (old : LiveView) (worker : ℕ) (a : DeskAsk) (b : DeskAnswer) (new : LiveView) → IsLiveServed old worker a b new → IsReplyTo (Unit {0}) a b
replied old worker ask.Lease (answer.Turn turn) new is = tt
replied old worker ask.Lease (answer.Done done) new is = is.0
replied old worker ask.Lease answer.Given new is = is.0
replied old worker ask.Lease (answer.Released lines number) new is = is.0
replied old worker ask.Lease answer.Dry new is = tt
replied old worker ask.Lease answer.Rung new is = tt
replied old worker ask.Lease answer.Kept new is = is.0
replied old worker (ask.Commit lease progress) (answer.Turn turn) new is = is.0
replied old worker (ask.Commit lease progress) (answer.Done done) new is = tt
replied old worker (ask.Commit lease progress) answer.Given new is = is.0
replied old worker (ask.Commit lease progress) (answer.Released lines number) new is = is.0
replied old worker (ask.Commit lease progress) answer.Dry new is = is.0
replied old worker (ask.Commit lease progress) answer.Rung new is = is.0
replied old worker (ask.Commit lease progress) answer.Kept new is = tt
replied old worker (ask.GiveBack lease) (answer.Turn turn) new is = is.0
replied old worker (ask.GiveBack lease) (answer.Done done) new is = is.0
replied old worker (ask.GiveBack lease) answer.Given new is = tt
replied old worker (ask.GiveBack lease) (answer.Released lines number) new is = is.0
replied old worker (ask.GiveBack lease) answer.Dry new is = is.0
replied old worker (ask.GiveBack lease) answer.Rung new is = is.0
replied old worker (ask.GiveBack lease) answer.Kept new is = is.0
replied old worker (ask.Release text) (answer.Turn turn) new is = is.0
replied old worker (ask.Release text) (answer.Done done) new is = is.0
replied old worker (ask.Release text) answer.Given new is = is.0
replied old worker (ask.Release text) (answer.Released lines number) new is = tt
replied old worker (ask.Release text) answer.Dry new is = is.0
replied old worker (ask.Release text) answer.Rung new is = is.0
replied old worker (ask.Release text) answer.Kept new is = is.0

use Rattle.std.proofs.Common.{◌++◌, ◌∙◌, ap}
use Rattle.commit_book.specs.Releases.{due_lines}
use Rattle.sink_lines.specs.Device.{device}
use Rattle.live_rounds.proofs.Released.{put_says}
use Rattle.live_rounds.proofs.releasing.put_due_live.Goals as goal

pub returns-in-Ok-clause-put : goal.returns-in-Ok-clause-put
returns-in-Ok-clause-put g c =
    let e = c.in-Ok.ensures in
    put_says c.args.live.now.book c.release.new.self.book e.released c.book.ensures.shown c.deref.result.now
    (c.deref.ensures.value ∙ e.lines ∙ ap (λ l. l ++ due_lines c.args.live.now.book) c.new-text.ensures.items)
    (device g.K.Sink.told g.K.Sink.faults c.args.sink.now) (device g.K.Sink.told g.K.Sink.faults c.put.new.sink)
    c.put.result c.put.ensures

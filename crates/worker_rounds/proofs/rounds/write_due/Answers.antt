use Rattle.std.proofs.Common.{◌∙◌, Ok, inr, ap, subst}
use Rattle.sink_lines.specs.Device.{Gains, GainsPrefix, device}
use Rattle.worker_lease.specs.Working.{ReleaseSays}
use Rattle.worker_lease.proofs.Released.{text_grows, text_stays}
use Rattle.worker_rounds.proofs.Written.{wrote_nothing}
use Rattle.worker_rounds.proofs.rounds.write_due.Goals as goal

pub returns-in-Ok-put_lines-clause-says : goal.returns-in-Ok-put_lines-clause-says
returns-in-Ok-put_lines-clause-says g c =
    let job = c.args.floor.now.start.job in
    let old = c.args.pass.now in
    let new = c.release-text.new.pass in
    let e = c.release-text.ensures in
    let text = c.release-text.result.0.items in
    let says = subst (ReleaseSays job old new text) (c.in-Ok.is ∙ ap Ok c.in-Some.is) e.says in
    record {
      text = text;
      gains = subst (Gains (device g.K.Sink.told g.K.Sink.faults c.args.sink.now) (device g.K.Sink.told g.K.Sink.faults c.put_lines.new.sink)) c.deref.ensures.value
          (c.in-Ok-put_lines.ensures.appended, c.in-Ok-put_lines.ensures.quiet);
      released = text_grows job old.seen new.seen (inr c.requires.history) e.history e.grows c.in-Some._number.0 text says.0 says.1;
    }

pub returns-in-Some-clause-says : goal.returns-in-Some-clause-says
returns-in-Some-clause-says g c =
    let job = c.args.floor.now.start.job in
    let old = c.args.pass.now in
    let new = c.release-text.new.pass in
    let e = c.release-text.ensures in
    let text = c.release-text.result.0.items in
    let says = subst (ReleaseSays job old new text) (c.in-Ok.is ∙ ap Ok c.in-Some.is) e.says in
    record {
      text = text;
      number = c.in-Some._number.0;
      grows = e.grows;
      release = says.0;
      same = says.1;
      all = text_grows job old.seen new.seen (inr c.requires.history) e.history e.grows c.in-Some._number.0 text says.0 says.1;
      cut = subst (GainsPrefix (device g.K.Sink.told g.K.Sink.faults c.args.sink.now) (device g.K.Sink.told g.K.Sink.faults c.put_lines.new.sink)) c.deref.ensures.value
          (c.in-Err-Failed.ensures.prefix, c.in-Err-Failed.ensures.rose);
    }

pub returns-in-Ok-clause-says : goal.returns-in-Ok-clause-says
returns-in-Ok-clause-says g c =
    let job = c.args.floor.now.start.job in
    let old = c.args.pass.now in
    let new = c.release-text.new.pass in
    let e = c.release-text.ensures in
    let says = subst (ReleaseSays job old new c.release-text.result.0.items) (c.in-Ok.is ∙ ap Ok c.in-None.is) e.says in
    wrote_nothing job old.seen new.seen (device g.K.Sink.told g.K.Sink.faults c.args.sink.now) (text_stays job old.seen new.seen (inr c.requires.history) e.history e.grows says.1)

pub returns-clause-says : goal.returns-clause-says
returns-clause-says g c =
    let job = c.args.floor.now.start.job in
    let old = c.args.pass.now in
    let new = c.release-text.new.pass in
    let e = c.release-text.ensures in
    let says = subst (ReleaseSays job old new c.release-text.result.0.items) c.in-Err.is e.says in
    wrote_nothing job old.seen new.seen (device g.K.Sink.told g.K.Sink.faults c.args.sink.now) (text_stays job old.seen new.seen (inr c.requires.history) e.history e.grows says)

use Rattle.sink_lines.specs.Device.{device}
use Rattle.book_runs.proofs.Served.{out_of}
use Rattle.book_runs.proofs.serving.shown_out.Goals as goal

pub returns-clause-shown : goal.returns-clause-shown
returns-clause-shown g c =
    out_of (λ text. text.items) c.rest_with-rest.result c.end_of-end.result c.write_rest.result c.args.book (device g.K.Sink.told g.K.Sink.faults c.args.sink.now) (device g.K.Sink.told g.K.Sink.faults c.write_rest.new.sink)
    c.end_of-end.ensures c.rest_with-rest.ensures c.write_rest.ensures.written c.write_rest.ensures.silent

use Rattle.std.proofs.Common.{subst}
use Rattle.lone_worker.specs.declared.worker.RunEnd.TheVariants as ends
use Rattle.lone_worker.specs.Rounds.{none}
use Rattle.sink_lines.specs.Device.{Gains, GainsPrefix, device}
use Rattle.book_runs.proofs.Played.{gains_more, gains_none, later_none, quiet_out, run_gains, spent_out, stopped_behind, rounds_on}
use Rattle.book_runs.proofs.Rounding.{later_again}
use Rattle.book_runs.proofs.playing.play.Goals as goal

pub loop-sink-init : goal.loop-sink-init
loop-sink-init g c =
    let b = c.args.book.now in
    (none, later_none b, c.requires, gains_none b (device g.K.Sink.told g.K.Sink.faults c.args.sink.now))

pub loop-sink-preserved : goal.loop-sink-preserved
loop-sink-preserved g c =
    let start = c.args.book.now in
    let old = c.loop-sink.book in
    let new = c.round.new.book in
    let inv = c.loop-sink.invariant in
    let says = c.in-Released.ensures.says in
    let written : Gains (device g.K.Sink.told g.K.Sink.faults c.loop-sink.sink) (device g.K.Sink.told g.K.Sink.faults c.put_lines.new.sink) c.round.new.lines.items =
    subst (Gains (device g.K.Sink.told g.K.Sink.faults c.loop-sink.sink) (device g.K.Sink.told g.K.Sink.faults c.put_lines.new.sink)) c.deref.ensures.value
    (c.in-Ok.ensures.appended, c.in-Ok.ensures.quiet)
    in (
      rounds_on start old new inv.0 says.0 c.in-Released.ensures.unlent,
      later_again start old new inv.1 c.in-Released.ensures.later,
      c.in-Released.ensures.unlent,
      gains_more start old new (device g.K.Sink.told g.K.Sink.faults c.args.sink.now) (device g.K.Sink.told g.K.Sink.faults c.loop-sink.sink) (device g.K.Sink.told g.K.Sink.faults c.put_lines.new.sink)
          inv.3 c.round.new.lines.items c.in-Released.ensures.lines written,
    )

-- what one more run leaves
pub returns-in-Err-Failed-clause-later : goal.returns-in-Err-Failed-clause-later
returns-in-Err-Failed-clause-later g c = later_again c.args.book.now c.loop-sink.book c.round.new.book c.loop-sink.invariant.1 c.in-Released.ensures.later

pub returns-in-Err-Failed-clause-stopped : goal.returns-in-Err-Failed-clause-stopped
returns-in-Err-Failed-clause-stopped g c =
    let start = c.args.book.now in
    let old = c.loop-sink.book in
    let new = c.round.new.book in
    let inv = c.loop-sink.invariant in
    let says = c.in-Released.ensures.says in
    let prefix : GainsPrefix (device g.K.Sink.told g.K.Sink.faults c.loop-sink.sink) (device g.K.Sink.told g.K.Sink.faults c.put_lines.new.sink) c.round.new.lines.items =
    subst (GainsPrefix (device g.K.Sink.told g.K.Sink.faults c.loop-sink.sink) (device g.K.Sink.told g.K.Sink.faults c.put_lines.new.sink)) c.deref.ensures.value
    (c.in-Err-Failed.ensures.prefix, c.in-Err-Failed.ensures.rose)
    in
    record {
      end = ends.NoMemory;
      played = stopped_behind start new (rounds_on start old new inv.0 says.0 c.in-Released.ensures.unlent);
      says = record {
        last = old;
        between = device g.K.Sink.told g.K.Sink.faults c.loop-sink.sink;
        shown = inv.2.shown;
        later = c.in-Released.ensures.later;
        round = says.0;
        so_far = inv.3;
        lines = c.round.new.lines.items;
        more = c.in-Released.ensures.lines;
        cut = prefix;
      };
    }

pub returns-in-Quiet-clause-later : goal.returns-in-Quiet-clause-later
returns-in-Quiet-clause-later g c = later_again c.args.book.now c.loop-sink.book c.round.new.book c.loop-sink.invariant.1 c.in-Quiet.ensures.later

pub returns-in-Quiet-clause-over : goal.returns-in-Quiet-clause-over
returns-in-Quiet-clause-over g c =
    let says = c.in-Quiet.ensures.says in
    quiet_out c.args.book.now c.round.new.book c.in-Quiet.ensures.unlent c.at_rest.result
    (record { last = c.loop-sink.book; rounds = c.loop-sink.invariant.0; run = says.0 }) says.1 c.at_rest.ensures.valid c.at_rest.ensures.status

pub returns-in-Quiet-clause-written : goal.returns-in-Quiet-clause-written
returns-in-Quiet-clause-written g c =
    let inv = c.loop-sink.invariant in
    run_gains c.args.book.now c.loop-sink.book c.round.new.book inv.2 c.in-Quiet.ensures.unlent c.in-Quiet.ensures.later ends.Quiet c.in-Quiet.ensures.says.0
    (device g.K.Sink.told g.K.Sink.faults c.args.sink.now) (device g.K.Sink.told g.K.Sink.faults c.loop-sink.sink) inv.3

pub returns-in-Spent-clause-later : goal.returns-in-Spent-clause-later
returns-in-Spent-clause-later g c = later_again c.args.book.now c.loop-sink.book c.round.new.book c.loop-sink.invariant.1 c.in-Spent.ensures.later

pub returns-in-Spent-clause-over : goal.returns-in-Spent-clause-over
returns-in-Spent-clause-over g c =
    let says = c.in-Spent.ensures.says in
    spent_out c.args.book.now c.round.new.book (record { last = c.loop-sink.book; rounds = c.loop-sink.invariant.0; run = says.0 }) says.1

pub returns-in-Spent-clause-written : goal.returns-in-Spent-clause-written
returns-in-Spent-clause-written g c =
    let inv = c.loop-sink.invariant in
    run_gains c.args.book.now c.loop-sink.book c.round.new.book inv.2 c.in-Spent.ensures.unlent c.in-Spent.ensures.later ends.Spent c.in-Spent.ensures.says.0
    (device g.K.Sink.told g.K.Sink.faults c.args.sink.now) (device g.K.Sink.told g.K.Sink.faults c.loop-sink.sink) inv.3

pub returns-in-NoMemory-clause-later : goal.returns-in-NoMemory-clause-later
returns-in-NoMemory-clause-later g c = later_again c.args.book.now c.loop-sink.book c.round.new.book c.loop-sink.invariant.1 c.in-NoMemory.ensures.later

pub returns-in-NoMemory-clause-stopped : goal.returns-in-NoMemory-clause-stopped
returns-in-NoMemory-clause-stopped g c =
    let inv = c.loop-sink.invariant in
    let says = c.in-NoMemory.ensures.says in
    record {
      end = ends.NoMemory;
      played = record { last = c.loop-sink.book; rounds = inv.0; run = says };
      says = run_gains c.args.book.now c.loop-sink.book c.round.new.book inv.2 c.in-NoMemory.ensures.unlent c.in-NoMemory.ensures.later ends.NoMemory says
          (device g.K.Sink.told g.K.Sink.faults c.args.sink.now) (device g.K.Sink.told g.K.Sink.faults c.loop-sink.sink) inv.3;
    }

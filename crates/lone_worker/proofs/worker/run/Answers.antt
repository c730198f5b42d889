use Rattle.std.proofs.Common.{refl}
use Rattle.lone_worker.specs.Running.{none, one_more}
use Rattle.lone_worker.proofs.Ending.{later_both, same_later}
use Rattle.lone_worker.proofs.worker.run.Goals as goal

pub loop-end-init : goal.loop-end-init
loop-end-init c = record { later = same_later c.args.book.now c.args.book.now refl refl; turns = none; free = c.requires }

pub turn-requires : goal.turn-requires
turn-requires c = c.loop-end.invariant.free

pub returns-in-Some-clause-later : goal.returns-in-Some-clause-later
returns-in-Some-clause-later c = later_both c.args.book.now c.loop-end.book c.turn.new.book c.loop-end.invariant.later c.in-Some.ensures.later

pub returns-in-Some-clause-run : goal.returns-in-Some-clause-run
returns-in-Some-clause-run c = record { last = c.loop-end.book; turns = c.loop-end.invariant.turns; ends = c.in-Some.ensures.ended }

pub loop-end-smaller : goal.loop-end-smaller
loop-end-smaller c = c.in_default.ensures.nearer

pub loop-end-preserved : goal.loop-end-preserved
loop-end-preserved c = record {
  later = later_both c.args.book.now c.loop-end.book c.turn.new.book c.loop-end.invariant.later c.in_default.ensures.later;
  turns = one_more c.loop-end.invariant.turns c.in_default.ensures.turned (record { shown = c.turn.ensures.shown; free = c.in_default.ensures.free });
  free = c.in_default.ensures.free;
}

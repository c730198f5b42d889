use Rattle.std.proofs.Common.{◌≡◌, ◌+◌, ◌≤◌, length}
use Rattle.stab_journal.specs.Event.{weight_of}
use Rattle.turn_floor.specs.Served.{Adds}
use Rattle.turn_trial.proofs.counter.add_events.Given as goal

-- one event a round, for which there is room
abbrev pub invariant-loop-added : goal.invariant-loop-added
invariant-loop-added l = record {
  adds : Adds l.worker l.fn.history.events l.history.events;
  len : length l.history.events ≡ length l.fn.history.events + l._added;
  weight : weight_of l.history.events ≡ weight_of l.fn.history.events + l._added;
  spare : l.events ≤ l.history.spare + l._added;
}

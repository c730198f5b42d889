-- The machine goes on from the same cut by turns, and the weight rises to the fuel.
use Rattle.std.proofs.Common.{◌≡◌, ◌-◌}
use Rattle.image_run.specs.Turns.{AreTurns, IsRun}
use Rattle.image_run.proofs.turn.Run.play.Given as goal

abbrev pub invariant-loop-self : goal.invariant-loop-self
invariant-loop-self l = record {
  run : IsRun l.self;
  origin : l.self.machine.origin ≡ l.initial.self.machine.origin;
  quantum : l.self.quantum ≡ l.initial.self.quantum;
  turns : AreTurns l.fuel l.initial.self.quantum l.self.machine.events.items;
}

abbrev pub decreases-loop-self : goal.decreases-loop-self
decreases-loop-self l = l.fuel - l.self.machine.weight

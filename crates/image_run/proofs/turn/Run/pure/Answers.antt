use Rattle.std.proofs.Common.{◌≤◌, ◌∙◌, arith}
use Rattle.image_run.proofs.Added.{pure_turn}
use Rattle.image_run.proofs.Turning.{some_made}
use Rattle.image_run.proofs.turn.Run.pure.Goals as goal

pub returns-clause-moved : goal.returns-clause-moved
returns-clause-moved c =
    let some : 1 ≤ c.in_ok-local.field-0 = some_made c.args.self.now.machine c.args.t c.in_ok-local.field-0 c.requires.pure c.in_ok-local.ensures.none in
    record {
      run = c.in_ok-go_on.ensures.moved.run;
      origin = c.in_ok-go_on.ensures.moved.origin ∙ c.in_ok-local.ensures.origin;
      quantum = c.in_ok-go_on.ensures.moved.quantum;
      more = omega (arith, some, c.in_ok-go_on.ensures.moved.more, c.in_ok-local.ensures.weight);
      little = omega (arith, c.in_ok-go_on.ensures.moved.little, c.in_ok-local.ensures.weight, c.in_ok-local.ensures.most, c.requires.run.little);
    }

pub returns-clause-added : goal.returns-clause-added
returns-clause-added c =
    let some : 1 ≤ c.in_ok-local.field-0 = some_made c.args.self.now.machine c.args.t c.in_ok-local.field-0 c.requires.pure c.in_ok-local.ensures.none in
    pure_turn c.args.self.now.quantum c.args.t c.in_ok-local.field-0 c.args.self.now.machine.events.items _ _ c.in_ok-local.ensures.most (c.in_ok-local.ensures.event some) c.in_ok-go_on.ensures.added

use Rattle.image_run.proofs.Turning.{may_refuse, may_undo}
use Rattle.image_run.proofs.turn.Run.stabilize.Goals as goal

pub undo-requires-clause-may : goal.undo-requires-clause-may
undo-requires-clause-may c =
    let at = rw c.in-Some.is at c.in_ok-mark.ensures in
    may_undo c.args.self.now.machine c.args.t c.requires.look c.in-Some.m at.0 at.1

pub step-requires-clause-may : goal.step-requires-clause-may
step-requires-clause-may c = may_refuse c.args.self.now.machine c.args.t c.requires.look (rw c.in-None.is at c.in_ok-mark.ensures)

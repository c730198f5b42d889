use Rattle.std.proofs.Common.{◌-◌, length, take, ap, ◌∙◌, arith}
use Rattle.image_state.proofs.Slots.{take_fewer}
use Rattle.image_state.proofs.scope.Scope.leave.Goals as goal

pub loop-self-preserved : goal.loop-self-preserved
loop-self-preserved c =
    ap (take c.args.outside) c.pop.ensures
    ∙ take_fewer c.args.outside (length c.loop-self.self - 1) c.loop-self.self (omega arith)
    ∙ c.loop-self.invariant

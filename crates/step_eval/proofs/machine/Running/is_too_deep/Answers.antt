-- The forms round a redex that is still to be found are counted from the frames on.
use Rattle.std.proofs.Common.{◌+◌, ap, sym, ◌∙◌}
use Rattle.std.specs.Prelude.{nat_lt}
use Rattle.step_eval.proofs.Searching.{machine-deep, node-deep}
use Rattle.step_eval.proofs.machine.Running.is_too_deep.Goals as goal

pub returns-in-Begun : goal.returns-in-Begun
returns-in-Begun c =
    c.exceeds.ensures
    ∙ ap (λ k. nat_lt 1000 (c.depth_of.result + k)) c.count.ensures
    ∙ ap (nat_lt 1000) (sym (node-deep c.args.p.now c.depth_of.ensures.valid c.args.self.now c.in-Begun.n c.depth_of.result c.in-Begun.is c.requires c.depth_of.ensures.depth))

pub returns-in_default : goal.returns-in_default
returns-in_default c =
    c.exceeds-in_default.ensures
    ∙ ap (λ k. nat_lt 1000 (0 + k)) c.count-in_default.ensures
    ∙ ap (nat_lt 1000) (sym (machine-deep c.args.p.now c.args.self.now c.in_default.not-Begun c.in_default.not-Value c.requires))

use Rattle.std.proofs.Common.{nat_lt, ap, ◌∙◌}
use Rattle.image_state.proofs.Slots.{any_count}
use Rattle.image_state.proofs.scope.Scope.has.Goals as goal

pub returns : goal.returns
returns c = ap (nat_lt 0) c.times_of.ensures ∙ any_count c.args.slot c.args.self.now

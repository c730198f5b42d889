use Rattle.std.proofs.Common.{sym, ap, ◌∙◌}
use Rattle.schedule_drill.specs.Out.{all_given_back}
use Rattle.schedule_drill.proofs.Outs.{held_in, values_are}
use Rattle.schedule_drill.proofs.leases.Leases.give_back.Goals as goal

pub loop-k-init : goal.loop-k-init
loop-k-init c = ap (all_given_back c.args.book.now) (sym (values_are c.self.inside.out.entries c.len-few.ensures.ordered) ∙ ap held_in c.self.view_is)

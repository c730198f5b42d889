use Rattle.std.proofs.Common.{vec_capacity, ap, ◌∙◌}
use Rattle.reach_line.specs.MarkList.{MarkList, numbers}
use Rattle.reach_line.proofs.Marking.{kept_moved}
use Rattle.reach_line.proofs.marks.Marks.start_at.Goals as goal

pub invariant_of-self : goal.invariant_of-self
invariant_of-self c =
    let s = c.self.inside in
    kept_moved (numbers s.nodes.items) s.lowest c.args.lowest s.seen.items (vec_capacity s.nodes) (ap (λ (m : MarkList). m.nodes) c.self.view_is ∙ c.requires) c.self.invariant

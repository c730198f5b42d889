use Rattle.std.proofs.Common.{◌≡◌, ◌+◌, ◌-◌, ◌^◌, ap, sym, ◌∙◌}
use Rattle.std.specs.Prelude.{min}
use Rattle.turn_floor.specs.Counts.{risen}
use Rattle.turn_floor.proofs.Counting.{risen_sum}
use Rattle.turn_floor.proofs.count.Count.merge.Goals as goal

pub invariant_of-self : goal.invariant_of-self
invariant_of-self g c = record {
  so_far_is = c.saturating_add-self.ensures ∙ (λ i. min (c.args.self.now.so_far_is i + c.args.other.so_far_is i) (2 ^ 64 - 1)) ∙ risen_sum _ _ ∙ ap (λ n. risen n 0) (sym c.merge.ensures.amount);
}

use Rattle.std.proofs.Common.{◌≡◌, ℕ, suc, ◌+◌, ◌-◌, ◌^◌, ap, ◌∙◌, arith}
use Rattle.std.specs.Prelude.{min}
use Rattle.turn_floor.specs.Counts.{risen}
use Rattle.turn_floor.proofs.count.Count.raise.Goals as goal

pub invariant_of-self : goal.invariant_of-self
invariant_of-self g c =
    let more : suc c.args.self.now.share.amount ≡ c.add.new.share.amount = omega (arith, c.add.ensures.amount) in
    record { so_far_is = c.saturating_add-self.ensures ∙ ap (λ (n : ℕ). min (n + 1) (2 ^ 64 - 1)) c.args.self.now.so_far_is ∙ ap (λ (n : ℕ). risen n 0) more }

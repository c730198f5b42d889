use Rattle.std.proofs.Common.{Some, None, ap, subst}
use Rattle.std.specs.Ordering.{nat_cmp}
use Rattle.std.specs.FinSet as set
use Rattle.std.specs.FinSet.{FinSet}
use Rattle.language.specs.Above.{IsLeastAbove}
use Rattle.language.specs.Held.{Held}
use Rattle.language.proofs.Ranges.{key_above, no_key_above}
use Rattle.plain_language.proofs.state.PlainState.channel_after.Goals as goal

pub returns-in_err-c : goal.returns-in_err-c
returns-in_err-c c =
    rw c.from_residual.ensures (subst (λ (s : FinSet nat_cmp). IsLeastAbove (set.contains s) c.args.n None) (ap (λ (h : Held). h.state.channels) c.self.view_is)
    (no_key_above c.self.inside.channels c.args.n c.range.result (c.range.ensures.in_range tt) c.in_err-c.ensures.steps.0))

pub returns : goal.returns
returns c =
    subst (λ (s : FinSet nat_cmp). IsLeastAbove (set.contains s) c.args.n (Some c.in_ok-c.c.now)) (ap (λ (h : Held). h.state.channels) c.self.view_is)
    (key_above c.self.inside.channels c.args.n c.range.result (c.range.ensures.in_range tt) c.in_ok-c.c.now c.next.new.self c.in_ok-c.ensures.steps)

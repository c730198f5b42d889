use Rattle.std.proofs.Common.{◌≡◌, Some, None, ap, subst}
use Rattle.std.specs.Ordering.{nat_cmp}
use Rattle.std.specs.FinMap as map
use Rattle.std.specs.FinMap.{FinMap}
use Rattle.language.specs.Expression.{Expr}
use Rattle.language.specs.Above.{IsLeastAbove}
use Rattle.language.specs.Held.{Held}
use Rattle.language.proofs.Ranges.{entry_above, entry_holds, no_entry_above}
use Rattle.plain_language.proofs.state.PlainState.thread_after.Goals as goal

pub returns-in_err-t-clause-least : goal.returns-in_err-t-clause-least
returns-in_err-t-clause-least c =
    rw c.from_residual.ensures (subst (λ (m : FinMap nat_cmp Expr). IsLeastAbove (map.contains_key m) c.args.n None) (ap (λ (h : Held). h.state.threads) c.self.view_is)
    (no_entry_above c.self.inside.threads c.args.n c.range.result (c.range.ensures.in_range tt) c.in_err-t.ensures.steps.0))

pub returns-clause-least : goal.returns-clause-least
returns-clause-least c =
    subst (λ (m : FinMap nat_cmp Expr). IsLeastAbove (map.contains_key m) c.args.n (Some c.in_ok-t.t.now)) (ap (λ (h : Held). h.state.threads) c.self.view_is)
    (entry_above c.self.inside.threads c.args.n c.range.result (c.range.ensures.in_range tt) (c.in_ok-t.t.now, c.in_ok-t.e.now) c.next.new.self c.in_ok-t.ensures.steps)

pub returns-clause-stands : goal.returns-clause-stands
returns-clause-stands c =
    subst (λ (m : FinMap nat_cmp Expr). map.get m c.in_ok-t.t.now ≡ Some c.in_ok-t.e.now) (ap (λ (h : Held). h.state.threads) c.self.view_is)
    (entry_holds c.self.inside.threads c.args.n c.range.result (c.range.ensures.in_range tt) (c.in_ok-t.t.now, c.in_ok-t.e.now) c.next.new.self c.in_ok-t.ensures.steps)

use Rattle.std.proofs.Common.{◌≡◌, Some, None, ap, subst}
use Rattle.std.specs.Ordering.{nat_cmp}
use Rattle.std.specs.FinMap as map
use Rattle.std.specs.FinMap.{FinMap}
use Rattle.stab_base.specs.Datum.{Datum}
use Rattle.language.specs.Above.{IsLeastAbove}
use Rattle.language.specs.Held.{Held}
use Rattle.language.proofs.Ranges.{entry_above, entry_holds, no_entry_above}
use Rattle.plain_language.proofs.state.PlainState.reference_after.Goals as goal

pub returns-in_err-r-clause-least : goal.returns-in_err-r-clause-least
returns-in_err-r-clause-least c =
    rw c.from_residual.ensures (subst (λ (m : FinMap nat_cmp Datum). IsLeastAbove (map.contains_key m) c.args.n None) (ap (λ (h : Held). h.state.references) c.self.view_is)
    (no_entry_above c.self.inside.references c.args.n c.range.result (c.range.ensures.in_range tt) c.in_err-r.ensures.steps.0))

pub returns-clause-least : goal.returns-clause-least
returns-clause-least c =
    subst (λ (m : FinMap nat_cmp Datum). IsLeastAbove (map.contains_key m) c.args.n (Some c.in_ok-r.r.now)) (ap (λ (h : Held). h.state.references) c.self.view_is)
    (entry_above c.self.inside.references c.args.n c.range.result (c.range.ensures.in_range tt) (c.in_ok-r.r.now, c.in_ok-r.v.now) c.next.new.self c.in_ok-r.ensures.steps)

pub returns-clause-holds : goal.returns-clause-holds
returns-clause-holds c =
    subst (λ (m : FinMap nat_cmp Datum). map.get m c.in_ok-r.r.now ≡ Some c.in_ok-r.v.now) (ap (λ (h : Held). h.state.references) c.self.view_is)
    (entry_holds c.self.inside.references c.args.n c.range.result (c.range.ensures.in_range tt) (c.in_ok-r.r.now, c.in_ok-r.v.now) c.next.new.self c.in_ok-r.ensures.steps)

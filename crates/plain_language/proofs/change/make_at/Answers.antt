use Rattle.std.proofs.Common.{◌≡◌, IsSome, ap, subst, sym, ◌∙◌}
use Rattle.std.specs.Ordering.{nat_cmp}
use Rattle.std.specs.FinMap as map
use Rattle.std.specs.FinMap.{FinMap}
use Rattle.language.specs.Expression.{Expr}
use Rattle.plain_language.specs.Next.{after_next}
use Rattle.language.proofs.Staying.{all_said, inserted_twice, still_there}
use Rattle.plain_language.proofs.change.make_at.Goals as goal

pub replace-fault-requires : goal.replace-fault-requires
replace-fault-requires c =
    subst (λ (m : FinMap nat_cmp Expr). IsSome (map.get m c.args.t)) (sym c.replace-e.ensures.is)
    (still_there _ c.args.t c.args.t c.replace-e.result _ c.replace-e.ensures.was)

pub returns : goal.returns
returns c =
    let old : FinMap nat_cmp Expr = map.from_entries {R = nat_cmp} c.args.threads.now.entries in
    all_said (map.get old c.args.t) c.replace-e.result
    (λ (e : Expr). map.from_entries {R = nat_cmp} c.replace-fault.new.map.entries ≡ map.insert old c.args.t (after_next e c.args.next)) c.replace-e.ensures.was
    (c.replace-fault.ensures.is
    ∙ ap (λ (m : FinMap nat_cmp Expr). map.insert m c.args.t c.after_next.result) c.replace-e.ensures.is
    ∙ inserted_twice old c.args.t _ c.after_next.result
    ∙ ap (map.insert old c.args.t) c.after_next.ensures)

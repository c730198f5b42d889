use Rattle.std.proofs.Common.{◌≡◌, Option, Some, None, sym, ap, subst, ◌∙◌}
use Rattle.std.specs.Prelude.{OnOk, Result}
use Rattle.std.specs.FinMap as map
use Rattle.language.proofs.Maps.{entered_map, get_looked}
use Rattle.schedule_drill.specs.declared.held.Held.{Held}
use Rattle.schedule_drill.specs.Out.{Out}
use Rattle.schedule_drill.proofs.leases.Leases.put.Goals as goal
use Rattle.schedule_drill.proofs.leases.Leases.put.Goals.{in-Ok-None, in-Err}

pub unreachable-requires : goal.unreachable-requires
unreachable-requires c =
    let some : ◌≡◌ {A = Option Held} None (Some c.in-Ok-Some._there) =
    sym c.requires ∙ ap (λ (o : Out). map.get o c.args.k) (sym c.self.view_is) ∙ get_looked c.self.inside.out.entries c.args.k ∙ sym c.in-Ok-Some.ensures.old ∙ c.in-Ok-Some.field-0-is
    in
    absurd (let wrong : ⊥ = cc in wrong)

pub returns-clause-put : goal.returns-clause-put
returns-clause-put c =
    let P : Type 0 = map.from_entries c.insert.new.self.entries ≡ map.insert c.args.self.now c.args.k c.args.held in
    let On : Result (Unit {0}) Held → Type 0 = λ r. OnOk r P in
    elim c.match-insert.branch [
      | in-Ok-None w ↦
          subst On (sym w.result-is)
          (entered_map _ _ c.args.k c.args.held (λ q. w.in-Ok-None.ensures.updates.0 q) ∙ ap (λ (o : Out). map.insert o c.args.k c.args.held) c.self.view_is)
      | in-Err w ↦ subst On (sym w.result-is) tt
    ]

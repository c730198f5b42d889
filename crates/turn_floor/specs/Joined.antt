-- A view after other passes were joined into it.
use Rattle.std.specs.Prelude.{◌≡◌, ℕ, ◌+◌, List, length}
use Rattle.std.specs.List.{AllByRecursion}
use mathlib.Core.List.{IsPrefix}
use Rattle.stab_journal.specs.declared.event.Event.{Event}
use Rattle.turn_floor.specs.Parts.{PassParts}
use Rattle.turn_floor.specs.declared.view.View.{View}

-- what begins with all that the view has seen begins with all that the view before had seen and the passes
abbrev pub Covers : View → View → List PassParts → Type 0
Covers before v passes =
    (whole : List Event) → IsPrefix v.seen whole → AllByRecursion (λ (old : List Event). IsPrefix old whole) v.olds
    → IsPrefix before.seen whole × AllByRecursion (λ (old : List Event). IsPrefix old whole) before.olds × AllByRecursion (λ (p : PassParts). IsPrefix p.seen whole) passes

pub record Joined (before v : View) (passes : List PassParts) : Type 0 where
  pub worker : v.worker ≡ before.worker
  pub start : v.start ≡ before.start
  pub own : v.own ≡ before.own
  pub holds : v.holds ≡ before.holds
  pub last : v.last ≡ before.last
  pub seats : v.seats ≡ before.seats + length passes
  pub covers : Covers before v passes

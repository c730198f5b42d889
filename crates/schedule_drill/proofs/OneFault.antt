-- At alike stands the same lines can't be played.
use Rattle.std.proofs.Common.{◌≡◌, ℕ, Option, Some, None, refl, ap}
use Rattle.std.specs.Prelude.{is_some}
use Rattle.std.specs.FinMap as map
use Rattle.stab_code.specs.Program.{ProgramParts}
use Rattle.drill_text.specs.declared.order.Order.{Order}
use Rattle.drill_text.specs.declared.script.Line.{Line}
use Rattle.schedule_drill.specs.declared.held.Held.{Held}
use Rattle.schedule_drill.specs.Alike.{AreAlike, AreOne}
use Rattle.schedule_drill.specs.Drilled.{fault_at, fault_in, refused}
use Rattle.schedule_drill.specs.Played.{Stand}

module _ (a b : Stand) (alike : AreAlike a b) where
  one_there : (p q : ProgramParts) (o r : Option Held) → AreOne p q o r → is_some o ≡ is_some r
  one_there p q None None is = refl
  one_there p q (Some h) (Some i) is = refl
  one_there p q None (Some i) is = absurd is
  one_there p q (Some h) None is = absurd is

  by_order : (at : ℕ) (o : Option Order) → fault_in a.out at o ≡ fault_in b.out at o
  by_order at None = refl
  by_order at (Some order) = ap (λ out. refused out order.verb at) (one_there a.book.job.program b.book.job.program (map.get a.out order.lease) (map.get b.out order.lease) (alike.out order.lease))

  pub one_fault : (line : Line) → fault_at a.out line ≡ fault_at b.out line
  one_fault line = by_order line.at line.order

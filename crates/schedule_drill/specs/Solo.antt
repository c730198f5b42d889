-- Drills of one worker.
use Rattle.std.specs.Prelude.{◌≡◌, ◌⊎◌, ℕ, List, Option, Some}
use Rattle.std.specs.List.{AllByRecursion}
use Rattle.stab_code.specs.JobParts.{JobParts}
use Rattle.commit_book.specs.Book.{BookView}
use Rattle.drill_text.specs.declared.order.Order.{Order}
use Rattle.drill_text.specs.declared.order.Verb.{Verb}
use Rattle.drill_text.specs.declared.order.Verb.TheVariants.{Lease, Commit}
use Rattle.drill_text.specs.declared.script.Line.{Line}
use Rattle.lone_worker.specs.Turn.{worker}
use Rattle.schedule_drill.specs.Drilled.{IsDrilled}

-- the order for the one worker
abbrev pub for_one : Verb → Option Order
for_one verb = Some (record { verb = verb; lease = worker })

-- the line is `lease 1` or `commit 1`
abbrev pub IsForOne : Line → Type 0
IsForOne line = (line.order ≡ for_one Lease) ⊎ (line.order ≡ for_one Commit)

-- such lines are a drill of the job that ends with this book
pub record IsDrilledByOne (job : JobParts) (book : BookView) : Type 0 where
  pub script : List Line
  pub text : List ℕ
  pub for_one : AllByRecursion IsForOne script
  pub drilled : IsDrilled job script text book

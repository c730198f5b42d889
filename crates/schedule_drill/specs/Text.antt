-- What is written of a line of a script.
use Rattle.std.specs.Prelude.{ℕ, List, ◌∷◌, ◌++◌, Option, Some, None, codes, decimal}
use Rattle.stab_base.specs.declared.numbers.Generation.{Generation}
use Rattle.stab_base.specs.declared.numbers.Seq.{Seq}
use Rattle.language.specs.Shown.{line}
use Rattle.commit_book.specs.declared.done.Done.{Done}
use Rattle.commit_book.specs.declared.done.Done.TheVariants.{Taken, Parked, Undone, Stale, Over}
use Rattle.commit_book.specs.declared.turn.Turn.{Turn}
use Rattle.commit_book.specs.declared.turn.Turn.TheVariants.{Work, Idle, Quiet, Spent, Release}
use Rattle.commit_book.specs.Book.{BookView}
use Rattle.commit_book.specs.Leases.{LeaseView}
use Rattle.commit_book.specs.Releases.{finals}
use Rattle.drill_text.specs.declared.order.Order.{Order}
use Rattle.drill_text.specs.Order.{order_text}

-- a line of a drill: the order, and what came of it
abbrev pub answered : Order → List ℕ → List ℕ
answered order what = line (order_text order ++ 32 ∷ what)

-- `thread T gen G`
abbrev pub lent_text : LeaseView → List ℕ
lent_text lease = codes "thread " ++ decimal lease.thread ++ codes " gen " ++ decimal lease.generation

-- `release COUNT`
abbrev pub release_text : ℕ → List ℕ
release_text count = codes "release " ++ decimal count

-- what a lease tells of its turn; of a release, how many values are released then
abbrev pub turn_text : BookView → Turn → List ℕ
turn_text b (Work lease control) = lent_text lease
turn_text b Idle = codes "idle"
turn_text b Quiet = codes "quiet"
turn_text b Spent = codes "spent"
turn_text b Release = release_text (finals b)

abbrev pub now_text : Option Generation → List ℕ
now_text (Some g) = decimal g.0
now_text None = codes "none"

-- `undone F C mark M removed R`
abbrev pub undone_text : Seq → ℕ → Seq → ℕ → List ℕ
undone_text first count mark removed =
    codes "undone " ++ decimal first.0 ++ 32 ∷ decimal count ++ codes " mark " ++ decimal mark.0 ++ codes " removed "
    ++ decimal removed

-- what a commit tells: `taken F C` or `parked F C`, what was undone, `stale G now H`, or `over W`
abbrev pub done_text : Done → List ℕ
done_text (Taken first count) = codes "taken " ++ decimal first.0 ++ 32 ∷ decimal count
done_text (Parked first count) = codes "parked " ++ decimal first.0 ++ 32 ∷ decimal count
done_text (Undone first count mark removed marks) = undone_text first count mark removed
done_text (Stale lent now) = codes "stale " ++ decimal lent.0 ++ codes " now " ++ now_text now
done_text (Over weight) = codes "over " ++ decimal weight

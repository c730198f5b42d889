-- When a run is over.
use Rattle.std.specs.Prelude.{◌⊎◌}
use Rattle.commit_book.specs.declared.turn.Turn.TheVariants.{Quiet, Spent}
use Rattle.commit_book.specs.Book.{BookView}
use Rattle.commit_book.specs.Turns.{CanRest, IsTurn}

-- the turn that comes next is none: no thread can step, or the fuel is used up
abbrev pub IsRunOver : BookView → Type 0
IsRunOver b = (IsTurn b b 1 Quiet × CanRest b) ⊎ IsTurn b b 1 Spent

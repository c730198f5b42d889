-- A run by one worker with the releases of its printed values.
use Rattle.commit_book.specs.Book.{BookView}
use Rattle.commit_book.specs.Releases.{IsReleased}
use Rattle.lone_worker.specs.declared.worker.RunEnd.{RunEnd}
use Rattle.lone_worker.specs.declared.worker.RunEnd.TheVariants.{Due}
use Rattle.lone_worker.specs.Desk.{IsUnlent}
use Rattle.lone_worker.specs.Running.{IsRun}
use Rattle.lone_worker.specs.Turn.{worker}

-- rounds, one after another: each is a run that ends where printed values are due, and their release; after both the book shows
-- its history, and nobody has a lease
pub data AreRounds : BookView → BookView → Type 0 where
  none : {book : BookView} → AreRounds book book
  one_more : {old between last new : BookView} → AreRounds old between → IsRun Due between last → IsUnlent last
      → IsReleased last new worker → IsUnlent new → AreRounds old new

-- as many rounds as were made, and then a run
pub record IsPlayed (end : RunEnd) (old new : BookView) : Type 0 where
  pub last : BookView
  pub rounds : AreRounds old last
  pub run : IsRun end last new

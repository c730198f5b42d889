-- A live desk.
use Rattle.std.specs.Prelude.{◌≡◌, true, List, refl}
use Rattle.std.specs.List.{AllByRecursion}
use Rattle.std.specs.Coded.{Coded, code_by, coded×, coded_list}
use Rattle.commit_book.specs.Book.{BookView}
use Rattle.commit_book.specs.Probing.{IsWithinScript, asks_probe}
use Rattle.worker_lease.specs.Releases.{AreByOne}
use Rattle.live_desk.specs.declared.waiting.Waiting.{Waiting}

-- a book, and who waits for a number, who came first in front
pub record LiveView : Type 0 where
  pub book : BookView
  pub waiting : List Waiting

abbrev pub live_of : BookView → List Waiting → LiveView
live_of book waiting = record { book = book; waiting = waiting }

-- it is stored as the pair of its parts
abbrev pub live_code : Coded BookView → Coded Waiting → Coded LiveView
live_code books waits = code_by (BookView × List Waiting) (coded× books (coded_list waits)) (λ v. (v.book, v.waiting)) (λ p. live_of p.0 p.1) (λ _. refl)

-- a progress of the book's program that stopped at a probe
abbrev pub Asks : BookView → Waiting → Type 0
Asks b w = (w.progress.program ≡ b.job.program) × (asks_probe w.progress ≡ true)

-- what holds of every live desk: releases are worker 1's, no probe has come past the script's end, and who waits asks for a number
pub record IsLive (v : LiveView) : Type 0 where
  pub by_one : AreByOne v.book.history.events
  pub within : IsWithinScript v.book
  pub asks : AllByRecursion (Asks v.book) v.waiting

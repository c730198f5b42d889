-- What becomes of a live desk while its owner has it.
use Rattle.std.specs.Prelude.{◌≡◌, false, List, [], ◌∷◌, ◌++◌, Result, OnOk}
use Rattle.std.specs.List.{AllByRecursion}
use Rattle.stab_base.specs.declared.numbers.NoMemory.{NoMemory}
use Rattle.stab_journal.specs.declared.event.Event.{Event}
use Rattle.commit_book.specs.declared.done.Done.{Done}
use Rattle.commit_book.specs.Book.{BookView}
use Rattle.commit_book.specs.Commits.{IsCommitted}
use Rattle.commit_book.specs.Turns.{given_back}
use Rattle.worker_lease.specs.Asks.{under}
use Rattle.worker_lease.specs.Releases.{is_release}
use Rattle.live_desk.specs.declared.waiting.Waiting.{Waiting}
use Rattle.live_desk.specs.Live.{LiveView}

-- these are committed one after another, each as worker 1's
abbrev pub CommitsAll : BookView → List Waiting → BookView → Type 0
CommitsAll old [] new = new ≡ old
CommitsAll old (w ∷ ws) new = (next : BookView) × (done : Done) × IsCommitted old next (under 1 w.lease) w.progress done × CommitsAll next ws new

-- the one that waited longest was committed, and waits no more
pub record IsFirstCommitted (old new : LiveView) : Type 0 where
  pub first : Waiting
  pub done : Done
  pub is : old.waiting ≡ first ∷ new.waiting
  pub committed : IsCommitted old.book new.book (under 1 first.lease) first.progress done

-- so many of those that wait were committed, who waited longest first, and the others still wait
pub record CommitsFirst (old new : LiveView) : Type 0 where
  pub front : List Waiting
  pub is : old.waiting ≡ front ++ new.waiting
  pub committed : CommitsAll old.book front new.book

-- the book once these leases were given back
abbrev pub all_given_back : BookView → List Waiting → BookView
all_given_back b [] = b
all_given_back b (w ∷ ws) = all_given_back (given_back b w.lease) ws

-- so many of those that wait were committed, who waited longest first, all of them where it is said; the leases of the others were
-- given back
pub record IsEnded (old : LiveView) (made : Result (Unit {0}) NoMemory) (new : BookView) : Type 0 where
  pub front : List Waiting
  pub rest : List Waiting
  pub book : BookView
  pub is : old.waiting ≡ front ++ rest
  pub committed : CommitsAll old.book front book
  pub left : new ≡ all_given_back book rest
  pub all : OnOk made (rest ≡ [])

-- the job stays, and the history goes on by events of worker 1, none of which is a release
pub record GoesOn (old new : BookView) : Type 0 where
  pub job : new.job ≡ old.job
  pub added : List Event
  pub is : new.history.events ≡ old.history.events ++ added
  pub by_one : AllByRecursion (λ (e : Event). e.worker ≡ 1) added
  pub plain : AllByRecursion (λ (e : Event). is_release e.what ≡ false) added

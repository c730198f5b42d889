-- What a commit answers and leaves.
use Rattle.std.specs.Prelude.{◌≡◌, ℕ, ◌+◌, ◌≤◌, false, not, min, ◌++◌, filter, length, Option, Some, IfSome, IsSomeAnd, option_map}
use Rattle.std.specs.Ordering.{nat_cmp}
use Rattle.std.specs.FinMap as map
use Rattle.std.specs.FinMap.{FinMap}
use Rattle.linked_lists.specs.Lists.{is_listed, without}
use Rattle.stab_base.specs.declared.numbers.Generation.{Generation}
use Rattle.stab_journal.specs.Event.{weight_of}
use Rattle.thread_slots.specs.declared.state.State.TheVariants.{Ended}
use Rattle.thread_slots.specs.Slot.{Slot, is_in}
use Rattle.rendezvous.specs.Line.{Line, joined, left}
use Rattle.reach_line.specs.MarkList.{numbers}
use Rattle.language.specs.Plain.{look_in}
use Rattle.step_eval.specs.ControlView.{ControlView, expr_of}
use Rattle.step_eval.specs.Progress.{ProgressView}
use Rattle.commit_book.specs.declared.done.Done.{Done}
use Rattle.commit_book.specs.declared.done.Done.TheVariants.{Taken, Parked, Undone, Stale, Over}
use Rattle.commit_book.specs.Book.{BookView, Answered}
use Rattle.commit_book.specs.Leases.{LeaseView}
use Rattle.commit_book.specs.Limits.{commit_reserve, most_counted}
use Rattle.commit_book.specs.Rows.{Row, meets, waits, stays, undoes, row_of, events_by, local_of, steps_of, may_change, movers}
use Rattle.commit_book.specs.Step.{next_seq}
use Rattle.commit_book.specs.Turns.{given_back}
use Rattle.commit_book.specs.Undoing.{begun, IsTakenBack, IsToldOf}

-- the thread is there, of the lease's generation, and its control is this one
abbrev pub IsCurrent : FinMap nat_cmp (Slot ControlView) → LeaseView → ControlView → Type 0
IsCurrent threads lease origin =
    IsSomeAnd (map.get threads lease.thread) (λ slot. (slot.generation ≡ lease.generation) × (slot.control ≡ origin))

-- the weight is that of a book that takes no commit any more
abbrev pub IsOver : BookView → Type 0
IsOver b = b.job.fuel + commit_reserve ≤ weight_of b.history.events

-- a line of the channel c: who was met leaves it, and who begins to wait comes to its end, if its offer is on c
abbrev pub line_after : ℕ → Row → ℕ → Line → Line
line_after t (meets u l) c line = left u line
line_after t (waits o) c line = joined t o c line
line_after t _ c line = line

-- a commit by the row: with what every book shows, this determines the new book but for the forms of its controls
pub record IsMoved (old new : BookView) (worker t n : ℕ) (row : Row) : Type 0 where
  -- the steps are pushed, with the lease's worker
  pub history : new.history
      ≡ record old.history { events = old.history.events ++ events_by worker (local_of t n ++ steps_of t row) }
  -- the thread leaves its place, and those that the row moves come to the tail; they are Ready there, or have Ended
  pub queue : new.queue ≡ without t old.queue ++ filter (λ u. not (is_in Ended new.threads u)) (movers t row)
  -- nobody else changes; where the thread keeps its place, it doesn't either
  pub others : (u : ℕ) → is_listed u (may_change t row) ≡ false → map.get new.threads u ≡ map.get old.threads u
  -- lines keep their order
  pub lines : (c : ℕ) → IfSome (map.get old.offers.lines c) (λ line. map.get new.offers.lines c ≡ Some (line_after t row c line))
  pub job : new.job ≡ old.job
  pub answered : new.answered ≡ old.answered

-- one more answer of a kind, up to the greatest number
abbrev pub counted : ℕ → ℕ
counted n = min (n + 1) most_counted

abbrev pub commit_counted : BookView → Answered
commit_counted b = record b.answered { commits = counted b.answered.commits }

abbrev pub stale_counted : BookView → BookView
stale_counted b = record b { answered = record b.answered { stale = counted b.answered.stale } }

-- the row of a lease's thread that stands where its progress ended
abbrev pub row_at : BookView → LeaseView → ProgressView → Row
row_at b lease progress = let e = expr_of b.job.program progress.end in row_of b lease.thread e (look_in b.job.program e)

-- how many steps a commit pushes
abbrev pub pushed : LeaseView → ProgressView → Row → ℕ
pushed lease progress row = length (local_of lease.thread progress.steps ++ steps_of lease.thread row)

-- what is answered to a row but an undo's
abbrev pub answer_of : ℕ → ℕ → Row → Done
answer_of first count (waits o) = Parked (record { 0 = first }) count
answer_of first count stays = Parked (record { 0 = first }) count
answer_of first count row = Taken (record { 0 = first }) count

-- what a row leaves
abbrev pub IsLeftBy : BookView → BookView → LeaseView → ProgressView → Row → Type 0
IsLeftBy old new lease progress (undoes m) =
    IsTakenBack old (record new { answered = old.answered }) lease.worker lease.thread progress.steps m
    (begun old lease.thread progress.steps)
    × (new.answered ≡ commit_counted old)
IsLeftBy old new lease progress row =
    IsMoved old (record new { answered = old.answered }) lease.worker lease.thread progress.steps row
    × (new.answered ≡ commit_counted old)

-- what is answered to a row: to an undo its section, how many steps it struck, and which of them are nodes
abbrev pub IsAnsweredBy : BookView → LeaseView → ProgressView → Row → Done → Type 0
IsAnsweredBy old lease progress (undoes m) (Undone first count mark removed marks) =
    (first.0 ≡ next_seq old) × (count ≡ pushed lease progress (undoes m) + 1)
    × IsToldOf (begun old lease.thread progress.steps) m mark removed (numbers marks.items)
IsAnsweredBy old lease progress (undoes m) done = ⊥
IsAnsweredBy old lease progress row done = done ≡ answer_of (next_seq old) (pushed lease progress row) row

-- too late: which generation was lent, and which the thread has now, if it is there
pub record IsLate (old new : BookView) (lease : LeaseView) (lent : Generation) (now : Option Generation) : Type 0 where
  pub of_lease : lent.0 ≡ lease.generation
  pub of_thread : option_map (λ g. g.0) now ≡ option_map (λ slot. slot.generation) (map.get old.threads lease.thread)
  pub counted_once : new ≡ stale_counted old

-- what a row answers and leaves
pub record IsMade (old new : BookView) (lease : LeaseView) (progress : ProgressView) (row : Row) (done : Done) : Type 0 where
  pub answer : IsAnsweredBy old lease progress row done
  pub left : IsLeftBy old new lease progress row

-- Stale exactly where the lease isn't current, Over exactly where it is and the book is over, and else what the table says
abbrev pub IsCommitted : BookView → BookView → LeaseView → ProgressView → Done → Type 0
IsCommitted old new lease progress (Stale lent now) =
    (¬ IsCurrent old.threads lease progress.origin) × IsLate old new lease lent now
IsCommitted old new lease progress (Over weight) =
    IsCurrent old.threads lease progress.origin × IsOver old × (weight ≡ weight_of old.history.events)
    × (new ≡ given_back old lease)
IsCommitted old new lease progress done =
    IsCurrent old.threads lease progress.origin × (¬ IsOver old)
    × IsMade old new lease progress (row_at old lease progress) done

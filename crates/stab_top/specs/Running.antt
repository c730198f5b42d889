-- What a call says of a run.
use Rattle.std.specs.Prelude.{ℕ, Option, Some, option_map}
use Rattle.stab_code.specs.JobParts.{JobParts}
use Rattle.commit_book.specs.Book.{BookView}
use Rattle.call_status.specs.declared.status.Status.{Status}
use Rattle.call_report.specs.declared.report.Made.{Made}
use Rattle.call_report.specs.declared.report.Made.TheVariants as made
use Rattle.call_report.specs.Report.{Leaves, Outcome}
use Rattle.book_runs.specs.Ending as runs
use Rattle.book_runs.specs.Ending.{Writing}

-- The book that a run leaves, if it leaves one, is all that the call made, and nothing is blamed; and the status says how far the
-- run of the job came and what was written.
pub record RunEnds (writes : Writing) (workers : ℕ) (status : Status) (job : JobParts) (o : Outcome) : Type 0 where
  pub left : Option BookView
  pub reported : Leaves o.report (option_map made.Book left)
  pub ends : runs.RunEnds writes workers status job left o.sink o.sink_after

-- if a book was made, this is true of it
abbrev pub IfBook : Option Made → (BookView → Type 0) → Type 0
IfBook (Some (made.Book book)) P = P book
IfBook _ P = Unit {0}

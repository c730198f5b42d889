-- What a call shows of a run by one worker.
use Rattle.std.specs.Prelude.{◌≡◌, Some}
use Rattle.commit_book.specs.Book.{BookView}
use Rattle.schedule_drill.specs.Solo.{IsDrilledByOne}
use Rattle.call_report.specs.Call.{Call}
use Rattle.call_report.specs.declared.report.Made.TheVariants as made
use Rattle.call_report.specs.Report.{Leaves}

-- the events of the book are those of a drill of the same job by lines `lease 1` and `commit 1`
pub record IsDrillOfOne (book : BookView) : Type 0 where
  pub last : BookView
  pub drilled : IsDrilledByOne book.job last
  pub events : last.history.events ≡ book.history.events

-- the call reports such a book
pub record ReportsDrillOfOne (c : Call) : Type 0 where
  pub book : BookView
  pub reported : Leaves c.outcome.report (Some (made.Book book))
  pub drill : IsDrillOfOne book

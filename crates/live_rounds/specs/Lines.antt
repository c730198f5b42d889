-- The lines that were written of a run to which numbers come.
use Rattle.std.specs.Prelude.{◌≡◌, ℕ, List, [], ◌∷◌, ◌++◌}
use Rattle.stab_journal.specs.declared.event.What.TheVariants.{Release}
use Rattle.language.specs.Standing.{event}
use Rattle.commit_book.specs.Book.{BookView, IsShown}
use Rattle.commit_book.specs.Releases.{finals}
use Rattle.book_text.specs.Written.{released_lines}
use Rattle.sink_lines.specs.Device.{Device, Gains, GainsPrefix}

-- The last event is a release. The lines of all releases before it were written, and of its own a prefix, up to a fault of the sink.
pub record IsCutShort (new : BookView) (sink after : Device (List ℕ)) : Type 0 where
  pub last : BookView
  pub between : Device (List ℕ)
  pub shown : IsShown last
  pub job : new.job ≡ last.job
  pub release : new.history.events ≡ last.history.events ++ event 1 (Release (finals last)) ∷ []
  pub so_far : Gains sink between (released_lines last)
  pub lines : List ℕ
  pub more : released_lines new ≡ released_lines last ++ lines
  pub cut : GainsPrefix between after lines

-- What callers see of a book, from what it keeps.
use Rattle.std.specs.Prelude.{◌≡◌, ℕ, ◌+◌, ◌≤◌, cond, nat_lt, count_by, length}
use Rattle.stab_code.specs.JobParts.{JobParts}
use Rattle.stab_code.specs.Program.{ProgramParts}
use Rattle.stab_code.specs.Valid.{IsValid}
use Rattle.stab_journal.specs.Due.{final_prints, released}
use Rattle.stab_journal.specs.Journal.{Journal, survivors}
use Rattle.stab_journal.specs.Script.{probed}
use Rattle.print_log.specs.Log.{values}
use Rattle.commit_book.specs.declared.parts.Parts.{Parts}
use Rattle.commit_book.specs.Book.{BookView, IsShown}
use Rattle.commit_book.specs.Counts.{is_undo, faulted_in}
use Rattle.commit_book.specs.Limits.{most_events}
use Rattle.commit_book.specs.OwnSteps.{IsRead}
use Rattle.commit_book.specs.Printing.{ArePrints}

-- a journal without the room that it has
abbrev pub without_spare : Journal → Journal
without_spare j = record j { spare = 0 }

abbrev pub view_of : JobParts → Parts → BookView
view_of job p = record {
  job = job;
  history = without_spare p.history;
  threads = p.slots.threads;
  queue = p.slots.queue;
  offers = p.offers;
  last_cut = p.log.last_cut;
  references = p.log.references;
  saved = p.store.controls;
  nodes = p.graph.nodes;
  printed = values p.printed;
  next = record { thread = p.slots.next; chan = p.next_chan; ref = p.next_ref };
  answered = record { commits = p.tallies.commits; stale = p.tallies.stale };
}

-- the counts that are kept are those that a walk over events or threads would find
pub record AreTallied (p : ProgramParts) (parts : Parts) : Type 0 where
  pub probes : parts.tallies.probes ≡ length (probed parts.history.events)
  pub finals : parts.tallies.finals ≡ final_prints (survivors parts.history)
  pub released : parts.tallies.released ≡ released parts.history.events
  pub undos : parts.tallies.undos ≡ count_by is_undo parts.history.events
  pub faulted : parts.tallies.faulted ≡ faulted_in p parts.slots.threads parts.slots.next

-- what holds of what is kept
pub record IsKept (job : JobParts) (parts : Parts) : Type 0 where
  pub valid : IsValid job.program
  pub shown : IsShown (view_of job parts)
  pub tallied : AreTallied job.program parts
  pub read : IsRead parts.history parts.rollback
  pub prints : ArePrints parts.history parts.printed

-- one event more where a release is due
abbrev pub owed : Parts → ℕ
owed p = cond (nat_lt p.tallies.released p.tallies.finals) 1 0

-- what holds of every book: of what is kept, and that there is room for the release that is due
pub record IsBook (job : JobParts) (parts : Parts) : Type 0 where
  pub kept : IsKept job parts
  pub short : length parts.history.events + owed parts ≤ most_events

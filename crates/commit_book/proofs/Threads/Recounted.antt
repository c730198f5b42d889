-- What a book shows doesn't depend on how many commits were answered how.
use Rattle.std.proofs.Common.{ℕ, List}
use Rattle.stab_code.specs.JobParts.{JobParts}
use Rattle.stab_journal.specs.declared.event.Numbered.{Numbered}
use Rattle.language.specs.Plain.{PlainState}
use Rattle.commit_book.specs.declared.parts.Parts.{Parts}
use Rattle.commit_book.specs.Book.{Answered, BookView, IsShown, ShowsJournal, ShowsThreads}
use Rattle.commit_book.specs.Layout.{IsKept, view_of}

journal_recounted : (b : BookView) (a : Answered) (run : List Numbered) (s : PlainState) → ShowsJournal b run s → ShowsJournal (record b { answered = a }) run s
journal_recounted b a run s is = record {
  history = is.history;
  script = is.script;
  channels = is.channels;
  writes = is.writes;
  references = is.references;
  printed = is.printed;
  next = is.next;
  few = is.few;
  saved = is.saved;
  saved_fit = is.saved_fit;
  nodes = is.nodes;
}

threads_recounted : (b : BookView) (a : Answered) (s : PlainState) → ShowsThreads b s → ShowsThreads (record b { answered = a }) s
threads_recounted b a s is = record {
  threads = is.threads;
  fit = is.fit;
  generations = is.generations;
  doing = is.doing;
  queue = is.queue;
  offers = is.offers;
  found = is.found;
}

pub shown_recounted : (b : BookView) (a : Answered) → IsShown b → IsShown (record b { answered = a })
shown_recounted b a is = record {
  run = is.run;
  state = is.state;
  shows = record { journal = journal_recounted b a is.run is.state is.shows.journal; threads = threads_recounted b a is.state is.shows.threads };
}

pub kept_recounted : (job : JobParts) (parts : Parts) (commits stale : ℕ) → IsKept job parts → IsKept job (record parts { tallies = record parts.tallies { commits = commits; stale = stale } })
kept_recounted job parts commits stale is = record {
  valid = is.valid;
  shown = shown_recounted (view_of job parts) (record { commits = commits; stale = stale }) is.shown;
  tallied = record {
    probes = is.tallied.probes;
    finals = is.tallied.finals;
    released = is.tallied.released;
    undos = is.tallied.undos;
    faulted = is.tallied.faulted;
  };
  read = is.read;
  prints = is.prints;
}

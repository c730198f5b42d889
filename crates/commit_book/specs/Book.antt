-- A book, and what it shows.
use Rattle.std.specs.Prelude.{◌≡◌, ℕ, Bool, List, [], Option, Some, None, IsSomeAnd, option_and_then}
use Rattle.std.specs.Ordering.{nat_cmp}
use Rattle.std.specs.FinMap as map
use Rattle.std.specs.FinMap.{FinMap}
use Rattle.stab_base.specs.declared.fault.Fault.{Fault}
use Rattle.language.specs.Expression.{Expr, failed}
use Rattle.stab_base.specs.Datum.{Datum}
use Rattle.stab_code.specs.JobParts.{JobParts}
use Rattle.stab_code.specs.Program.{ProgramParts}
use Rattle.stab_journal.specs.declared.event.Numbered.{Numbered}
use Rattle.stab_journal.specs.Journal.{Journal}
use Rattle.stab_journal.specs.Script.{FollowsScript}
use Rattle.thread_slots.specs.Slot.{Slot, started, is_ready_at}
use Rattle.thread_slots.specs.Ready.{IsQueueOf}
use Rattle.rendezvous.specs.declared.offer.Offer.{Offer}
use Rattle.rendezvous.specs.Line.{Seen}
use Rattle.ref_log.specs.Log.{Write}
use Rattle.checkpoint_store.specs.Saved.{place_cmp}
use Rattle.comm_graph.specs.Node.{Node}
use Rattle.language.specs.Plain.{PlainState, effect_of, look_in, start}
use Rattle.language.specs.Standing.{Shows}
use Rattle.step_eval.specs.ControlView.{ControlView, Fits, RedexIsFound, expr_of}
use Rattle.commit_book.specs.Threads.{AreThreads, AllControls}
use Rattle.commit_book.specs.Channels.{AreChannels}
use Rattle.commit_book.specs.References.{AreWrites, HoldValues}
use Rattle.commit_book.specs.Generations.{AreGenerations}
use Rattle.commit_book.specs.Doing.{AreDoing, AllParked, is_over, offer_at}
use Rattle.commit_book.specs.Offers.{AreOffers}
use Rattle.stab_journal.specs.Numbers.{AreNext, AreFew}
use Rattle.commit_book.specs.Saved.{AreSaved, AllSaved}
use Rattle.commit_book.specs.Graph.{AreNodesOf}

-- the numbers that are handed out next
pub record Next : Type 0 where
  pub thread : ℕ
  pub chan : ℕ
  pub ref : ℕ

-- how many commits were answered as made, and how many as stale; both stop at the greatest number of 64 bits
pub record Answered : Type 0 where
  pub commits : ℕ
  pub stale : ℕ

-- a job and its history; the live threads and the ready queue; the channels with their offers; the kept writes of references and
-- the number of the last cut; the saved controls; the nodes of the graph; what was printed; the next numbers; and the counts of
-- answers. Room isn't among it
pub record BookView : Type 0 where
  pub job : JobParts
  pub history : Journal
  pub threads : FinMap nat_cmp (Slot ControlView)
  pub queue : List ℕ
  pub offers : Seen
  pub last_cut : ℕ
  pub references : FinMap nat_cmp (List Write)
  pub saved : FinMap place_cmp ControlView
  pub nodes : List Node
  pub printed : List Datum
  pub next : Next
  pub answered : Answered

module _ (p : ProgramParts) where
  -- whether a control stands for a value or a fault
  abbrev pub over : ControlView → Bool
  over c = is_over (expr_of p c)

  -- what a thread with this control offers, if it does
  abbrev pub offered : ControlView → Option Offer
  offered c = offer_at (look_in p (expr_of p c))

-- what is kept of the run: all but its threads
pub record ShowsJournal (b : BookView) (run : List Numbered) (s : PlainState) : Type 0 where
  -- the history stands for the run and the state, and its probes got the numbers of the script
  pub history : Shows b.job.program b.history run s
  pub script : FollowsScript b.job.script b.history.events
  -- the channels, the references and what was printed are the state's
  pub channels : AreChannels b.offers.lines s
  pub writes : AreWrites (effect_of b.job.program) b.last_cut b.references (start b.job.program) run
  pub references : HoldValues b.references s
  pub printed : b.printed ≡ s.output
  pub next : AreNext b.history.events b.next.thread b.next.chan b.next.ref
  pub few : AreFew b.history.events b.next.thread b.next.chan b.next.ref
  -- what a rollback needs: the controls of the actors of steps above the last cut, and the graph of these steps
  pub saved : AreSaved (expr_of b.job.program) (effect_of b.job.program) b.saved (start b.job.program) run
  pub saved_fit : AllSaved (Fits b.job.program) b.saved
  pub nodes : AreNodesOf b.nodes run

-- the threads, and what follows from where they stand
pub record ShowsThreads (b : BookView) (s : PlainState) : Type 0 where
  -- the live threads are the state's, and their controls fit the program
  pub threads : AreThreads (expr_of b.job.program) b.threads s
  pub fit : AllControls (Fits b.job.program) b.threads
  pub generations : AreGenerations b.threads b.history.events
  -- states, queue and offers; the redex of who waits is found
  pub doing : AreDoing (over b.job.program) (offered b.job.program) b.threads
  pub queue : IsQueueOf (is_ready_at b.threads) b.queue
  pub offers : AreOffers (offered b.job.program) b.threads b.offers
  pub found : AllParked RedexIsFound b.threads

-- the book shows its history, the run of its steps that no undo took away, and the state in which that run ends
pub record ShowsRun (b : BookView) (run : List Numbered) (s : PlainState) : Type 0 where
  pub journal : ShowsJournal b run s
  pub threads : ShowsThreads b s

-- what holds of every book: it shows its history and some run and state, which the history determines
pub record IsShown (b : BookView) : Type 0 where
  pub run : List Numbered
  pub state : PlainState
  pub shows : ShowsRun b run state

-- the book before its first event: thread 1 is as a new thread is, Ready, or Ended where its body is over
pub record IsAtStart (b : BookView) : Type 0 where
  pub events : b.history.events ≡ []
  pub shows : ShowsRun b [] (start b.job.program)
  pub main : IsSomeAnd (map.get b.threads 1) (λ slot. slot ≡ started slot.control (over b.job.program slot.control))
  pub answered : b.answered ≡ record { commits = 0; stale = 0 }

-- the fault that an expression is
abbrev pub failed_with : Expr → Option Fault
failed_with (failed k) = Some k
failed_with e = None

-- with which fault a thread has ended, if it is there and did so with one
abbrev pub fault_at : BookView → ℕ → Option Fault
fault_at b t = option_and_then (λ slot. failed_with (expr_of b.job.program slot.control)) (map.get b.threads t)

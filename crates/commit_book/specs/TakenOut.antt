-- What taking a section back finds, and what it leaves before its event is pushed.
use Rattle.std.specs.Prelude.{◌≡◌, ℕ, ◌-◌, ◌≤◌, cond, not, ◌&&◌, ◌||◌, nat_eq, List, filter, length, None, option_map}
use Rattle.std.specs.List.{IsDistinct}
use Rattle.std.specs.FinMap as map
use Rattle.std.specs.FinSet as set
use Rattle.stab_code.specs.JobParts.{JobParts}
use Rattle.stab_code.specs.Program.{ProgramParts}
use Rattle.stab_code.specs.Valid.{IsValid}
use Rattle.stab_journal.specs.declared.event.Numbered.{Numbered}
use Rattle.stab_journal.specs.Journal.{survivors}
use Rattle.stab_journal.specs.Names.{has}
use Rattle.stab_journal.specs.Reached.{reached}
use Rattle.print_log.specs.Log.{Print}
use Rattle.thread_slots.specs.Ready.{numbers as threads_below}
use Rattle.rendezvous.specs.Line.{Seen}
use Rattle.ref_log.specs.Log.{Write, writes_of}
use Rattle.reach_line.specs.Reached as marks
use Rattle.reach_line.specs.Reached.{AreReached}
use Rattle.restore.specs.Left.{LineMap, is_from, is_touched, put_back, requeued, unmarked, without_all}
use Rattle.restore.specs.Line.{IsLineOf}
use Rattle.language.specs.Plain.{PlainState}
use Rattle.language.specs.Standing.{MayUndo}
use Rattle.step_eval.specs.ControlView.{Fits}
use Rattle.commit_book.specs.declared.parts.Parts.{Parts}
use Rattle.commit_book.specs.Book.{ShowsRun}
use Rattle.commit_book.specs.Counts.{faulted_in, is_faulted_at}
use Rattle.commit_book.specs.Layout.{AreTallied, view_of}
use Rattle.commit_book.specs.OwnSteps.{IsRead, HasRoomToRead}
use Rattle.commit_book.specs.Printing.{ArePrints}
use Rattle.commit_book.specs.Saved.{saved_of}
use Rattle.commit_book.specs.Striking.{makes_any}
use Rattle.commit_book.specs.Threads.{AllControls}

-- the parts show a run in which a thread may take the section entered at m back, these nodes are reached from it, and there is
-- room for what is read
pub record IsUndoing (parts : Parts) (m : ℕ) (qs : List ℕ) : Type 0 where
  pub job : JobParts
  pub valid : IsValid job.program
  pub run : List Numbered
  pub state : PlainState
  pub thread : ℕ
  pub shows : ShowsRun (view_of job parts) run state
  pub may : MayUndo job.program run state thread m
  pub marks : AreReached parts.graph.nodes m qs
  pub tallied : AreTallied job.program parts
  pub few : length parts.history.events ≤ 4294967294
  pub read : IsRead parts.history parts.rollback
  pub prints : ArePrints parts.history parts.printed
  pub room : HasRoomToRead parts.rollback (length parts.history.events) (parts.slots.next - 1)

-- what is reached is struck, with its writes, its channels and its prints; the touched threads are put back or gone; and so many
-- steps were struck
pub record IsTakenOut (old new : Parts) (m removed : ℕ) (qs : List ℕ) : Type 0 where
  pub lines : LineMap
  pub are : (t : ℕ) → IsLineOf old.graph.nodes qs t (map.get lines t)
  -- the steps
  pub gone : List ℕ
  pub same : (k : ℕ) → has gone k ≡ has (reached (survivors old.history) m) k
  pub once : IsDistinct nat_eq gone
  pub count : removed ≡ length gone
  pub events : new.history.events ≡ old.history.events
  pub spare : new.history.spare ≡ old.history.spare
  pub struck : (k : ℕ) → set.contains new.history.struck k ≡ (has gone k || set.contains old.history.struck k)
  -- the threads
  pub threads : (t : ℕ)
      → map.get new.slots.threads t
      ≡ put_back (λ q. saved_of old.store.controls q t) (map.get lines t) (map.get old.slots.threads t)
  pub queue : new.slots.queue ≡ requeued lines old.slots.queue
  pub next : new.slots.next ≡ old.slots.next
  pub faulted : (p : ProgramParts) → IsValid p → AllControls (Fits p) old.slots.threads
      → old.tallies.faulted ≡ faulted_in p old.slots.threads old.slots.next
      → new.tallies.faulted
      ≡ length (threads_below (λ t. is_faulted_at p old.slots.threads t && not (is_touched lines t)) old.slots.next)
  -- the channels: the touched threads withdraw, and then those go whose making is struck
  pub between : Seen
  pub waiting : (c : ℕ) → map.get between.lines c ≡ option_map (without_all (is_touched lines)) (map.get old.offers.lines c)
  pub withdrawn : (t : ℕ) → map.get between.offers t ≡ cond (is_touched lines t) None (map.get old.offers.offers t)
  pub channels : (c : ℕ) → map.get new.offers.lines c ≡ cond (makes_any old.history.events gone c) None (map.get between.lines c)
  pub offers : new.offers.offers ≡ between.offers
  -- the rest
  pub writes : (r : ℕ) → writes_of new.log r ≡ filter (λ (w : Write). not (has gone w.number)) (writes_of old.log r)
  pub last_cut : new.log.last_cut ≡ old.log.last_cut
  pub saved : (k u : ℕ)
      → saved_of new.store.controls k u
      ≡ cond (marks.has k qs || is_from k (map.get lines u)) None (saved_of old.store.controls k u)
  pub nodes : new.graph.nodes ≡ unmarked qs old.graph.nodes
  pub finals : new.printed.finals ≡ old.printed.finals
  pub recent : new.printed.recent ≡ filter (λ (p : Print). not (has gone p.number)) old.printed.recent
  pub chan : new.next_chan ≡ old.next_chan
  pub ref : new.next_ref ≡ old.next_ref
  pub tallies : new.tallies ≡ record old.tallies { faulted = new.tallies.faulted }
  pub read : IsRead new.history new.rollback
  pub all : new.rollback.read ≡ length new.history.events

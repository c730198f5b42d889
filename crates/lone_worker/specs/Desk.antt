-- The desk of a book: what one worker's turns depend on.
use Rattle.std.specs.Prelude.{◌≡◌, ℕ, List, Option, option_map}
use Rattle.std.specs.FinMap as map
use Rattle.stab_code.specs.JobParts.{JobParts}
use Rattle.stab_code.specs.Program.{ProgramParts}
use Rattle.stab_journal.specs.declared.event.Event.{Event}
use Rattle.thread_slots.specs.declared.state.State.{State}
use Rattle.thread_slots.specs.declared.state.State.TheVariants.{Leased}
use Rattle.thread_slots.specs.Slot.{Slot}
use Rattle.rendezvous.specs.Line.{Seen}
use Rattle.language.specs.Expression.{Expr}
use Rattle.step_eval.specs.ControlView.{ControlView, expr_of}
use Rattle.commit_book.specs.Book.{BookView, IsShown, Next}
use Rattle.commit_book.specs.Counts.{in_state}

-- a live thread: where it stands, how often it was put back, and what it is doing
pub record Seat : Type 0 where
  pub stands : Expr
  pub generation : ℕ
  pub state : State

-- the job, the events, the live threads, the queue, who waits in which order and with what, and the next numbers
pub record Desk : Type 0 where
  pub job : JobParts
  pub events : List Event
  pub threads : ℕ → Option Seat
  pub queue : List ℕ
  pub offers : Seen
  pub next : Next

abbrev pub seat_of : ProgramParts → Slot ControlView → Seat
seat_of p slot = record { stands = expr_of p slot.control; generation = slot.generation; state = slot.state }

abbrev pub desk_of : BookView → Desk
desk_of b = record {
  job = b.job;
  events = b.history.events;
  threads = λ t. option_map (seat_of b.job.program) (map.get b.threads t);
  queue = b.queue;
  offers = b.offers;
  next = b.next;
}

-- the book shows its history, and nobody has a lease
pub record IsUnlent (b : BookView) : Type 0 where
  pub shown : IsShown b
  pub free : in_state Leased b ≡ 0

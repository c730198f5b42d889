-- What a commit does, by where its thread stands after its pure steps: the table.
use Rattle.std.specs.Prelude.{ℕ, suc, map as each, cond, nat_eq, is_some, List, [], ◌∷◌, length, slice_get, Option, Some, None, option_to_list}
use Rattle.std.specs.FinMap as map
use Rattle.stab_base.specs.declared.numbers.ThreadId.{ThreadId}
use Rattle.stab_base.specs.declared.numbers.ChanId.{ChanId}
use Rattle.stab_base.specs.declared.numbers.RefId.{RefId}
use Rattle.stab_journal.specs.declared.event.Label.{Label}
use Rattle.stab_journal.specs.declared.event.Label.TheVariants.{Local, Spawn, NewChan, Comm, NewRef, Get, Set, Enter, Cut, Print, Probe, Refuse, Pin, Attempt}
use Rattle.stab_journal.specs.declared.event.Event.{Event}
use Rattle.stab_journal.specs.declared.event.Numbered.{Numbered}
use Rattle.stab_journal.specs.declared.event.What.TheVariants.{Step}
use Rattle.stab_journal.specs.Floor.{is_revocable}
use Rattle.stab_journal.specs.Generation.{generation}
use Rattle.stab_journal.specs.Journal.{survivors}
use Rattle.stab_journal.specs.Script.{probed, script_at}
use Rattle.rendezvous.specs.declared.offer.Offer.{Offer}
use Rattle.rendezvous.specs.declared.offer.Offer.TheVariants as offer
use Rattle.language.specs.Expression.{Expr}
use Rattle.language.specs.Redex.{mark}
use Rattle.language.specs.Standing.{event}
use Rattle.language.specs.Table.{Look, act, spawns, makes_chan, makes_ref, gets, sets, sends, receives, picks, enters, stabilizes, cuts, pins, prints, probes, attempts}
use Rattle.commit_book.specs.Book.{BookView}
use Rattle.commit_book.specs.Offers.{sends_at, receives_at}

pub data Row : Type 0 where
  -- the thread goes on or has ended, by the step of its act, if it stands at one that makes a step
  alone : Option Label → Row
  -- it starts the thread of this number
  starts : ℕ → Row
  -- it meets the thread of this number, by this step
  meets : ℕ → Label → Row
  -- it begins to wait with an offer
  waits : Offer → Row
  -- it waits already, and keeps its place
  stays : Row
  -- it takes the section entered at this number back
  undoes : ℕ → Row

abbrev pub thread : ℕ → ThreadId
thread t = record { 0 = t }

abbrev pub chan : ℕ → ChanId
chan c = record { 0 = c }

abbrev pub ref : ℕ → RefId
ref r = record { 0 = r }

-- the section is taken back where that may be, and else the stabilize is refused
abbrev pub section_row : List Numbered → ℕ → Option ℕ → Row
section_row run t None = alone (Some (Refuse (thread t)))
section_row run t (Some m) = cond (is_revocable run m) (undoes m) (alone (Some (Refuse (thread t))))

-- the thread that waits longest in a line
abbrev pub longest : List ℕ → Option ℕ
longest line = slice_get line 0

module _ (b : BookView) (t : ℕ) where
  abbrev pub stays_or_waits : Offer → Row
  stays_or_waits o = cond (is_some (map.get b.offers.offers t)) stays (waits o)

  -- who sends meets the thread that waits longest to receive there
  abbrev pub sends_to : ℕ → Option ℕ → Row
  sends_to c (Some u) = meets u (Comm (thread t) (thread u) (chan c))
  sends_to c None = stays_or_waits (offer.Send (chan c))

  -- who receives meets the thread that waits longest to send there; a pick looks at its first channel first
  abbrev pub receives_from : ℕ → Option ℕ → Row → Row
  receives_from c (Some u) else_row = meets u (Comm (thread u) (thread t) (chan c))
  receives_from c None else_row = else_row

  -- the row of a thread that stands at e; a new thread, channel or reference has the next number of its kind, and a probe gets
  -- the next number of the script
  abbrev pub row_of : Expr → Look Expr → Row
  row_of e (act (spawns body)) = starts b.next.thread
  row_of e (act makes_chan) = alone (Some (NewChan (thread t) (chan b.next.chan)))
  row_of e (act (makes_ref v)) = alone (Some (NewRef (thread t) (ref b.next.ref)))
  row_of e (act (gets r)) = alone (Some (Get (thread t) (ref r)))
  row_of e (act (sets r v)) = alone (Some (Set (thread t) (ref r)))
  row_of e (act (sends c v)) = sends_to c (longest (receives_at b.offers.lines c))
  row_of e (act (receives c)) = receives_from c (longest (sends_at b.offers.lines c)) (stays_or_waits (offer.Recv (chan c)))
  row_of e (act (picks c d)) =
      receives_from c (longest (sends_at b.offers.lines c))
      (receives_from d (longest (sends_at b.offers.lines d)) (stays_or_waits (offer.Pick (chan c) (chan d))))
  row_of e (act (enters body)) = alone (Some (Enter (thread t)))
  row_of e (act stabilizes) = section_row (survivors b.history) t (mark e)
  row_of e (act cuts) = alone (Some (Cut (thread t)))
  row_of e (act pins) = alone (Some (Pin (thread t)))
  row_of e (act (prints v)) = alone (Some (Print (thread t)))
  row_of e (act probes) = alone (Some (Probe (thread t) (script_at b.job.script (length (probed b.history.events)))))
  row_of e (act attempts) = alone (Some (Attempt (thread t) (generation t b.history.events)))
  row_of e _ = alone None

-- the pure steps are one step, if there are any
abbrev pub local_of : ℕ → ℕ → List Label
local_of t n = cond (nat_eq n 0) [] (Local (thread t) n ∷ [])

-- the events that these steps of a worker are
abbrev pub events_by : ℕ → List Label → List Event
events_by worker labels = each (λ l. event worker (Step l)) labels

-- these steps, numbered from q on
abbrev pub numbered_from : ℕ → List Label → List Numbered
numbered_from q [] = []
numbered_from q (l ∷ ls) = record { seq = record { 0 = q }; label = l } ∷ numbered_from (suc q) ls

-- the step of the act
abbrev pub steps_of : ℕ → Row → List Label
steps_of t (alone l) = option_to_list l
steps_of t (starts u) = Spawn (thread t) (thread u) ∷ []
steps_of t (meets u l) = l ∷ []
steps_of t _ = []

-- who comes to the tail of the queue, in this order, but those that have ended
abbrev pub movers : ℕ → Row → List ℕ
movers t (alone l) = t ∷ []
movers t (starts u) = u ∷ t ∷ []
movers t (meets u l) = u ∷ t ∷ []
movers t _ = []

-- whom the row may change: the thread and those that move, and nobody where the thread keeps its place
abbrev pub may_change : ℕ → Row → List ℕ
may_change t stays = []
may_change t row = t ∷ movers t row

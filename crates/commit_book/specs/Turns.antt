-- Which turn comes next, and what a lease leaves.
use Rattle.std.specs.Prelude.{◌≡◌, ◌≤◌, ℕ, Bool, true, false, ◌&&◌, nat_eq, nat_lt, nat_le, List, [], ◌∷◌, ◌++◌, Some, IsSomeAnd, option_map, if◌then◌else◌}
use Rattle.std.specs.Option.{option_map_or}
use Rattle.std.specs.Ordering.{nat_cmp}
use Rattle.std.specs.FinMap as map
use Rattle.std.specs.FinMap.{FinMap}
use Rattle.linked_lists.specs.Lists.{without}
use Rattle.stab_journal.specs.Due.{due}
use Rattle.stab_journal.specs.Event.{weight_of}
use Rattle.thread_slots.specs.declared.state.State.TheVariants.{Ready, Leased}
use Rattle.thread_slots.specs.Ready.{numbers}
use Rattle.thread_slots.specs.Slot.{Slot, same_state, is_in, changed, recalled}
use Rattle.stab_journal.specs.Journal.{survivors}
use Rattle.language.specs.Plain.{PlainState, end_of, language_of}
use Rattle.language.specs.Quiet.{IsQuiet}
use Rattle.step_eval.specs.ControlView.{ControlView, Fits}
use Rattle.commit_book.specs.declared.turn.Turn.{Turn}
use Rattle.commit_book.specs.declared.turn.Turn.TheVariants.{Work, Idle, Quiet, Spent, Release}
use Rattle.commit_book.specs.declared.turn.Choice.{Choice}
use Rattle.commit_book.specs.declared.turn.Choice.TheVariants as choice
use Rattle.commit_book.specs.Book.{BookView}
use Rattle.commit_book.specs.Counts.{in_state}
use Rattle.commit_book.specs.Leases.{LeaseView}

abbrev pub is_empty : List ℕ → Bool
is_empty [] = true
is_empty (t ∷ ts) = false

-- the front of the queue
abbrev pub first_ready : List ℕ → Choice
first_ready [] = choice.Idle
first_ready (t ∷ ts) = choice.Work (record { 0 = t })

-- Release where something is due; else Quiet where nobody is ready or leased; else Spent where the fuel is used up; else Idle
-- where nobody is ready; else Work
abbrev pub choice_of : BookView → Choice
choice_of b =
    if nat_lt 0 (due b.history.events) then choice.Release
    else (if is_empty b.queue && nat_eq (in_state Leased b) 0 then choice.Quiet
    else (if nat_le b.job.fuel (weight_of b.history.events) then choice.Spent
    else first_ready b.queue))

-- whether a thread is to be lent
abbrev pub Lends : Choice → Type 0
Lends (choice.Work t) = Unit {0}
Lends _ = ⊥

-- the book once the thread t has another state and the queue is this one
abbrev pub requeued : BookView → FinMap nat_cmp (Slot ControlView) → List ℕ → BookView
requeued b threads queue = record b { threads = threads; queue = queue }

-- the lease is the thread's as it is now, and so is the control, which fits the program
pub record IsLeaseOf (b : BookView) (w : ℕ) (l : LeaseView) (c : ControlView) (slot : Slot ControlView) : Type 0 where
  pub worker : l.worker ≡ w
  pub generation : l.generation ≡ slot.generation
  pub control : c ≡ slot.control
  pub fits : Fits b.job.program c

-- the thread becomes Leased and leaves the queue
abbrev pub leased : BookView → ℕ → BookView
leased b t = requeued b (changed b.threads t (λ slot. record slot { state = Leased })) (without t b.queue)

-- the turn is the one that comes next; with Work the front of the queue is lent, and else nothing changes
abbrev pub IsTurn : BookView → BookView → ℕ → Turn → Type 0
IsTurn old new worker (Work lease control) =
    (choice_of old ≡ choice.Work (record { 0 = lease.thread }))
    × IsSomeAnd (map.get old.threads lease.thread) (IsLeaseOf old worker lease control) × (new ≡ leased old lease.thread)
IsTurn old new worker Idle = (choice_of old ≡ choice.Idle) × (new ≡ old)
IsTurn old new worker Quiet = (choice_of old ≡ choice.Quiet) × (new ≡ old)
IsTurn old new worker Spent = (choice_of old ≡ choice.Spent) × (new ≡ old)
IsTurn old new worker Release = (choice_of old ≡ choice.Release) × (new ≡ old)

-- whether the thread t is Leased and of this generation
abbrev pub is_lent : FinMap nat_cmp (Slot ControlView) → ℕ → ℕ → Bool
is_lent threads t generation =
    option_map_or (λ slot. nat_eq slot.generation generation && same_state Leased slot.state) (map.get threads t) false

-- whether the thread still is as it was lent
abbrev pub is_held : BookView → LeaseView → Bool
is_held b lease = is_lent b.threads lease.thread lease.generation

-- a thread that still is as it was lent becomes Ready at the tail of the queue, and else nothing changes
abbrev pub given_back : BookView → LeaseView → BookView
given_back b lease =
    if is_held b lease
    then requeued b (changed b.threads lease.thread (λ slot. record slot { state = Ready }))
    (without lease.thread b.queue ++ lease.thread ∷ [])
    else b

-- each Leased thread becomes Ready at the tail of the queue, in the order of their numbers
pub record IsRecalled (old new : BookView) : Type 0 where
  pub threads : (t : ℕ) → map.get new.threads t ≡ option_map recalled (map.get old.threads t)
  pub queue : new.queue ≡ old.queue ++ numbers (is_in Leased old.threads) old.next.thread
  pub rest : new ≡ requeued old new.threads new.queue

-- a thread was lent
abbrev pub IsWork : Turn → Type 0
IsWork (Work lease control) = Unit {0}
IsWork turn = ⊥

-- no thread can step, in the state that the book shows
abbrev pub CanRest : BookView → Type 0
CanRest b = (s : PlainState) → end_of b.job.program (survivors b.history) ≡ Some s → IsQuiet (language_of b.job.program) s

-- so it is at Quiet
abbrev pub RestsIfQuiet : BookView → Turn → Type 0
RestsIfQuiet b Quiet = CanRest b
RestsIfQuiet b turn = Unit {0}

-- at Spent the fuel is used up, also where somebody has a lease
abbrev pub SpentIfSo : BookView → Turn → Type 0
SpentIfSo b Spent = b.job.fuel ≤ weight_of b.history.events
SpentIfSo b turn = Unit {0}

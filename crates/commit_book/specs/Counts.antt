-- How many threads do what, and how many commits were answered how.
use Rattle.std.specs.Prelude.{◌≡◌, ℕ, ◌+◌, Bool, true, false, count_by, length}
use Rattle.std.specs.Option.{option_map_or}
use Rattle.std.specs.Ordering.{nat_cmp}
use Rattle.std.specs.FinMap as map
use Rattle.std.specs.FinMap.{FinMap}
use Rattle.stab_code.specs.Program.{ProgramParts}
use Rattle.stab_journal.specs.declared.event.Event.{Event}
use Rattle.stab_journal.specs.declared.event.What.{What}
use Rattle.stab_journal.specs.declared.event.What.TheVariants.{Undo}
use Rattle.thread_slots.specs.declared.state.State.{State}
use Rattle.thread_slots.specs.declared.state.State.TheVariants.{Ready, Leased, Parked, Ended}
use Rattle.thread_slots.specs.Slot.{Slot, is_in}
use Rattle.thread_slots.specs.Ready.{numbers}
use Rattle.step_eval.specs.ControlView.{ControlView, expr_of}
use Rattle.commit_book.specs.declared.counts.Counts.{Counts}
use Rattle.commit_book.specs.Book.{BookView}
use Rattle.commit_book.specs.Doing.{is_failed}

-- whether an event is an undo
abbrev pub undoes : What → Bool
undoes (Undo t m) = true
undoes _ = false

abbrev pub is_undo : Event → Bool
is_undo e = undoes e.what

-- whether the thread t is live and failed
abbrev pub is_faulted_at : ProgramParts → FinMap nat_cmp (Slot ControlView) → ℕ → Bool
is_faulted_at p threads t = option_map_or (λ slot. is_failed (expr_of p slot.control)) (map.get threads t) false

-- how many threads below a number failed
abbrev pub faulted_in : ProgramParts → FinMap nat_cmp (Slot ControlView) → ℕ → ℕ
faulted_in p threads n = length (numbers (is_faulted_at p threads) n)

-- how many threads are in a state
abbrev pub in_state : State → BookView → ℕ
in_state state b = length (numbers (is_in state b.threads) b.next.thread)

-- the counts of a book: a thread that has ended did so without a fault or with one
pub record AreCounts (b : BookView) (c : Counts) : Type 0 where
  pub ended : c.ended + c.faulted ≡ in_state Ended b
  pub faulted : c.faulted ≡ faulted_in b.job.program b.threads b.next.thread
  pub parked : c.parked ≡ in_state Parked b
  pub ready : c.ready ≡ in_state Ready b
  pub leased : c.leased ≡ in_state Leased b
  pub commits : c.commits ≡ b.answered.commits
  pub stale : c.stale ≡ b.answered.stale
  pub undos : c.undos ≡ count_by is_undo b.history.events

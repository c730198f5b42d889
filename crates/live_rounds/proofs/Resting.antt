-- A book to which no turn comes.
use Rattle.std.proofs.Common.{◌≡◌, inl, inr, refl, sym, subst}
use Rattle.thread_slots.specs.declared.state.State.TheVariants.{Leased}
use Rattle.commit_book.specs.declared.turn.Turn.TheVariants.{Quiet, Spent}
use Rattle.commit_book.specs.Book.{BookView}
use Rattle.commit_book.specs.Counts.{in_state}
use Rattle.commit_book.specs.Turns.{CanRest, IsTurn}
use Rattle.live_rounds.specs.Going.{IsDone}

pub quiet_done : (old new : BookView) → IsTurn old new 1 Quiet → CanRest old → in_state Leased old ≡ 0 → IsDone new
quiet_done old new turn rests free = subst IsDone (sym turn.1) (inl ((turn.0, refl), rests), free)

pub spent_done : (old new : BookView) → IsTurn old new 1 Spent → in_state Leased old ≡ 0 → IsDone new
spent_done old new turn free = subst IsDone (sym turn.1) (inr (turn.0, refl), free)

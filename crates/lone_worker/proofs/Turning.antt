-- A turn that was made, and one that ended, put together.
use Rattle.std.proofs.Common.{◌≡◌, ◌⊎◌, inl, inr, ℕ, ◌+◌, ◌<◌, ◌≤◌, ◌^◌, true, false, Option, Some, None, refl, ◌∙◌}
use Rattle.std.specs.Prelude.{IfNone, IfSome}
use Rattle.stab_code.specs.Valid.{IsValid}
use Rattle.thread_slots.specs.declared.state.State.TheVariants.{Leased}
use Rattle.step_eval.specs.ControlView.{ControlView}
use Rattle.step_eval.specs.Progress.{ProgressView}
use Rattle.commit_book.specs.declared.done.Done.{Done}
use Rattle.commit_book.specs.declared.done.Done.TheVariants as done
use Rattle.commit_book.specs.Book.{BookView, IsShown}
use Rattle.commit_book.specs.Commits.{IsCommitted}
use Rattle.commit_book.specs.Counts.{in_state}
use Rattle.commit_book.specs.Leases.{LeaseView}
use Rattle.commit_book.specs.Turns.{given_back}
use Rattle.lone_worker.specs.declared.worker.RunEnd.{RunEnd}
use Rattle.lone_worker.specs.declared.worker.RunEnd.TheVariants.{Quiet, Spent, Due, NoMemory}
use Rattle.lone_worker.specs.Running.{IsEndOf, IsLater, IsStopped}
use Rattle.lone_worker.specs.Turn.{IsAdvanced, IsLentAlone, IsWorked, is_made, left_to_do}
use Rattle.lone_worker.proofs.Ending.{Moved, TookBack, current, given_free, given_history, given_job, is_undone, left_later, left_of, moved_of, not_over, same_later}
use Rattle.lone_worker.proofs.Freed.{free}
use Rattle.lone_worker.proofs.FreedUndone.{undone_free}
use Rattle.lone_worker.proofs.Nearing.{nearer}
use Rattle.lone_worker.proofs.NearingUndone.{undone_nearer}

module _ (lent new : BookView) (lease : LeaseView) (progress : ProgressView) (is : IsLentAlone lent lease progress.origin) where
  -- a commit that was made
  pub record IsGoodCommit : Type 0 where
    pub later : IsLater lent new
    pub free : in_state Leased new ≡ 0
    pub worked : IsWorked lent new lease progress.origin
    pub nearer : left_to_do new ≤ left_to_do lent

  module _ (shown : IsShown lent) (shown_new : IsShown new) (advanced : IsAdvanced lent.job progress.origin progress) (d : Done) (made : is_made d ≡ true) (commits : IsCommitted lent new lease progress d) where
    worked : IsWorked lent new lease progress.origin
    worked = record { progress = progress; done = d; advances = advanced; commits = commits; made = made }

    moved_commit : IsValid lent.job.program → 1 ≤ lent.job.quantum → Moved lent new lease progress → IsGoodCommit
    moved_commit valid some m = record {
      later = left_later lent new lease progress is.by_one (inl m);
      free = free lent new lease progress shown shown_new is.held advanced.made _ refl m.undoes_nothing m.moved is;
      worked = worked;
      nearer = nearer lent lease progress.origin progress valid some is advanced new m.moved;
    }

    undone_commit : (last : ℕ) → last + 1 ≡ new.next.thread → last < 2 ^ 32 → TookBack lent new lease progress → IsGoodCommit
    undone_commit last next few back = record {
      later = left_later lent new lease progress is.by_one (inr back);
      free = undone_free lent new lease progress.origin progress.steps back.section shown shown_new is back.taken;
      worked = worked;
      nearer = undone_nearer lent new lease progress.origin progress.steps back.section shown_new is last next few back.taken;
    }

    -- a commit that took no section back, and one that did
    pub committed : IsValid lent.job.program → 1 ≤ lent.job.quantum → is_undone d ≡ false → IsGoodCommit
    committed valid some plain = moved_commit valid some (moved_of lent new lease progress d made plain commits)

    pub committed_undo : IsValid lent.job.program → 1 ≤ lent.job.quantum → (last : ℕ) → last + 1 ≡ new.next.thread → last < 2 ^ 32 → IsGoodCommit
    committed_undo valid some last next few = by (left_of lent new lease progress d made commits)
      where
        by : Moved lent new lease progress ⊎ TookBack lent new lease progress → IsGoodCommit
        by (inl m) = moved_commit valid some m
        by (inr back) = undone_commit last next few back

  -- no commit comes too late, and the book takes it
  pub never_stale : (g : _) (now : _) → IsCommitted lent new lease progress (done.Stale g now) → ⊥
  never_stale g now commits = commits.0 (current lent lease progress.origin is)

  pub never_over : (w : ℕ) → IsCommitted lent new lease progress (done.Over w) → ⊥
  never_over w commits = not_over lent lease progress.origin is commits.1

-- the lease was given back
pub record IsGivenBack (lent new : BookView) : Type 0 where
  pub later : IsLater lent new
  pub free : in_state Leased new ≡ 0
  pub history : new.history ≡ lent.history

pub gave_back : (lent new : BookView) (lease : LeaseView) (control : ControlView) → IsLentAlone lent lease control → new ≡ given_back lent lease → IsGivenBack lent new
gave_back lent new lease control is left =
    let history = given_history lent lease control is new left in
    record { later = same_later lent new (given_job lent lease control is new left) history; free = given_free lent lease control is new left; history = history }

-- ---- a turn, from what was lent

pub by_none : {T : Type 0} (o : Option T) (P Q : Type 0) → (P → Q) → IfNone o P → IfNone o Q
by_none None P Q f h = f h
by_none (Some x) P Q f h = tt

pub by_some : {T : Type 0} (o : Option T) (P Q : T → Type 0) → ((x : T) → P x → Q x) → IfSome o P → IfSome o Q
by_some None P Q f h = tt
by_some (Some x) P Q f h = f x h

pub stopped : (end : RunEnd) (old lent new : BookView) → lent.history ≡ old.history → IsStopped end lent new → IsEndOf end old new
stopped NoMemory old lent new same is = is ∙ same
stopped Quiet old lent new same is = absurd is
stopped Spent old lent new same is = absurd is
stopped Due old lent new same is = absurd is

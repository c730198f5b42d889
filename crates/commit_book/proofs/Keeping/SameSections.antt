-- The pure steps of a commit leave which sections can be taken back.
use Rattle.std.proofs.Common.{◌≡◌, ℕ, ◌+◌, Bool, true, false, cond, nat_eq, List, [], ◌∷◌, ◌++◌, length, Option, Some, None, refl, sym, ap, subst, ◌∙◌, append-nil}
use Rattle.stab_code.specs.JobParts.{JobParts}
use Rattle.stab_journal.specs.declared.event.Label.TheVariants.{Local}
use Rattle.stab_journal.specs.declared.event.Numbered.{Numbered}
use Rattle.stab_journal.specs.Floor.{floor, is_mark_revocable, is_revocable}
use Rattle.stab_journal.specs.Journal.{Journal, RiseFrom, survivors}
use Rattle.step_eval.specs.ControlView.{expr_of}
use Rattle.step_eval.specs.Progress.{ProgressView}
use Rattle.journal_laws.proofs.Undone.{stands_run}
use Rattle.commit_book.specs.declared.parts.Parts.{Parts}
use Rattle.commit_book.specs.Acting.{AreAsBefore, IsLonger, MayAct}
use Rattle.commit_book.specs.Layout.{view_of}
use Rattle.commit_book.specs.Leases.{LeaseView}
use Rattle.commit_book.specs.Rows.{local_of, numbered_from, thread}
use Rattle.commit_book.specs.Undoing.{begun}
use Rattle.commit_book.proofs.Keeping.Floors.{floor_snoc}
use Rattle.commit_book.proofs.Keeping.KeptLocal.{IsReady}
use Rattle.commit_book.proofs.Acting.SingleActs.{ready_at}
use Rattle.commit_book.proofs.Undoing.UndoneLocal.{revocable_more}

-- so many pure steps behind a run
pub local_more : (run : List Numbered) (q t n m : ℕ) → RiseFrom 1 (run ++ numbered_from q (local_of t n)) → is_revocable (run ++ numbered_from q (local_of t n)) m ≡ is_revocable run m
local_more run q t n m rise = by (nat_eq n 0) rise
  where
    by : (b : Bool) → RiseFrom 1 (run ++ numbered_from q (cond b [] (Local (thread t) n ∷ []))) → is_revocable (run ++ numbered_from q (cond b [] (Local (thread t) n ∷ []))) m ≡ is_revocable run m
    by true rise = ap (λ (r : List Numbered). is_revocable r m) (append-nil run)
    by false rise = revocable_more run (record { seq = record { 0 = q }; label = Local (thread t) n }) m rise refl refl refl

-- and the last cut is the same
pub floor_more : (run : List Numbered) (q t n : ℕ) → floor (run ++ numbered_from q (local_of t n)) ≡ floor run
floor_more run q t n = by (nat_eq n 0)
  where
    by : (b : Bool) → floor (run ++ numbered_from q (cond b [] (Local (thread t) n ∷ []))) ≡ floor run
    by true = ap floor (append-nil run)
    by false = floor_snoc 0 run (record { seq = record { 0 = q }; label = Local (thread t) n }) refl

module _ (job : JobParts) (old : Parts) (lease : LeaseView) (progress : ProgressView) (may : MayAct job old lease progress) (planned begins : Parts) (before : AreAsBefore old planned) (longer : IsLonger planned.history begins.history lease.worker (local_of lease.thread progress.steps)) (rest : begins ≡ record planned { history = begins.history }) where
  abbrev ready : IsReady (view_of job old) (view_of job begins) may.kept.shown.state (thread lease.thread) (expr_of job.program progress.end)
  ready = ready_at job old lease progress may planned begins before longer rest

  -- the run with the pure steps
  pub ready_run : ready.run ≡ begun (view_of job old) lease.thread progress.steps
  ready_run =
      sym ready.journal.history.left ∙ longer.survivors
      ∙ ap (λ (j : Journal). survivors j ++ numbered_from (length j.events + 1) (local_of lease.thread progress.steps)) before.history

  ready_rises : RiseFrom 1 (begun (view_of job old) lease.thread progress.steps)
  ready_rises = subst (RiseFrom 1) ready_run (stands_run job.program begins.history.events ready.run ready.state ready.journal.history.stands).1.rises

  pub same_revocable : (m : ℕ) → is_revocable ready.run m ≡ is_revocable (survivors old.history) m
  same_revocable m = ap (λ (r : List Numbered). is_revocable r m) ready_run ∙ local_more (survivors old.history) (length old.history.events + 1) lease.thread progress.steps m ready_rises

  pub same_sections : (m : Option ℕ) → is_mark_revocable (survivors old.history) m ≡ is_mark_revocable ready.run m
  same_sections None = refl
  same_sections (Some m) = sym (same_revocable m)

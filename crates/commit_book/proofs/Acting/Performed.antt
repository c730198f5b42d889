-- What a commit does, by what is asked of its thread.
use Rattle.std.proofs.Common.{◌≡◌, ℕ, Bool, true, false, List, None, refl, sym, subst}
use Rattle.std.specs.Prelude.{Err, IfErr, IfOk, Ok, OnErr, OnOk, Result}
use Rattle.std.proofs.lemmas.Bool.{false≢true}
use Rattle.stab_code.specs.JobParts.{JobParts}
use Rattle.stab_journal.specs.declared.event.Numbered.{Numbered}
use Rattle.step_eval.specs.declared.act.Act.{Act}
use Rattle.step_eval.specs.declared.act.Act.TheVariants as own
use Rattle.step_eval.specs.Progress.{ProgressView}
use Rattle.commit_book.specs.declared.done.Outcome.TheVariants as outcome
use Rattle.commit_book.specs.declared.parts.Parts.{Parts}
use Rattle.commit_book.specs.Acting.{IsDone, IsDoneBy, IsPerformed, StandsAt, IsOutcomeOf, is_simple, offer_of, row_by}
use Rattle.commit_book.specs.Book.{BookView}
use Rattle.commit_book.specs.Commits.{IsMoved, row_at}
use Rattle.commit_book.specs.Layout.{view_of}
use Rattle.commit_book.specs.Leases.{LeaseView}
use Rattle.commit_book.specs.Rows.{Row, alone, starts, meets}
use Rattle.commit_book.specs.Undoing.{begun}
use Rattle.commit_book.proofs.Acting.Rowing.{row_simple}

-- ---- which act it is

-- an act that is on no channel, and no stabilize
pub simple_left : (a : Act) → offer_of a ≡ None → (a ≡ own.Stabilize → ⊥) → is_simple a ≡ true
simple_left (own.Send c) none unstable = absurd (cc)
simple_left (own.Recv c) none unstable = absurd (cc)
simple_left (own.Pick c d) none unstable = absurd (cc)
simple_left own.Stabilize none unstable = absurd (unstable refl)
simple_left _ none unstable = refl

-- a row by which the thread goes on
abbrev pub goes_on : Row → Bool
goes_on (alone l) = true
goes_on (starts u) = true
goes_on (meets u l) = true
goes_on _ = false

simple_goes : (b : BookView) (t : ℕ) (a : Act) → is_simple a ≡ true → goes_on (row_by b t a) ≡ true
simple_goes b t (own.Spawn f) h = refl
simple_goes b t own.NewChan h = refl
simple_goes b t own.NewRef h = refl
simple_goes b t (own.Get r) h = refl
simple_goes b t (own.Set r) h = refl
simple_goes b t (own.Enter f) h = refl
simple_goes b t own.Cut h = refl
simple_goes b t own.Pin h = refl
simple_goes b t own.Print h = refl
simple_goes b t own.Probe h = refl
simple_goes b t own.Attempt h = refl
simple_goes b t _ h = absurd (false≢true h)

-- ---- what became of the thread

taken_by : (old new : BookView) (lease : LeaseView) (progress : ProgressView) (row : Row) → goes_on row ≡ true → IsMoved old new lease.worker lease.thread progress.steps row → IsDoneBy old new lease progress row
taken_by old new lease progress (alone l) goes is = is
taken_by old new lease progress (starts u) goes is = is
taken_by old new lease progress (meets u l) goes is = is
taken_by old new lease progress _ goes is = absurd (false≢true goes)

taken_as : (run : List Numbered) (row : Row) → goes_on row ≡ true → IsOutcomeOf run row outcome.Taken
taken_as run (alone l) goes = refl
taken_as run (starts u) goes = refl
taken_as run (meets u l) goes = refl
taken_as run _ goes = absurd (false≢true goes)

module _ (job : JobParts) (old : Parts) (lease : LeaseView) (progress : ProgressView) where
  pub performed_as : (new : Parts) (row : Row) → row_at (view_of job old) lease progress ≡ row → goes_on row ≡ true → IsDone job old new lease progress row → IsPerformed job old new lease progress outcome.Taken
  performed_as new row at goes is = record {
    becomes = subst (λ (r : Row). IsOutcomeOf (begun (view_of job old) lease.thread progress.steps) r outcome.Taken) (sym at) (taken_as (begun (view_of job old) lease.thread progress.steps) row goes);
    done = subst (λ (r : Row). IsDoneBy (view_of job old) (view_of job new) lease progress r) (sym at) (taken_by (view_of job old) (view_of job new) lease progress row goes is);
  }

  pub simple_performed : (new : Parts) (a : Act) → StandsAt job.program progress.end a → is_simple a ≡ true → IsDone job old new lease progress (row_by (view_of job old) lease.thread a) → IsPerformed job old new lease progress outcome.Taken
  simple_performed new a at simple is =
      performed_as new (row_by (view_of job old) lease.thread a) (row_simple (view_of job old) lease progress a at simple) (simple_goes (view_of job old) lease.thread a simple) is

-- ---- where an answer is passed on

pub still_ok : {A E : Type 0} (P Q : Type 0) (r : Result A E) → (P → Q) → OnOk r P → OnOk r Q
still_ok P Q (Ok a) f h = f h
still_ok P Q (Err e) f h = tt

module _ {A B E : Type 0} (r : Result A E) (s : Result B E) (b : B) (ok : OnOk r (s ≡ Ok b)) (err : IfErr r (λ e. s ≡ Err e)) where
  pub on_done : (P : B → Type 0) → OnOk r (P b) → IfOk s P
  on_done P h = by r ok err h
    where
      by : (k : Result A E) → OnOk k (s ≡ Ok b) → IfErr k (λ e. s ≡ Err e) → OnOk k (P b) → IfOk s P
      by (Ok a) is refused at = subst (λ (x : Result B E). IfOk x P) (sym is) at
      by (Err e) taken is at = subst (λ (x : Result B E). IfOk x P) (sym is) tt

  pub on_back : (P : E → Type 0) → IfErr r P → IfErr s P
  on_back P h = by r ok err h
    where
      by : (k : Result A E) → OnOk k (s ≡ Ok b) → IfErr k (λ e. s ≡ Err e) → IfErr k P → IfErr s P
      by (Ok a) is refused at = subst (λ (x : Result B E). IfErr x P) (sym is) tt
      by (Err e) taken is at = subst (λ (x : Result B E). IfErr x P) (sym is) at

  pub on_refusal : (P : Type 0) → OnErr r P → OnErr s P
  on_refusal P h = by r ok err h
    where
      by : (k : Result A E) → OnOk k (s ≡ Ok b) → IfErr k (λ e. s ≡ Err e) → OnErr k P → OnErr s P
      by (Ok a) is refused at = subst (λ (x : Result B E). OnErr x P) (sym is) tt
      by (Err e) taken is at = subst (λ (x : Result B E). OnErr x P) (sym is) at

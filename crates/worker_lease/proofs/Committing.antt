-- A commit of a desk, and a lease that is given back.
use Rattle.std.proofs.Common.{◌≡◌, ℕ, suc, ◌+◌, Bool, true, false, List, [], ◌∷◌, ◌++◌, length, Result, Ok, Err, refl, sym, ap, subst, ◌∙◌, append_assoc, length-append, arith}
use Rattle.std.specs.Prelude.{if◌then◌else◌, IfErr, IfOk, OnErr}
use Rattle.std.specs.List.{AllByRecursion}
use Rattle.std.proofs.lemmas.List.{append-nil as nil_behind}
use Rattle.stab_base.specs.declared.numbers.Seq.{Seq}
use Rattle.stab_journal.specs.declared.event.Event.{Event}
use Rattle.stab_journal.specs.declared.event.Label.{Label}
use Rattle.step_eval.specs.Progress.{ProgressView}
use Rattle.commit_book.specs.declared.done.Done.{Done}
use Rattle.commit_book.specs.declared.done.Done.TheVariants.{Taken, Parked, Undone, Stale, Over}
use Rattle.commit_book.specs.declared.done.CommitRefused.{CommitRefused}
use Rattle.commit_book.specs.Book.{BookView, IsShown}
use Rattle.commit_book.specs.Commits.{IsAnsweredBy, IsCommitted, IsCurrent, IsLeftBy, IsMoved, IsOver, commit_counted, pushed, row_at}
use Rattle.commit_book.specs.Leases.{LeaseView}
use Rattle.commit_book.specs.Rows.{Row, alone, starts, meets, waits, stays, undoes, events_by, local_of, steps_of}
use Rattle.commit_book.specs.Step.{next_seq}
use Rattle.commit_book.specs.Turns.{given_back, is_held}
use Rattle.commit_book.specs.Undoing.{undo_by}
use Rattle.turn_floor.specs.Counts.{once, risen}
use Rattle.turn_floor.specs.Served.{Tells}
use Rattle.worker_lease.specs.declared.ask.DeskAsk.TheVariants as ask
use Rattle.worker_lease.specs.declared.ask.DeskAnswer.TheVariants as answer
use Rattle.worker_lease.specs.Asks.{under}
use Rattle.worker_lease.specs.Releases.{AreByOne, is_release}
use Rattle.worker_lease.specs.Serving.{IsServing}
use Rattle.worker_lease.specs.Telling.{made, told_done}
use Rattle.worker_lease.proofs.Adding.{adds_none, history_of, still_by_one, tells_no_release}

-- ---- a lease that is given back

module _ (old : BookView) (lease : LeaseView) where
  record IsAsBefore (new : BookView) : Type 0 where
    job : new.job ≡ old.job
    history : new.history ≡ old.history
    answered : new.answered ≡ old.answered

  back_by : (b : Bool) (there : BookView) → IsAsBefore there → IsAsBefore (if b then there else old)
  back_by true there is = is
  back_by false there is = record { job = refl; history = refl; answered = refl }

  gives : (new : BookView) → new ≡ given_back old lease → IsAsBefore new
  gives new is = subst IsAsBefore (sym is) (back_by (is_held old lease) _ (record { job = refl; history = refl; answered = refl }))

pub gave_back : (old new : BookView) (worker : ℕ) (lease : LeaseView) → new ≡ given_back old lease → IsShown new → AreByOne old.history.events → IsServing worker (ask.GiveBack lease) answer.Given old new
gave_back old new worker lease is shown by_one =
    let b = gives old lease new is in
    adds_none worker (ask.GiveBack lease) answer.Given old new is refl b.job b.history b.answered shown by_one tt

-- ---- the events of a commit

record AreAdded (worker count : ℕ) (old new : BookView) : Type 0 where
  added : List Event
  is : new.history.events ≡ old.history.events ++ added
  by : AllByRecursion (λ (e : Event). e.worker ≡ worker) added
  plain : AllByRecursion (λ (e : Event). is_release e.what ≡ false) added
  many : count ≡ length added
  job : new.job ≡ old.job
  commits : new.answered.commits ≡ risen 1 old.answered.commits
  stale : new.answered.stale ≡ old.answered.stale

by_labels : (w : ℕ) (ls : List Label) → AllByRecursion (λ (e : Event). e.worker ≡ w) (events_by w ls)
by_labels w [] = tt
by_labels w (l ∷ ls) = (refl, by_labels w ls)

plain_labels : (w : ℕ) (ls : List Label) → AllByRecursion (λ (e : Event). is_release e.what ≡ false) (events_by w ls)
plain_labels w [] = tt
plain_labels w (l ∷ ls) = (refl, plain_labels w ls)

many_labels : (w : ℕ) (ls : List Label) → length (events_by w ls) ≡ length ls
many_labels w [] = refl
many_labels w (l ∷ ls) = ap suc (many_labels w ls)

both : (P : Event → Type 0) (xs ys : List Event) → AllByRecursion P xs → AllByRecursion P ys → AllByRecursion P (xs ++ ys)
both P [] ys h k = k
both P (x ∷ xs) ys h k = (h.0, both P xs ys h.1 k)

module _ (old new : BookView) (lease : LeaseView) (progress : ProgressView) where
  abbrev labels : Row → List Label
  labels row = local_of lease.thread progress.steps ++ steps_of lease.thread row

  moved : (row : Row) → IsMoved old (record new { answered = old.answered }) lease.worker lease.thread progress.steps row → new.answered ≡ commit_counted old
      → AreAdded lease.worker (pushed lease progress row) old new
  moved row is answered = record {
    added = events_by lease.worker (labels row);
    is = ap (λ j. j.events) is.history;
    by = by_labels lease.worker (labels row);
    plain = plain_labels lease.worker (labels row);
    many = sym (many_labels lease.worker (labels row));
    job = is.job;
    commits = ap (λ a. a.commits) answered;
    stale = ap (λ a. a.stale) answered;
  }

  took_back : (m : ℕ) → IsLeftBy old new lease progress (undoes m) → AreAdded lease.worker (pushed lease progress (undoes m) + 1) old new
  took_back m left =
      let ls = local_of lease.thread progress.steps in
      let w = lease.worker in
      let last : List Event = undo_by w lease.thread m ∷ [] in
      record {
        added = events_by w ls ++ last;
        is = left.0.events ∙ append_assoc old.history.events (events_by w ls) last;
        by = both (λ (e : Event). e.worker ≡ w) (events_by w ls) last (by_labels w ls) (refl, tt);
        plain = both (λ (e : Event). is_release e.what ≡ false) (events_by w ls) last (plain_labels w ls) (refl, tt);
        many = let a = length-append ls [] in let b = length-append (events_by w ls) last in let c = many_labels w ls in omega (arith, a, b, c);
        job = left.0.job;
        commits = ap (λ a. a.commits) left.1;
        stale = ap (λ a. a.stale) left.1;
      }

  -- what a commit that was made tells of
  record IsTold (done : Done) : Type 0 where
    first : Seq
    count : ℕ
    first_is : first.0 ≡ next_seq old
    told_is : told_done done ≡ made first count
    added : AreAdded lease.worker count old new

  abbrev first : Seq
  first = record { 0 = next_seq old }

  told_as : (done : Done) (d : Done) (row : Row) → done ≡ d → told_done d ≡ made first (pushed lease progress row) → AreAdded lease.worker (pushed lease progress row) old new → IsTold done
  told_as done d row is tells added = record { first = first; count = pushed lease progress row; first_is = refl; told_is = ap told_done is ∙ tells; added = added }

  told_undo : (m : ℕ) (done : Done) → IsAnsweredBy old lease progress (undoes m) done → IsLeftBy old new lease progress (undoes m) → IsTold done
  told_undo m (Undone q count mark removed marks) is left = record { first = q; count = count; first_is = is.0; told_is = refl; added = subst (λ n. AreAdded lease.worker n old new) (sym is.1) (took_back m left) }
  told_undo m (Taken q count) is left = absurd is
  told_undo m (Parked q count) is left = absurd is
  told_undo m (Stale g now) is left = absurd is
  told_undo m (Over w) is left = absurd is

  told_row : (row : Row) (done : Done) → IsAnsweredBy old lease progress row done → IsLeftBy old new lease progress row → IsTold done
  told_row (undoes m) done is left = told_undo m done is left
  told_row (alone l) done is left = told_as done _ (alone l) is refl (moved (alone l) left.0 left.1)
  told_row (starts u) done is left = told_as done _ (starts u) is refl (moved (starts u) left.0 left.1)
  told_row (meets u l) done is left = told_as done _ (meets u l) is refl (moved (meets u l) left.0 left.1)
  told_row (waits o) done is left = told_as done _ (waits o) is refl (moved (waits o) left.0 left.1)
  told_row stays done is left = told_as done _ stays is refl (moved stays left.0 left.1)

-- ---- the commit

module _ (old new : BookView) (worker : ℕ) (lease : LeaseView) (progress : ProgressView) (shown : IsShown new) (by_one : AreByOne old.history.events) where
  abbrev mine : LeaseView
  mine = under worker lease

  making : (done : Done) → IsCommitted old new mine progress done → IsTold old new mine progress done → IsServing worker (ask.Commit lease progress) (answer.Done (Ok done)) old new
  making done is t =
      let a = t.added in
      let tells : Tells (told_done done) old.history.events new.history.events =
      subst (λ x. Tells x old.history.events new.history.events) (sym t.told_is)
      (let l = ap length a.is ∙ length-append old.history.events a.added in let m = a.many in omega (arith, l, m), λ some. t.first_is)
      in
      record {
        serves = is;
        job = a.job;
        adds = (a.added, a.is, a.by);
        tells = tells;
        commits = a.commits ∙ ap (λ x. risen (once x.committed) old.answered.commits) (sym t.told_is);
        stale = a.stale ∙ ap (λ x. risen (once x.stale) old.answered.stale) (sym t.told_is);
        fits = (
          history_of new shown (subst AreByOne (sym a.is) (still_by_one old.history.events a.added a.plain by_one)),
          tells_no_release (told_done done) old.history.events a.added new.history.events a.is tells a.plain,
        );
      }

  pub committed : (r : Result Done CommitRefused) → IfOk r (IsCommitted old new mine progress) → IfErr r (λ refused. (refused.lease ≡ mine) × (refused.progress ≡ progress))
      → OnErr r (new ≡ old) → OnErr r (IsCurrent old.threads mine progress.origin × (¬ IsOver old)) → IsServing worker (ask.Commit lease progress) (answer.Done r) old new
  committed (Ok (Taken q count)) is back left memory = making (Taken q count) is (told_row old new mine progress (row_at old mine progress) (Taken q count) is.2.answer is.2.left)
  committed (Ok (Parked q count)) is back left memory = making (Parked q count) is (told_row old new mine progress (row_at old mine progress) (Parked q count) is.2.answer is.2.left)
  committed (Ok (Undone q count mark removed marks)) is back left memory = making (Undone q count mark removed marks) is (told_row old new mine progress (row_at old mine progress) (Undone q count mark removed marks) is.2.answer is.2.left)
  committed (Ok (Stale g now)) is back left memory =
      let same = is.1.counted_once in
      let events : new.history.events ≡ old.history.events = ap (λ (b : BookView). b.history.events) same in
      record {
        serves = is;
        job = ap (λ (b : BookView). b.job) same;
        adds = ([], events ∙ sym (nil_behind old.history.events), tt);
        tells = (let e = ap length events in omega (arith, e), λ some. absurd (omega (arith, some)));
        commits = ap (λ (b : BookView). b.answered.commits) same;
        stale = ap (λ (b : BookView). b.answered.stale) same;
        fits = (history_of new shown (subst AreByOne (sym events) by_one), tt);
      }
  committed (Ok (Over w)) is back left memory =
      let b = gives old mine new is.3 in
      adds_none worker (ask.Commit lease progress) (answer.Done (Ok (Over w))) old new is refl b.job b.history b.answered shown by_one tt
  committed (Err refused) is back left memory =
      adds_none worker (ask.Commit lease progress) (answer.Done (Err refused)) old new (left, back.0, back.1, memory.0, memory.1) refl (ap (λ (b : BookView). b.job) left) (ap (λ (b : BookView). b.history) left) (ap (λ (b : BookView). b.answered) left) shown by_one tt

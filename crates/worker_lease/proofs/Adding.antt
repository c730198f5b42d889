-- What a call adds to a history.
use Rattle.std.proofs.Common.{◌≡◌, ℕ, suc, ◌+◌, true, false, List, [], ◌∷◌, ◌++◌, length, refl, sym, ap, subst, ◌∙◌, append-nil, arith}
use Rattle.std.specs.List.{AllByRecursion}
use Rattle.stab_journal.specs.declared.event.Event.{Event}
use Rattle.commit_book.specs.Book.{BookView, IsShown}
use Rattle.turn_floor.specs.declared.kept.Told.{Told}
use Rattle.turn_floor.specs.Counts.{once, risen}
use Rattle.turn_floor.specs.Served.{Adds, Tells, recorded, told_events}
use Rattle.turn_floor.proofs.Histories.{told_new}
use Rattle.worker_lease.specs.declared.ask.DeskAsk.{DeskAsk}
use Rattle.worker_lease.specs.declared.ask.DeskAnswer.{DeskAnswer}
use Rattle.worker_lease.specs.Answers.{IsHistoryOf, Says}
use Rattle.worker_lease.specs.Asks.{IsServed}
use Rattle.worker_lease.specs.Releases.{AreByOne, HasNoRelease, is_release}
use Rattle.worker_lease.specs.Serving.{IsServing}
use Rattle.worker_lease.specs.Telling.{nothing, told}

pub history_of : (b : BookView) → IsShown b → AreByOne b.history.events → IsHistoryOf b.job b.history.events
history_of b shown by_one = record { book = b; shown = shown; of_job = refl; has = refl; by_one = by_one }

-- nothing was added
pub adds_nothing : (worker : ℕ) (before after : List Event) → after ≡ before → Adds worker before after
adds_nothing worker before after same = ([], same ∙ sym (append-nil before), tt)

pub tells_nothing : (before after : List Event) → after ≡ before → Tells nothing before after
tells_nothing before after same = let e : length after ≡ length before = ap length same in (omega (arith, e), λ some. absurd (omega (arith, some)))

-- a call that adds nothing, and counts no answer
pub adds_none : (worker : ℕ) (a : DeskAsk) (b : DeskAnswer) (old new : BookView) → IsServed old worker a b new → told b ≡ nothing → new.job ≡ old.job → new.history ≡ old.history
    → new.answered ≡ old.answered → IsShown new → AreByOne old.history.events → Says new.job new.history.events b → IsServing worker a b old new
adds_none worker a b old new served tells job history answered shown by_one says =
    let events : new.history.events ≡ old.history.events = ap (λ j. j.events) history in
    record {
      serves = served;
      job = job;
      adds = adds_nothing worker old.history.events new.history.events events;
      tells = subst (λ t. Tells t old.history.events new.history.events) (sym tells) (tells_nothing old.history.events new.history.events events);
      commits = ap (λ a. a.commits) answered ∙ ap (λ (t : Told). risen (once t.committed) old.answered.commits) (sym tells);
      stale = ap (λ a. a.stale) answered ∙ ap (λ (t : Told). risen (once t.stale) old.answered.stale) (sym tells);
      fits = (history_of new shown (subst AreByOne (sym events) by_one), says);
    }

-- events that aren't releases leave releases worker 1's
pub still_by_one : (before new : List Event) → AllByRecursion (λ (e : Event). is_release e.what ≡ false) new → AreByOne before → AreByOne (before ++ new)
still_by_one [] [] none by_one = tt
still_by_one [] (e ∷ es) none by_one = (λ is. absurd (other is), still_by_one [] es none.1 tt)
  where
    other : is_release e.what ≡ true → ⊥
    other is = let both : true ≡ false = sym is ∙ none.0 in absurd (cc)
still_by_one (b ∷ bs) new none by_one = (by_one.0, still_by_one bs new none by_one.1)

-- what is told of them isn't one
no_release : (q : ℕ) (new : List Event) → AllByRecursion (λ (e : Event). is_release e.what ≡ false) new → HasNoRelease (recorded q new)
no_release q [] none = tt
no_release q (e ∷ es) none = (none.0, no_release (suc q) es none.1)

pub tells_no_release : (t : Told) (before new after : List Event) → after ≡ before ++ new → Tells t before after → AllByRecursion (λ (e : Event). is_release e.what ≡ false) new → HasNoRelease (told_events t after)
tells_no_release t before new after is tells none = subst HasNoRelease (sym (told_new t before new after is tells)) (no_release (1 + length before) new none)

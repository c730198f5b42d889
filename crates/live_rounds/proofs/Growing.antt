-- A history to which worker 1 adds events between two rounds.
use Rattle.std.proofs.Common.{◌≡◌, inr, ℕ, suc, ◌+◌, ◌≤◌, Bool, true, false, cond, nat_eq, List, [], ◌∷◌, ◌++◌, length, take, refl, sym, ap, subst, ◌∙◌, append-nil, append_assoc, arith}
use Rattle.std.specs.List.{AllByRecursion}
use mathlib.Core.List.{IsPrefix}
use Rattle.stab_base.specs.Datum.{Datum}
use Rattle.stab_code.specs.JobParts.{JobParts}
use Rattle.stab_journal.specs.declared.event.Event.{Event}
use Rattle.stab_journal.specs.declared.event.Recorded.{Recorded}
use Rattle.stab_journal.specs.Own.{own, own_at, own_from}
use Rattle.stab_journal.proofs.Reading.{own_from-append}
use Rattle.stab_journal.specs.Due.{released}
use Rattle.language.specs.Shown.{value_lines}
use Rattle.commit_book.specs.Book.{BookView, IsShown}
use Rattle.book_text.specs.Written.{released_lines}
use Rattle.turn_floor.specs.Served.{Adds, AreOf}
use Rattle.turn_floor.proofs.Histories.{named_more}
use Rattle.worker_lease.specs.Answers.{IsHistoryOf}
use Rattle.worker_lease.specs.Releases.{AreByOne, is_release, own_releases, released_text}
use Rattle.worker_lease.proofs.Asking.{releases, releases_append}
use Rattle.worker_lease.proofs.Adding.{history_of}
use Rattle.worker_lease.proofs.Released.{text_stays}
use Rattle.worker_lease.proofs.Releasing.{printed_is}
use Rattle.live_rounds.specs.Rounds.{IsOf, IsRound}

-- ---- what was released

-- the lines of what was released, by the events
text_of : (b : BookView) → IsShown b → released_lines b ≡ released_text b.job b.history.events
text_of b shown = ap (λ (vs : List Datum). value_lines b.job.program (take (released b.history.events) vs)) (printed_is b shown)

text_at : (b : BookView) (job : JobParts) → IsShown b → b.job ≡ job → released_lines b ≡ released_text job b.history.events
text_at b job shown same = subst (λ j. released_lines b ≡ released_text j b.history.events) same (text_of b shown)

-- where nothing is released, the lines stay
pub lines_stay : (old new : BookView) → IsShown old → AreByOne old.history.events → IsShown new → AreByOne new.history.events → new.job ≡ old.job
    → IsPrefix old.history.events new.history.events → own_releases 1 new.history.events ≡ own_releases 1 old.history.events → released_lines new ≡ released_lines old
lines_stay old new before by_one after by_one' same grows none =
    text_at new old.job after same
    ∙ text_stays old.job old.history.events new.history.events (inr (history_of old before by_one)) (subst (λ j. IsHistoryOf j new.history.events) same (history_of new after by_one')) grows none
    ∙ sym (text_of old before)

-- two books with one history
pub same_lines : (old new : BookView) → IsShown old → IsShown new → new.job ≡ old.job → new.history.events ≡ old.history.events → released_lines new ≡ released_lines old
same_lines old new before after same events = text_at new old.job after same ∙ ap (released_text old.job) events ∙ sym (text_of old before)

none_released : (q : ℕ) (es : List Event) → AllByRecursion (λ (e : Event). is_release e.what ≡ false) es → releases (own_from 1 q es) ≡ []
none_released q [] none = refl
none_released q (e ∷ es) none = releases_append (own_at 1 q e) (own_from 1 (suc q) es) ∙ ap (λ (l : List Recorded). releases (own_at 1 q e) ++ l) (none_released (suc q) es none.1) ∙ append-nil (releases (own_at 1 q e)) ∙ by (nat_eq e.worker 1)
  where
    by : (b : Bool) → releases (cond b (record { seq = record { 0 = q }; event = e } ∷ []) []) ≡ []
    by true = ap (λ r. cond {A = List Recorded} r (record { seq = record { 0 = q }; event = e } ∷ []) []) none.0
    by false = refl

-- events that are no releases
pub plain_more : (before added after : List Event) → after ≡ before ++ added → AllByRecursion (λ (e : Event). is_release e.what ≡ false) added → own_releases 1 after ≡ own_releases 1 before
plain_more before added after is none =
    ap (own_releases 1) is
    ∙ ap releases (own_from-append 1 1 before added)
    ∙ releases_append (own 1 before) (own_from 1 (1 + length before) added)
    ∙ ap (λ (l : List Recorded). own_releases 1 before ++ l) (none_released (1 + length before) added none)
    ∙ append-nil (own_releases 1 before)

-- ---- whose events these are

one_added : (before added : List Event) → AllByRecursion (λ (e : Event). e.worker ≡ 1) added → AreByOne before → AreByOne (before ++ added)
one_added [] [] all by_one = tt
one_added [] (e ∷ es) all by_one = ((λ release. all.0), one_added [] es all.1 tt)
one_added (b ∷ bs) added all by_one = (by_one.0, one_added bs added all by_one.1)

pub by_one_added : (before after : List Event) → Adds 1 before after → AreByOne before → AreByOne after
by_one_added before after adds by_one = subst AreByOne (sym adds.1) (one_added before adds.0 adds.2 by_one)

pub named_added : (workers : ℕ) (before after : List Event) → 1 ≤ workers → Adds 1 before after → AreOf workers before → AreOf workers after
named_added workers before after some adds named = subst (AreOf workers) (sym adds.1) (named_more 1 workers before adds.0 (omega arith) some adds.2 named)

pub adds_none : (before after : List Event) → after ≡ before → Adds 1 before after
adds_none before after same = ([], same ∙ sym (append-nil before), tt)

all_append : (xs ys : List Event) → AllByRecursion (λ (e : Event). e.worker ≡ 1) xs → AllByRecursion (λ (e : Event). e.worker ≡ 1) ys → AllByRecursion (λ (e : Event). e.worker ≡ 1) (xs ++ ys)
all_append [] ys a b = b
all_append (x ∷ xs) ys a b = (a.0, all_append xs ys a.1 b)

pub adds_then : (a b c : List Event) → Adds 1 a b → Adds 1 b c → Adds 1 a c
adds_then a b c x y = (x.0 ++ y.0, y.1 ∙ ap (λ (l : List Event). l ++ y.0) x.1 ∙ append_assoc a x.0 y.0, all_append x.0 y.0 x.2 y.2)

-- a book after worker 1 went on
pub of_added : (workers : ℕ) (old new : BookView) → 1 ≤ workers → IsOf workers old → IsShown new → Adds 1 old.history.events new.history.events → IsOf workers new
of_added workers old new some of shown adds = record {
  shown = shown;
  by_one = by_one_added old.history.events new.history.events adds of.by_one;
  named = named_added workers old.history.events new.history.events some adds of.named;
}

-- ---- a round

module _ (workers : ℕ) (old new : BookView) (of : IsOf workers old) (shown : IsShown new) (by_one : AreByOne new.history.events) (round : IsRound workers old.job new.job old.history.events new.history.events) where
  pub of_round : IsOf workers new
  of_round = record { shown = shown; by_one = by_one; named = round.named }

  pub round_lines : released_lines new ≡ released_lines old
  round_lines = lines_stay old new of.shown of.by_one shown by_one round.of_job round.begins round.releases

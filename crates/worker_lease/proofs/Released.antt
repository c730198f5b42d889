-- The text of what was released, by what one pass knows of it.
use Rattle.std.proofs.Common.{◌≡◌, inl, inr, ℕ, zero, suc, ◌≤◌, Bool, true, false, cond, nat_eq, List, [], ◌∷◌, ◌++◌, take, drop, Some, refl, sym, ap, subst, ◌∙◌, append-nil, arith}
use Rattle.std.specs.Prelude.{filter}
use Rattle.std.specs.Cmp.{nat_eq_equiv}
use Rattle.std.proofs.lemmas.Bool.{false≢true}
use Rattle.std.proofs.lemmas.Grind.{flat_map-append}
use Rattle.std.proofs.lemmas.List.{take-append-drop}
use mathlib.Core.List.{IsPrefix}
use Rattle.stab_base.specs.Datum.{Datum}
use Rattle.stab_base.specs.Printed.{printed}
use Rattle.stab_code.specs.JobParts.{JobParts}
use Rattle.stab_journal.specs.declared.event.Event.{Event}
use Rattle.stab_journal.specs.declared.event.Numbered.{Numbered}
use Rattle.stab_journal.specs.declared.event.Recorded.{Recorded}
use Rattle.stab_journal.specs.declared.event.What.{What}
use Rattle.stab_journal.specs.declared.event.What.TheVariants.{Step, Undo, Release}
use Rattle.stab_journal.specs.Due.{final_prints, released, released_by, released_from}
use Rattle.stab_journal.specs.Own.{own, own_from}
use Rattle.stab_journal.specs.Surviving.{after_event, after_events, run_of}
use Rattle.language.specs.Plain.{effect_of, start}
use Rattle.language.specs.Shown.{line, value_lines}
use Rattle.language.specs.Standing.{StandsFor, event}
use Rattle.journal_laws.specs.Surviving.{prints}
use Rattle.commit_book.proofs.Keeping.EventSteps.{released_snoc}
use Rattle.commit_book.proofs.Lawful.Firm.{firm, released_final}
use Rattle.worker_lease.specs.Answers.{IsHistoryOf}
use Rattle.worker_lease.specs.Working.{IsBegun}
use Rattle.worker_lease.specs.Releases.{AreByOne, IsReleaseOf, is_release, own_releases, printed_by, released_text}
use Rattle.worker_lease.proofs.Releasing.{printed_is}

abbrev releases : List Recorded → List Recorded
releases own = filter (λ (r : Recorded). is_release r.event.what) own

-- ---- how many values were released is said by worker 1's own releases

abbrev said_from : ℕ → List Recorded → ℕ
said_from k [] = k
said_from k (r ∷ rs) = said_from (released_by r.event.what k) rs

abbrev at : ℕ → Event → Recorded
at q e = record { seq = record { 0 = q }; event = e }

module _ (k q : ℕ) (e : Event) (rest : List Recorded) where
  said_step : (what : What) → e.what ≡ what → (b : Bool) → nat_eq e.worker 1 ≡ b → (is_release e.what ≡ true → e.worker ≡ 1)
      → said_from k (releases (cond b (at q e ∷ []) [] ++ rest)) ≡ said_from (released_by e.what k) (releases rest)
  said_step (Step l) is true here one = ap (λ x. said_from k (cond (is_release x) (at q e ∷ releases rest) (releases rest))) is ∙ sym (ap (λ x. said_from (released_by x k) (releases rest)) is)
  said_step (Step l) is false here one = sym (ap (λ x. said_from (released_by x k) (releases rest)) is)
  said_step (Undo t m) is true here one = ap (λ x. said_from k (cond (is_release x) (at q e ∷ releases rest) (releases rest))) is ∙ sym (ap (λ x. said_from (released_by x k) (releases rest)) is)
  said_step (Undo t m) is false here one = sym (ap (λ x. said_from (released_by x k) (releases rest)) is)
  said_step (Release n) is true here one = ap (λ x. said_from k (cond (is_release x) (at q e ∷ releases rest) (releases rest))) is
  said_step (Release n) is false here one = absurd (false≢true (sym here ∙ ap (λ w. nat_eq w 1) (one (ap is_release is)) ∙ nat_eq_equiv.refl 1))

said_own : (k q : ℕ) (es : List Event) → AreByOne es → released_from k es ≡ said_from k (releases (own_from 1 q es))
said_own k q [] by_one = refl
said_own k q (e ∷ es) by_one =
    said_own (released_by e.what k) (suc q) es by_one.1
    ∙ sym (said_step k q e (own_from 1 (suc q) es) e.what refl (nat_eq e.worker 1) refl by_one.0)

pub as_many : (old new : List Event) → AreByOne old → AreByOne new → own_releases 1 new ≡ own_releases 1 old → released new ≡ released old
as_many old new by_old by_new same = said_own 0 1 new by_new ∙ ap (said_from 0) same ∙ sym (said_own 0 1 old by_old)

-- ---- what was released stays

printed_of : (job : JobParts) (events : List Event) (h : IsHistoryOf job events) → printed_by job events ≡ h.shown.state.output
printed_of job events h =
    sym (printed_is h.book h.shown ∙ ap (λ (j : JobParts). printed_by j h.book.history.events) h.of_job ∙ ap (printed_by job) h.has) ∙ h.shown.shows.journal.printed

pub stands_in : (job : JobParts) (events : List Event) (h : IsHistoryOf job events) → StandsFor job.program events h.shown.run h.shown.state
stands_in job events h =
    subst (λ (j : JobParts). StandsFor j.program events h.shown.run h.shown.state) h.of_job
    (subst (λ (es : List Event). StandsFor h.book.job.program es h.shown.run h.shown.state) h.has h.shown.shows.journal.history.stands)

-- of two histories of one job
pub values_stay : (job : JobParts) (old new : List Event) → IsHistoryOf job old → IsHistoryOf job new → IsPrefix old new → take (released old) (printed_by job new) ≡ take (released old) (printed_by job old)
values_stay job old new before after grows =
    let p = job.program in
    let stands = stands_in job old before in
    ap (take (released old)) (printed_of job new after)
    ∙ (firm p old before.shown.run before.shown.state stands (released old) (released_final p old before.shown.run before.shown.state stands)
    new after.shown.run after.shown.state (stands_in job new after) grows.0 (sym grows.1)).same
    ∙ sym (ap (take (released old)) (printed_of job old before))

-- and where nothing was seen yet
pub begun_stay : (job : JobParts) (old new : List Event) → IsBegun job old → IsHistoryOf job new → IsPrefix old new → take (released old) (printed_by job new) ≡ take (released old) (printed_by job old)
begun_stay job old new (inl none) after grows = subst (λ es. take (released es) (printed_by job new) ≡ take (released es) (printed_by job es)) (sym none) refl
begun_stay job old new (inr before) after grows = values_stay job old new before after grows

pub begun_one : (job : JobParts) (old : List Event) → IsBegun job old → AreByOne old
begun_one job old (inl none) = subst AreByOne (sym none) tt
begun_one job old (inr before) = before.by_one

module _ (job : JobParts) (old new : List Event) (before : IsBegun job old) (after : IsHistoryOf job new) (grows : IsPrefix old new) where
  lines_stay : (n : ℕ) → n ≡ released old → value_lines job.program (take n (printed_by job new)) ≡ released_text job old
  lines_stay n is = ap (λ m. value_lines job.program (take m (printed_by job new))) is ∙ ap (value_lines job.program) (begun_stay job old new before after grows)

  -- nothing more was released
  pub text_stays : own_releases 1 new ≡ own_releases 1 old → released_text job new ≡ released_text job old
  text_stays same = lines_stay (released new) (as_many old new (begun_one job old before) after.by_one same)

  -- ---- a release adds its lines

  take_twice : {X : Type 0} (m n : ℕ) (xs : List X) → m ≤ n → take m (take n xs) ≡ take m xs
  take_twice zero n xs le = refl
  take_twice (suc m) zero xs le = absurd (omega (arith, le))
  take_twice (suc m) (suc n) [] le = refl
  take_twice (suc m) (suc n) (x ∷ xs) le = ap (λ l. x ∷ l) (take_twice m n xs (omega (arith, le)))

  two_parts : (m n : ℕ) (xs : List Datum) → m ≤ n → value_lines job.program (take n xs) ≡ value_lines job.program (take m xs) ++ value_lines job.program (drop m (take n xs))
  two_parts m n xs le =
      ap (value_lines job.program) (sym (take-append-drop m (take n xs)))
      ∙ flat_map-append (λ v. line (printed job.program.texts v)) (take m (take n xs)) (drop m (take n xs))
      ∙ ap (λ l. value_lines job.program l ++ value_lines job.program (drop m (take n xs))) (take_twice m n xs le)

  after_release : (q : ℕ) (run : List Numbered) (es : List Event) (k : ℕ) → after_events q run (es ++ event 1 (Release k) ∷ []) ≡ after_events q run es
  after_release q run [] k = append-nil run
  after_release q run (e ∷ es) k = after_release (suc q) (after_event q e.what run) es k

  by_one_front : (es : List Event) (e : Event) → AreByOne (es ++ e ∷ []) → AreByOne es
  by_one_front [] e by_one = tt
  by_one_front (x ∷ xs) e by_one = (by_one.0, by_one_front xs e by_one.1)

  pub text_grows : (q : ℕ) (text : List ℕ) (r : IsReleaseOf job new q text) → own_releases 1 r.first ≡ own_releases 1 old → released_text job new ≡ released_text job old ++ text
  text_grows q text r same =
      let first = r.first in
      let finals : ℕ = final_prints (run_of first) in
      let by_first : AreByOne first = by_one_front first (event 1 (Release finals)) (subst AreByOne r.is after.by_one) in
      let so_many : released first ≡ released old = as_many old first (begun_one job old before) by_first same in
      let now : released new ≡ finals = ap released r.is ∙ released_snoc 0 first (event 1 (Release finals)) in
      let ran : run_of new ≡ run_of first = ap run_of r.is ∙ after_release 1 [] first finals in
      let shown : printed_by job new ≡ printed_by job first = ap (prints (effect_of job.program) (λ _. false) (Some (start job.program))) ran in
      let some = r.some in
      let le : released first ≤ finals = omega (arith, some) in
      ap (λ n. value_lines job.program (take n (printed_by job new))) now
      ∙ two_parts (released first) finals (printed_by job new) le
      ∙ ap (λ l. l ++ value_lines job.program (drop (released first) (take finals (printed_by job new)))) (lines_stay (released first) so_many)
      ∙ ap (λ l. released_text job old ++ l) (ap (λ vs. value_lines job.program (drop (released first) (take finals vs))) shown ∙ sym r.lines)

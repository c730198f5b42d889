-- What the book that a floor leaves shows, by what the first pass has seen.
use Rattle.std.proofs.Common.{◌≡◌, ◌⊎◌, inl, inr, ℕ, zero, suc, ◌+◌, ◌≤◌, true, cond, nat_eq, List, [], ◌∷◌, ◌++◌, length, take, refl, sym, ap, subst, ◌∙◌, append-nil, append_assoc, length-append, arith}
use Rattle.std.specs.Prelude.{filter}
use Rattle.std.specs.Cmp.{nat_eq_equiv}
use Rattle.std.specs.List.{AllByRecursion}
use mathlib.Core.List.{IsPrefix}
use Rattle.stab_base.specs.Datum.{Datum}
use Rattle.stab_code.specs.JobParts.{JobParts}
use Rattle.stab_journal.specs.declared.event.Event.{Event}
use Rattle.stab_journal.specs.declared.event.Recorded.{Recorded}
use Rattle.stab_journal.specs.declared.event.What.TheVariants.{Release}
use Rattle.stab_journal.specs.Due.{released}
use Rattle.stab_journal.specs.Own.{own, own_at, own_from}
use Rattle.stab_journal.proofs.Reading.{own-push, own_from-append}
use Rattle.stab_base.specs.Printed.{printed}
use Rattle.language.specs.Shown.{line, value_lines}
use Rattle.language.specs.Standing.{event}
use Rattle.commit_book.specs.Book.{BookView, IsShown}
use Rattle.book_text.specs.Written.{released_lines}
use Rattle.commit_book.proofs.Lawful.Firm.{released_more}
use Rattle.worker_lease.specs.Answers.{IsHistoryOf}
use Rattle.worker_lease.specs.Releases.{AreByOne, is_release, own_releases, printed_by, released_text}
use Rattle.worker_lease.specs.Working.{IsBegun}
use Rattle.worker_lease.proofs.Released.{as_many, begun_one, begun_stay, stands_in, text_stays}
use Rattle.worker_lease.proofs.Releasing.{printed_is}
use Rattle.worker_lease.proofs.Asking.{releases_append}

pub history_of : (b : BookView) (job : JobParts) → IsShown b → b.job ≡ job → AreByOne b.history.events → IsHistoryOf job b.history.events
history_of b job shown same by_one = record { book = b; shown = shown; of_job = same; has = refl; by_one = by_one }

pub book_text : (b : BookView) (job : JobParts) → IsShown b → b.job ≡ job → released_lines b ≡ released_text job b.history.events
book_text b job shown same = subst (λ j. released_lines b ≡ released_text j b.history.events) same (ap (λ (vs : List Datum). value_lines b.job.program (take (released b.history.events) vs)) (printed_is b shown))

-- worker 1's pass knows all that was released
pub closed : (b : BookView) (job : JobParts) (seen : List Event) → IsShown b → b.job ≡ job → AreByOne b.history.events → IsPrefix seen b.history.events → own 1 b.history.events ≡ own 1 seen → IsBegun job seen → released_lines b ≡ released_text job seen
closed b job seen shown same by_one grows mine begun =
    book_text b job shown same
    ∙ text_stays job seen b.history.events begun (history_of b job shown same by_one) grows (ap (λ rs. filter (λ (r : Recorded). is_release r.event.what) rs) mine)

-- ---- two beginnings of one list

module _ {A : Type 0} where
  pub either_prefix : (xs r ys s : List A) → xs ++ r ≡ ys ++ s → IsPrefix xs ys ⊎ IsPrefix ys xs
  either_prefix [] r ys s is = inl (ys, refl)
  either_prefix (x ∷ xs) r [] s is = inr (x ∷ xs, refl)
  either_prefix (x ∷ xs) r (y ∷ ys) s is = let head : x ≡ y = cc in by x y head xs ys (either_prefix xs r ys s (cc))
    where
      by : (x y : A) → x ≡ y → (xs ys : List A) → IsPrefix xs ys ⊎ IsPrefix ys xs → IsPrefix (x ∷ xs) (y ∷ ys) ⊎ IsPrefix (y ∷ ys) (x ∷ xs)
      by x y head xs ys (inl p) = inl (p.0, ap (λ h. h ∷ (xs ++ p.0)) head ∙ ap (λ l. y ∷ l) p.1)
      by x y head xs ys (inr p) = inr (p.0, ap (λ h. h ∷ (ys ++ p.0)) (sym head) ∙ ap (λ l. x ∷ l) p.1)

  -- the front of a list with one element more, by another cut of it
  pub front_at : (xs : List A) (x : A) (ys : List A) (y : A) (zs : List A) → xs ++ x ∷ [] ≡ ys ++ y ∷ zs → IsPrefix ys xs
  front_at [] x [] y zs is = ([], refl)
  front_at [] x (v ∷ vs) y zs is = absurd (none vs y zs (cc))
    where
      none : (vs : List A) (y : A) (zs : List A) → [] ≡ vs ++ y ∷ zs → ⊥
      none [] y zs is = absurd (cc)
      none (v ∷ vs) y zs is = absurd (cc)
  front_at (w ∷ ws) x [] y zs is = (w ∷ ws, refl)
  front_at (w ∷ ws) x (v ∷ vs) y zs is =
      let head : w ≡ v = cc in
      let p = front_at ws x vs y zs (cc) in
      (p.0, ap (λ h. h ∷ (vs ++ p.0)) (sym head) ∙ ap (λ l. w ∷ l) p.1)

  pub all_front : (P : A → Type 0) (xs ys : List A) → AllByRecursion P (xs ++ ys) → AllByRecursion P xs
  all_front P [] ys all = tt
  all_front P (x ∷ xs) ys all = (all.0, all_front P xs ys all.1)

  pub no_more : (xs ys zs : List A) → ys ≡ xs ++ zs → length ys ≤ length xs → ys ≡ xs
  no_more xs ys [] is few = is ∙ append-nil xs
  no_more xs ys (z ∷ zs) is few = let a = ap length is in let b = length-append xs (z ∷ zs) in absurd (omega (arith, a, b, few))

abbrev releases : List Recorded → List Recorded
releases rs = filter (λ (r : Recorded). is_release r.event.what) rs

own_at_one : (q : ℕ) (e : Event) → e.worker ≡ 1 → own_at 1 q e ≡ record { seq = record { 0 = q }; event = e } ∷ []
own_at_one q e is = ap (λ b. cond {A = List Recorded} b (record { seq = record { 0 = q }; event = e } ∷ []) []) (ap (λ n. nat_eq n 1) is ∙ nat_eq_equiv.refl 1)

-- an event of worker 1 comes after no release except those that were written
module _ (job : JobParts) (b : BookView) (shown : IsShown b) (same : b.job ≡ job) (by_one : AreByOne b.history.events) (old seen : List Event) (begun : IsBegun job old) (grows : IsPrefix old b.history.events) (mine : own 1 b.history.events ≡ own 1 seen)
    (last first : List Event) (k : ℕ) (seen_is : seen ≡ last ++ event 1 (Release k) ∷ []) (known : own_releases 1 last ≡ own_releases 1 old) (e : Event) (after : List Event) (split : b.history.events ≡ first ++ e ∷ after) (is_one : e.worker ≡ 1) where
  own_front : IsPrefix (own 1 first) (own 1 last)
  own_front =
      front_at (own 1 last) (record { seq = record { 0 = length last + 1 }; event = event 1 (Release k) }) (own 1 first) (record { seq = record { 0 = 1 + length first }; event = e }) (own_from 1 (suc (1 + length first)) after)
      (sym (own-push 1 last (event 1 (Release k))) ∙ ap (own 1) (sym seen_is) ∙ sym mine ∙ ap (own 1) split ∙ own_from-append 1 1 first (e ∷ after)
      ∙ ap (λ l. own 1 first ++ (l ++ own_from 1 (suc (1 + length first)) after)) (own_at_one (1 + length first) e is_one))

  releases_front : own_releases 1 old ≡ own_releases 1 first ++ releases own_front.0
  releases_front = sym known ∙ ap releases (sym own_front.1) ∙ releases_append (own 1 first) own_front.0

  by_first : AreByOne first
  by_first = all_front (λ (x : Event). is_release x.what ≡ true → x.worker ≡ 1) first (e ∷ after) (subst AreByOne split by_one)

  begun_more : (b : IsBegun job old) → IsPrefix first old → released first ≤ released old
  begun_more (inl none) p = let f : first ≡ [] = nothing first p.0 (p.1 ∙ none) in subst (λ es. released es ≤ released old) (sym f) (omega arith)
    where
      nothing : (xs ys : List Event) → xs ++ ys ≡ [] → xs ≡ []
      nothing [] ys is = refl
      nothing (x ∷ xs) ys is = absurd (cc)
  begun_more (inr h) p = released_more job.program old h.shown.run h.shown.state (stands_in job old h) first p.0 (sym p.1)

  pub no_later : released first ≤ released old
  no_later = by (either_prefix first (e ∷ after) old grows.0 (sym split ∙ sym grows.1))
    where
      by : IsPrefix first old ⊎ IsPrefix old first → released first ≤ released old
      by (inl p) = begun_more begun p
      by (inr p) =
          let more : own_releases 1 first ≡ own_releases 1 old ++ releases (own_from 1 (1 + length old) p.0) =
          ap (own_releases 1) (sym p.1) ∙ ap releases (own_from-append 1 1 old p.0) ∙ releases_append (own 1 old) (own_from 1 (1 + length old) p.0)
          in
          let long = ap length releases_front ∙ length-append (own_releases 1 first) (releases own_front.0) in
          let all : own_releases 1 first ≡ own_releases 1 old = no_more (own_releases 1 old) (own_releases 1 first) (releases (own_from 1 (1 + length old) p.0)) more (omega (arith, long)) in
          let is : released first ≡ released old = as_many old first (begun_one job old begun) by_first all in
          omega (arith, is)

  -- so the lines of all that was released before it were written
  two_parts : (m n : ℕ) (xs : List Datum) → m ≤ n → (more : List ℕ) × (value_lines job.program (take n xs) ≡ value_lines job.program (take m xs) ++ more)
  two_parts zero n xs le = (value_lines job.program (take n xs), refl)
  two_parts (suc m) zero xs le = absurd (omega (arith, le))
  two_parts (suc m) (suc n) [] le = ([], refl)
  two_parts (suc m) (suc n) (x ∷ xs) le =
      let r = two_parts m n xs (omega (arith, le)) in
      let h : List ℕ = line (printed job.program.texts x) in
      (r.0, ap (λ l. h ++ l) r.1 ∙ sym (append_assoc h (value_lines job.program (take m xs)) r.0))

  pub has_releases : (front : List ℕ) → (more : List ℕ) × (released_text job old ++ front ≡ value_lines job.program (take (released first) shown.state.output) ++ more)
  has_releases front =
      let history = history_of b job shown same by_one in
      let printed : printed_by job b.history.events ≡ shown.state.output = sym (printed_is b shown ∙ ap (λ j. printed_by j b.history.events) same) ∙ shown.shows.journal.printed in
      let stay = begun_stay job old b.history.events begun history grows in
      let text : released_text job old ≡ value_lines job.program (take (released old) shown.state.output) =
      ap (value_lines job.program) (sym stay ∙ ap (take (released old)) printed)
      in
      let r = two_parts (released first) (released old) shown.state.output no_later in
      (r.0 ++ front, ap (λ l. l ++ front) (text ∙ r.1) ∙ append_assoc (value_lines job.program (take (released first) shown.state.output)) r.0 front)

-- With more events a thread was put back no less often, and the next number is no smaller.
use Rattle.std.proofs.Common.{◌≡◌, ℕ, suc, ◌+◌, ◌≤◌, max, fold, true, false, cond, List, [], ◌∷◌, ◌++◌, sym, ap, subst, ◌∙◌, arith}
use Rattle.std.specs.List.{flat_map}
use Rattle.std.proofs.lemmas.Grind.{flat_map-append}
use Rattle.std.proofs.lemmas.List.Sums.{fold-append}
use Rattle.stab_journal.specs.declared.event.Event.{Event}
use Rattle.stab_journal.specs.declared.event.Numbered.{Numbered}
use Rattle.stab_journal.specs.declared.event.What.{What}
use Rattle.stab_journal.specs.Generation.{generation, generation_from, puts_back}
use Rattle.stab_journal.specs.Surviving.{after_event}
use Rattle.commit_book.specs.Book.{BookView, IsShown}
use Rattle.stab_journal.specs.Numbers.{greatest, threads_by}

at_least : (t q : ℕ) (run : List Numbered) (es : List Event) (g : ℕ) → g ≤ generation_from t q run es g
at_least t q run [] g = omega arith
at_least t q run (e ∷ es) g =
    elim (puts_back t e.what run) as (λ b. g ≤ generation_from t (suc q) (after_event q e.what run) es (cond b (suc g) g)) [
      | true ↦ omega (arith, at_least t (suc q) (after_event q e.what run) es (suc g))
      | false ↦ at_least t (suc q) (after_event q e.what run) es g
    ]

grows : (t q : ℕ) (run : List Numbered) (es more : List Event) (g : ℕ) → generation_from t q run es g ≤ generation_from t q run (es ++ more) g
grows t q run [] more g = at_least t q run more g
grows t q run (e ∷ es) more g = grows t (suc q) (after_event q e.what run) es more (cond (puts_back t e.what run) (suc g) g)

pub generation_grows : (t : ℕ) (es more : List Event) → generation t es ≤ generation t (es ++ more)
generation_grows t es more = grows t 1 [] es more 0

no_less : (g : ℕ) (xs : List ℕ) → g ≤ fold max g xs
no_less g [] = omega arith
no_less g (x ∷ xs) = omega (arith, no_less (max g x) xs)

greatest_grows : (names : What → List ℕ) (es more : List Event) → greatest names es ≤ greatest names (es ++ more)
greatest_grows names es more =
    let f : Event → List ℕ = λ (e : Event). names e.what in
    subst (λ n. greatest names es ≤ n) (sym (ap (fold max 0) (flat_map-append f es more) ∙ fold-append max 0 (flat_map f es) (flat_map f more))) (no_less (greatest names es) (flat_map f more))

pub next_grows : (a x : BookView) (more : List Event) → IsShown a → IsShown x → x.history.events ≡ a.history.events ++ more → a.next.thread ≤ x.next.thread
next_grows a x more shown_a shown_x is =
    let old = shown_a.shows.journal.next.thread in
    let new : x.next.thread ≡ max 1 (greatest threads_by (a.history.events ++ more)) + 1 = shown_x.shows.journal.next.thread ∙ ap (λ es. max 1 (greatest threads_by es) + 1) is in
    let g = greatest_grows threads_by a.history.events more in
    omega (arith, old, new, g)

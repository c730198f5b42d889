-- What one event more changes.
use Rattle.std.proofs.Common.{◌≡◌, ◌⊎◌, inl, inr, ℕ, ℤ, zero, suc, ◌+◌, cond, List, [], ◌∷◌, ◌++◌, length, refl, sym, ap, subst, ◌∙◌, arith, append_assoc, append-nil}
use Rattle.std.specs.Prelude.{IfSome, Some, None, slice_get}
use Rattle.stab_journal.specs.declared.event.Event.{Event}
use Rattle.stab_journal.specs.declared.event.Numbered.{Numbered}
use Rattle.stab_journal.specs.Due.{released, released_from, released_by}
use Rattle.stab_journal.specs.Generation.{generation, generation_from, puts_back}
use Rattle.stab_journal.specs.Script.{FollowsScript, probed, probed_by, script_at}
use Rattle.stab_journal.specs.Surviving.{after_event, after_events, run_of}

generation_from_last : (t q : ℕ) (run : List Numbered) (es : List Event) (e : Event) (g : ℕ) → generation_from t q run (es ++ e ∷ []) g ≡ cond (puts_back t e.what (after_events q run es)) (suc (generation_from t q run es g)) (generation_from t q run es g)
generation_from_last t q run [] e g = refl
generation_from_last t q run (f ∷ es) e g = generation_from_last t (suc q) (after_event q f.what run) es e (cond (puts_back t f.what run) (suc g) g)

-- a thread that the event puts back
pub generation_last : (t : ℕ) (es : List Event) (e : Event) → generation t (es ++ e ∷ []) ≡ cond (puts_back t e.what (run_of es)) (suc (generation t es)) (generation t es)
generation_last t es e = generation_from_last t 1 [] es e 0

released_from_last : (k : ℕ) (es : List Event) (e : Event) → released_from k (es ++ e ∷ []) ≡ released_by e.what (released_from k es)
released_from_last k [] e = refl
released_from_last k (f ∷ es) e = released_from_last (released_by f.what k) es e

pub released_last : (es : List Event) (e : Event) → released (es ++ e ∷ []) ≡ released_by e.what (released es)
released_last es e = released_from_last 0 es e

pub probed_last : (es : List Event) (e : Event) → probed (es ++ e ∷ []) ≡ probed es ++ probed_by e.what
probed_last [] e = append-nil (probed_by e.what)
probed_last (f ∷ es) e = ap (λ ps. probed_by f.what ++ ps) (probed_last es e) ∙ sym (append_assoc (probed_by f.what) (probed es) (probed_by e.what))

some_is : {A : Type 0} {x y : A} → Some x ≡ Some y → x ≡ y
some_is e = cc

only_one : (n x : ℤ) (j : ℕ) → slice_get (n ∷ []) j ≡ Some x → (j ≡ 0) × (n ≡ x)
only_one n x zero is = (refl, some_is is)
only_one n x (suc j) is = absurd (let none : None ≡ Some x = is in cc)

-- what was found in two lists, one behind the other, is in the first or in the second
found-append : {A : Type 0} (xs ys : List A) (k : ℕ) (x : A) → slice_get (xs ++ ys) k ≡ Some x → (slice_get xs k ≡ Some x) ⊎ ((j : ℕ) × (k ≡ length xs + j) × (slice_get ys j ≡ Some x))
found-append [] ys k x found = inr (k, omega arith, found)
found-append (y ∷ xs) ys zero x found = inl found
found-append (y ∷ xs) ys (suc k) x found =
    elim (found-append xs ys k x found) [ inl inside ↦ inl inside | inr behind ↦ let at = behind.1 in inr (behind.0, omega arith, behind.2) ]

one_of : (script ps : List ℤ) (n : ℤ) → ((i : ℕ) → IfSome (slice_get ps i) (λ m. m ≡ script_at script i)) → n ≡ script_at script (length ps) → (i : ℕ) (x : ℤ)
    → (slice_get ps i ≡ Some x) ⊎ ((j : ℕ) × (i ≡ length ps + j) × (slice_get (n ∷ []) j ≡ Some x)) → x ≡ script_at script i
one_of script ps n h is i x (inl at) = subst (λ o. IfSome o (λ m. m ≡ script_at script i)) at (h i)
one_of script ps n h is i x (inr f) =
    let one = only_one n x f.0 f.2 in
    sym one.1 ∙ is ∙ ap (script_at script) (omega (arith, f.1, one.0))

follows_more : (script : List ℤ) (ps : List ℤ) (n : ℤ) → ((i : ℕ) → IfSome (slice_get ps i) (λ m. m ≡ script_at script i)) → n ≡ script_at script (length ps) → (i : ℕ) → IfSome (slice_get (ps ++ n ∷ []) i) (λ m. m ≡ script_at script i)
follows_more script ps n h is i =
    elim (slice_get (ps ++ n ∷ []) i) as (λ o. slice_get (ps ++ n ∷ []) i ≡ o → IfSome o (λ m. m ≡ script_at script i)) [
      | None ↦ λ at. tt
      | (Some x) ↦ λ at. one_of script ps n h is i x (found-append ps (n ∷ []) i x at)
    ] refl

pub follows_probe : (script : List ℤ) (es : List Event) (e : Event) (n : ℤ) → probed_by e.what ≡ n ∷ [] → n ≡ script_at script (length (probed es)) → FollowsScript script es → FollowsScript script (es ++ e ∷ [])
follows_probe script es e n one is h = subst (λ ps. (i : ℕ) → IfSome (slice_get ps i) (λ m. m ≡ script_at script i)) (sym (probed_last es e ∙ ap (λ ps. probed es ++ ps) one)) (follows_more script (probed es) n h is)

pub follows_same : (script : List ℤ) (es : List Event) (e : Event) → probed_by e.what ≡ [] → FollowsScript script es → FollowsScript script (es ++ e ∷ [])
follows_same script es e none h = subst (λ ps. (i : ℕ) → IfSome (slice_get ps i) (λ m. m ≡ script_at script i)) (sym (probed_last es e ∙ ap (λ ps. probed es ++ ps) none ∙ append-nil (probed es))) h

-- The script, the generations and what is due, after an event.
use Rattle.std.proofs.Common.{◌≡◌, ℕ, zero, suc, ◌+◌, ◌<◌, ◌≤◌, ℤ, Bool, true, false, cond, ◌&&◌, List, [], ◌∷◌, ◌++◌, refl, sym, ap, subst, ◌∙◌, append-nil, append_assoc, arith}
use Rattle.std.specs.Prelude.{IfSome, count_by, length, nat_lt, slice_get}
use Rattle.std.proofs.lemmas.List.Sums.{sum_by-append}
use Rattle.stab_journal.specs.declared.event.Event.{Event}
use Rattle.stab_journal.specs.declared.event.Label.{Label}
use Rattle.stab_journal.specs.declared.event.Numbered.{Numbered}
use Rattle.stab_journal.specs.declared.event.What.TheVariants.{Step}
use Rattle.stab_journal.specs.Due.{is_print, final_prints, released_by, released_from}
use Rattle.stab_journal.specs.Floor.{is_cut, floor}
use Rattle.stab_journal.specs.Generation.{puts_back, generation_from, generation}
use Rattle.stab_journal.specs.Script.{probed_by, probed, script_at, FollowsScript}
use Rattle.stab_journal.specs.Surviving.{after_event, after_events, run_of}
use Rattle.commit_book.proofs.Keeping.Floors.{floor_snoc, not_less}

-- what probes got, with one more event
pub probed_snoc : (es : List Event) (e : Event) → probed (es ++ e ∷ []) ≡ probed es ++ probed_by e.what
probed_snoc [] e = append-nil (probed_by e.what)
probed_snoc (k ∷ es) e = ap (λ is. probed_by k.what ++ is) (probed_snoc es e) ∙ sym (append_assoc (probed_by k.what) (probed es) (probed_by e.what))

-- an event that is no probe
pub script_step : (script : List ℤ) (es : List Event) (e : Event) → probed_by e.what ≡ [] → FollowsScript script es → FollowsScript script (es ++ e ∷ [])
script_step script es e none follows i =
    let same : probed (es ++ e ∷ []) ≡ probed es = probed_snoc es e ∙ ap (λ is. probed es ++ is) none ∙ append-nil (probed es) in
    subst (λ (is : List ℤ). IfSome (slice_get is i) (λ n. n ≡ script_at script i)) (sym same) (follows i)

at_end : (f : ℕ → ℤ) (is : List ℤ) (n : ℤ) → ((i : ℕ) → IfSome (slice_get is i) (λ v. v ≡ f i)) → n ≡ f (length is) → (i : ℕ) → IfSome (slice_get (is ++ n ∷ []) i) (λ v. v ≡ f i)
at_end f [] n follows last zero = last
at_end f [] n follows last (suc i) = tt
at_end f (v ∷ is) n follows last zero = follows 0
at_end f (v ∷ is) n follows last (suc i) = at_end (λ j. f (suc j)) is n (λ j. follows (suc j)) last i

-- a probe that gets what the script has for it
pub script_probe : (script : List ℤ) (es : List Event) (e : Event) (n : ℤ) → probed_by e.what ≡ n ∷ [] → n ≡ script_at script (length (probed es)) → FollowsScript script es → FollowsScript script (es ++ e ∷ [])
script_probe script es e n one got follows i =
    let same : probed (es ++ e ∷ []) ≡ probed es ++ n ∷ [] = probed_snoc es e ∙ ap (λ is. probed es ++ is) one in
    subst (λ (is : List ℤ). IfSome (slice_get is i) (λ v. v ≡ script_at script i)) (sym same) (at_end (script_at script) (probed es) n follows got i)

-- how often a thread was put back, with one more event
pub generation_snoc : (t q : ℕ) (run : List Numbered) (es : List Event) (e : Event) (g : ℕ) → generation_from t q run (es ++ e ∷ []) g ≡ cond (puts_back t e.what (after_events q run es)) (suc (generation_from t q run es g)) (generation_from t q run es g)
generation_snoc t q run [] e g = refl
generation_snoc t q run (k ∷ es) e g = generation_snoc t (suc q) (after_event q k.what run) es e (cond (puts_back t k.what run) (suc g) g)

-- a step puts nobody back
pub generation_step : (t : ℕ) (es : List Event) (e : Event) (l : Label) → e.what ≡ Step l → generation t (es ++ e ∷ []) ≡ generation t es
generation_step t es e l is =
    generation_snoc t 1 [] es e 0 ∙ ap (λ w. cond (puts_back t w (run_of es)) (suc (generation t es)) (generation t es)) is

-- nobody was put back more often than there are events
pub generation_few : (t q : ℕ) (run : List Numbered) (es : List Event) (g : ℕ) → generation_from t q run es g ≤ g + length es
generation_few t q run [] g = omega arith
generation_few t q run (e ∷ es) g =
    elim (puts_back t e.what run) as (λ b. generation_from t (suc q) (after_event q e.what run) es (cond b (suc g) g) ≤ g + suc (length es)) [
      | true ↦ omega (arith, generation_few t (suc q) (after_event q e.what run) es (suc g))
      | false ↦ omega (arith, generation_few t (suc q) (after_event q e.what run) es g)
    ]

-- what the last release says, with one more event
pub released_snoc : (k : ℕ) (es : List Event) (e : Event) → released_from k (es ++ e ∷ []) ≡ released_by e.what (released_from k es)
released_snoc k [] e = refl
released_snoc k (j ∷ es) e = released_snoc (released_by j.what k) es e

count_snoc : (p : Numbered → Bool) (run : List Numbered) (n : Numbered) → p n ≡ false → count_by p (run ++ n ∷ []) ≡ count_by p run
count_snoc p run n none =
    let one : cond {A = ℕ} (p n) 1 0 ≡ 0 = ap (λ (b : Bool). cond {A = ℕ} b 1 0) none in
    let sum : count_by p (run ++ n ∷ []) ≡ count_by p run + count_by p (n ∷ []) = sum_by-append (λ (k : Numbered). cond {A = ℕ} (p k) 1 0) run (n ∷ []) in
    let last : count_by p (n ∷ []) ≡ cond {A = ℕ} (p n) 1 0 = omega arith in
    omega (arith, one, sum, last)

-- a step that is no cut makes no print final
pub finals_step : (run : List Numbered) (n : Numbered) → is_cut n.label ≡ false → floor run < n.seq.0 → final_prints (run ++ n ∷ []) ≡ final_prints run
finals_step run n uncut above =
    ap (λ f. count_by (λ (k : Numbered). is_print k.label && nat_lt k.seq.0 f) (run ++ n ∷ [])) (floor_snoc 0 run n uncut)
    ∙ count_snoc (λ (k : Numbered). is_print k.label && nat_lt k.seq.0 (floor run)) run n (ap (λ b. is_print n.label && b) (not_less n.seq.0 (floor run) (omega arith)) ∙ and_no (is_print n.label))
  where
    and_no : (b : Bool) → (b && false) ≡ false
    and_no true = refl
    and_no false = refl

-- Generations, after one event more, and of a thread that no event names.
use Rattle.std.proofs.Common.{◌≡◌, ℕ, suc, ◌+◌, ◌≤◌, ◌<◌, Bool, true, false, cond, ◌&&◌, ◌||◌, nat_eq, max, fold, List, [], ◌∷◌, ◌++◌, length, refl, sym, ap, subst, ◌∙◌, arith}
use Rattle.std.specs.List.{AllByRecursion, flat_map}
use Rattle.std.proofs.lemmas.Bool.{ne_eqb}
use Rattle.std.proofs.Math.Bool.{and-false}
use Rattle.stab_journal.specs.declared.event.Label.{Label}
use Rattle.stab_journal.specs.declared.event.Label.TheVariants.{Local, Spawn, NewChan, Comm, NewRef, Get, Set, Enter, Cut, Print, Probe, Refuse, Pin, Attempt}
use Rattle.stab_journal.specs.declared.event.What.{What}
use Rattle.stab_journal.specs.declared.event.What.TheVariants.{Step, Undo, Release}
use Rattle.stab_journal.specs.declared.event.Event.{Event}
use Rattle.stab_journal.specs.declared.event.Numbered.{Numbered}
use Rattle.stab_journal.specs.Label.{actors, touched}
use Rattle.stab_journal.specs.Names.{has}
use Rattle.stab_journal.specs.Reached.{reached, rest}
use Rattle.stab_journal.specs.Generation.{acts_in, puts_back, generation_from, generation}
use Rattle.stab_journal.specs.Surviving.{after_event, after_events}
use Rattle.stab_journal.specs.Numbers.{threads_by, greatest}

-- what is left after one event more
pub after_last : (q : ℕ) (run : List Numbered) (es : List Event) (e : Event) → after_events q run (es ++ e ∷ []) ≡ after_event (q + length es) e.what (after_events q run es)
after_last q run [] e = ap (λ k. after_event k e.what run) (omega arith)
after_last q run (f ∷ es) e = after_last (suc q) (after_event q f.what run) es e ∙ ap (λ k. after_event k e.what (after_events (suc q) (after_event q f.what run) es)) (omega arith)

-- the generation after one event more
pub generation_last : (t q : ℕ) (run : List Numbered) (es : List Event) (e : Event) (g : ℕ)
    → generation_from t q run (es ++ e ∷ []) g ≡ cond (puts_back t e.what (after_events q run es)) (suc (generation_from t q run es g)) (generation_from t q run es g)
generation_last t q run [] e g = refl
generation_last t q run (f ∷ es) e g = generation_last t (suc q) (after_event q f.what run) es e (cond (puts_back t f.what run) (suc g) g)

-- the thread acts in none of the steps
abbrev pub ActsNot : ℕ → List Numbered → Type 0
ActsNot t = AllByRecursion (λ (n : Numbered). has (actors n.label) t ≡ false)

none_acts : (gone : ℕ → Bool) (t : ℕ) (ns : List Numbered) → ActsNot t ns → acts_in gone t ns ≡ false
none_acts gone t [] all = refl
none_acts gone t (n ∷ ns) all = ap (λ b. (gone n.seq.0 && b) || acts_in gone t ns) all.0 ∙ ap (λ b. b || acts_in gone t ns) (and-false (gone n.seq.0)) ∙ none_acts gone t ns all.1

rest_acts : (gone : ℕ → Bool) (t : ℕ) (ns : List Numbered) → ActsNot t ns → ActsNot t (rest gone ns)
rest_acts gone t [] all = tt
rest_acts gone t (n ∷ ns) all =
    elim (gone n.seq.0) as (λ b. ActsNot t (cond b (rest gone ns) (n ∷ rest gone ns))) [ true ↦ rest_acts gone t ns all.1 | false ↦ (all.0, rest_acts gone t ns all.1) ]

one_more : (t : ℕ) (ns : List Numbered) (n : Numbered) → ActsNot t ns → has (actors n.label) t ≡ false → ActsNot t (ns ++ n ∷ [])
one_more t [] n all h = (h, tt)
one_more t (k ∷ ns) n all h = (all.0, one_more t ns n all.1 h)

-- the event names no such thread
abbrev pub Below : ℕ → What → Type 0
Below t w = AllByRecursion (λ (x : ℕ). x < t) (threads_by w)

other : (t x : ℕ) → x < t → nat_eq t x ≡ false
other t x lt = ne_eqb t x (λ e. omega arith)

none_has : (t : ℕ) (xs : List ℕ) → AllByRecursion (λ (x : ℕ). x < t) xs → has xs t ≡ false
none_has t [] all = refl
none_has t (x ∷ xs) all = ap (λ b. cond b true (has xs t)) (other t x all.0) ∙ none_has t xs all.1

no_actor : (t : ℕ) (l : Label) → AllByRecursion (λ (x : ℕ). x < t) (touched l) → has (actors l) t ≡ false
no_actor t (Spawn u v) all = none_has t (u.0 ∷ []) (all.0, tt)
no_actor t (Local u n) all = none_has t (u.0 ∷ []) all
no_actor t (NewChan u c) all = none_has t (u.0 ∷ []) all
no_actor t (Comm s r c) all = none_has t (s.0 ∷ r.0 ∷ []) all
no_actor t (NewRef u r) all = none_has t (u.0 ∷ []) all
no_actor t (Get u r) all = none_has t (u.0 ∷ []) all
no_actor t (Set u r) all = none_has t (u.0 ∷ []) all
no_actor t (Enter u) all = none_has t (u.0 ∷ []) all
no_actor t (Cut u) all = none_has t (u.0 ∷ []) all
no_actor t (Print u) all = none_has t (u.0 ∷ []) all
no_actor t (Probe u i) all = none_has t (u.0 ∷ []) all
no_actor t (Refuse u) all = none_has t (u.0 ∷ []) all
no_actor t (Pin u) all = none_has t (u.0 ∷ []) all
no_actor t (Attempt u g) all = none_has t (u.0 ∷ []) all

acts_on : (t q : ℕ) (w : What) (run : List Numbered) → ActsNot t run → Below t w → ActsNot t (after_event q w run)
acts_on t q (Step l) run all below = one_more t run (record { seq = record { 0 = q }; label = l }) all (no_actor t l below)
acts_on t q (Undo u m) run all below = rest_acts (has (reached run m.0)) t run all
acts_on t q (Release k) run all below = subst (ActsNot t) (sym (Rattle.std.proofs.Common.append-nil run)) all

not_back : (t : ℕ) (w : What) (run : List Numbered) → ActsNot t run → puts_back t w run ≡ false
not_back t (Undo u m) run all = none_acts (has (reached run m.0)) t run all
not_back t (Step l) run all = refl
not_back t (Release k) run all = refl

unnamed : (t q : ℕ) (run : List Numbered) (es : List Event) (g : ℕ) → ActsNot t run → AllByRecursion (λ (e : Event). Below t e.what) es → generation_from t q run es g ≡ g
unnamed t q run [] g all below = refl
unnamed t q run (e ∷ es) g all below =
    unnamed t (suc q) (after_event q e.what run) es (cond (puts_back t e.what run) (suc g) g) (acts_on t q e.what run all below.0) below.1
    ∙ ap (λ b. cond b (suc g) g) (not_back t e.what run all)

-- what is above the greatest is above each
fold_up : (g : ℕ) (xs : List ℕ) → g ≤ fold max g xs
fold_up g [] = omega arith
fold_up g (x ∷ xs) = omega (arith, fold_up (max g x) xs)

all_below : (t g : ℕ) (xs : List ℕ) → fold max g xs < t → AllByRecursion (λ (x : ℕ). x < t) xs
all_below t g [] lt = tt
all_below t g (x ∷ xs) lt = (omega (arith, fold_up (max g x) xs), all_below t (max g x) xs lt)

split : (t : ℕ) (xs ys : List ℕ) → AllByRecursion (λ (x : ℕ). x < t) (xs ++ ys) → AllByRecursion (λ (x : ℕ). x < t) xs × AllByRecursion (λ (x : ℕ). x < t) ys
split t [] ys all = (tt, all)
split t (x ∷ xs) ys all = let r = split t xs ys all.1 in ((all.0, r.0), r.1)

each_below : (t : ℕ) (es : List Event) → AllByRecursion (λ (x : ℕ). x < t) (flat_map (λ (e : Event). threads_by e.what) es) → AllByRecursion (λ (e : Event). Below t e.what) es
each_below t [] all = tt
each_below t (e ∷ es) all = let r = split t (threads_by e.what) _ all in (r.0, each_below t es r.1)

-- a thread above all that the events name was never put back
pub never_back : (t : ℕ) (es : List Event) → greatest threads_by es < t → generation t es ≡ 0
never_back t es lt = unnamed t 1 [] es 0 tt (each_below t es (all_below t 0 _ lt))

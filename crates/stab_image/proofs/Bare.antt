-- What continues an image without its text continues the image.
use Rattle.std.proofs.Common.{◌≡◌, ℕ, suc, ◌+◌, ◌<◌, List, [], ◌∷◌, ◌++◌, length, get_or, take, drop, refl, sym, ap, subst, ◌∙◌, arith}
use Rattle.std.specs.BTreeMap.{insert_entry}
use Rattle.std.specs.Cmp.{nat_cmp_is}
use Rattle.std.specs.Ordering.{nat_cmp, match_ordering}
use Rattle.std.specs.declared.cmp.Ordering.{Ordering}
use Rattle.std.specs.declared.cmp.Ordering.TheVariants.{Greater}
use Rattle.std.proofs.lemmas.List.{take-append-drop, take_more}
use Rattle.std.proofs.Math.Seq.{drop-cons}
use Rattle.image_text.specs.Rising.{IsRising}
use Rattle.stab_journal.specs.declared.event.Event.{Event}
use Rattle.stab_journal.specs.declared.event.Label.{Label}
use Rattle.stab_journal.specs.declared.event.Label.TheVariants.{Local, Spawn, NewChan, Comm, NewRef, Get, Set, Enter, Cut, Print, Probe, Refuse, Pin, Attempt}
use Rattle.stab_journal.specs.declared.event.Numbered.{Numbered}
use Rattle.language.specs.Plain.{PlainState}
use Rattle.image_laws.specs.Image.{Continues, Image, IsContinuedBy, MayStepSince, nothing, step, undo}

abbrev pub bare : Image → Image
bare image = record image { text = [] }

may_too : (image : Image) (es : List Event) (run : List Numbered) (s : PlainState) (l : Label) → MayStepSince (bare image) es run s l → MayStepSince image es run s l
may_too image es run s (Spawn t u) h = h
may_too image es run s (Refuse t) h = h
may_too image es run s (Attempt t g) h = h
may_too image es run s (Local t n) h = tt
may_too image es run s (NewChan t c) h = tt
may_too image es run s (Comm t u c) h = tt
may_too image es run s (NewRef t r) h = tt
may_too image es run s (Get t r) h = tt
may_too image es run s (Set t r) h = tt
may_too image es run s (Enter t) h = tt
may_too image es run s (Cut t) h = tt
may_too image es run s (Print t) h = tt
may_too image es run s (Probe t i) h = tt
may_too image es run s (Pin t) h = tt

continues_too : (image : Image) {es : List Event} {run : List Numbered} {s : PlainState} → Continues (bare image) es run s → Continues image es run s
continues_too image nothing = nothing
continues_too image (step {events = es} {run = run} {before = before} after w l c may is) = step after w l (continues_too image c) (may_too image es run before l may) is
continues_too image (undo after w t m c may is) = undo after w t m (continues_too image c) may is

pub continued_too : (image : Image) (es : List Event) (s : PlainState) → IsContinuedBy (bare image) es s → IsContinuedBy image es s
continued_too image es s h = record { run = h.run; continues = continues_too image h.continues; follows = h.follows }

rises_past : (n : ℕ) (es : List (ℕ × ℕ)) (x : ℕ × ℕ) (rest : List (ℕ × ℕ)) → IsRising n (es ++ x ∷ rest) → n < x.0
rises_past n [] x rest h = h.0
rises_past n (e ∷ es) x rest h = omega (arith, h.0, rises_past e.0 es x rest h.1)

-- a pair whose number is above all goes to the end
insert_past : (n : ℕ) (es : List (ℕ × ℕ)) (x : ℕ × ℕ) (rest : List (ℕ × ℕ)) → IsRising n (es ++ x ∷ rest) → insert_entry nat_cmp es x.0 x.1 ≡ es ++ x ∷ []
insert_past n [] x rest h = refl
insert_past n (e ∷ es) x rest h =
    ap (λ (o : Ordering). match_ordering o ((x.0, x.1) ∷ e ∷ es) ((e.0, x.1) ∷ es) (e ∷ insert_entry nat_cmp es x.0 x.1)) (sym (nat_cmp_is x.0 e.0 Greater (rises_past e.0 es x rest h.1)))
    ∙ ap (λ (ps : List (ℕ × ℕ)). e ∷ ps) (insert_past e.0 es x rest h.1)

pub insert_more : (xs es : List (ℕ × ℕ)) (i : ℕ) → IsRising 0 xs → es ≡ take i xs → i < length xs → insert_entry nat_cmp es (get_or xs i (0, 0)).0 (get_or xs i (0, 0)).1 ≡ take (i + 1) xs
insert_more xs es i rising is lt =
    let x : ℕ × ℕ = get_or xs i (0, 0) in
    let whole : xs ≡ take i xs ++ x ∷ drop (suc i) xs = sym (take-append-drop i xs) ∙ ap (λ (ps : List (ℕ × ℕ)). take i xs ++ ps) (drop-cons xs i (0, 0) lt) in
    ap (λ (ps : List (ℕ × ℕ)). insert_entry nat_cmp ps x.0 x.1) is
    ∙ insert_past 0 (take i xs) x (drop (suc i) xs) (subst (IsRising 0) whole rising)
    ∙ sym (take_more xs i (0, 0) lt)

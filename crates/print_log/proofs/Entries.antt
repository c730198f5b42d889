-- Entries of prints: one more, one struck, and a hole at the end.
use Rattle.std.proofs.Common.{◌≡◌, ℕ, zero, suc, ◌+◌, ◌-◌, ◌<◌, ◌≤◌, true, false, cond, not, nat_eq, nat_lt, List, [], ◌∷◌, ◌++◌, get_or, set, length, take, drop, slice_get, Option, Some, None, IfSome, IsSome, refl, sym, ap, subst, ◌∙◌, append_assoc, length-append, arith}
use Rattle.std.specs.Prelude.{is_some, map as each}
use Rattle.std.specs.List.{AllByRecursion}
use Rattle.std.proofs.lemmas.Bool.{false≢true}
use Rattle.std.proofs.lemmas.Bool.Decides.{nat_tests}
use Rattle.std.proofs.lemmas.List.{drop_more, length-map, map-append, take-append-drop, take_more}
use Rattle.stab_base.specs.Datum.{Datum}
use Rattle.stab_base.specs.declared.numbers.Seq.{Seq}
use Rattle.print_log.specs.declared.recent.Entry.{Entry}
use Rattle.print_log.specs.Log.{Print, without}
use Rattle.print_log.specs.Layout.{live, print_in, EndsLive, IsRising, IsSound}

pub live-append : (es fs : List Entry) → live (es ++ fs) ≡ live es ++ live fs
live-append [] fs = refl
live-append (e ∷ es) fs = ap (λ l. print_in e.number.0 e.value ++ l) (live-append es fs) ∙ sym (append_assoc (print_in e.number.0 e.value) (live es) (live fs))

in_few : (q : ℕ) (o : Option Datum) → length (print_in q o) ≤ 1
in_few q None = omega arith
in_few q (Some v) = omega arith

-- there are no more prints than entries
pub live-few : (es : List Entry) → length (live es) ≤ length es
live-few [] = omega arith
live-few (e ∷ es) =
    let one = in_few e.number.0 e.value in
    let more = live-few es in
    let both = length-append (print_in e.number.0 e.value) (live es) in
    omega (arith, one, more, both)

-- ---- one more at the end

up_one : (n : ℕ) → suc (suc n) - 1 ≡ suc (suc n - 1)
up_one n = omega arith

-- an entry below another one that all prints are below
below_next : (q : ℕ) (e : Entry) (es : List Entry) → IsRising (e ∷ es) → EndsLive (e ∷ es) → AllByRecursion (λ (p : Print). p.number < q) (live (e ∷ es)) → AllByRecursion (λ (k : Entry). k.number.0 < q) (e ∷ es)
below_next q e [] rising ends all = (by e.value ends all, tt)
  where
    by : (o : Option Datum) → IsSome o → AllByRecursion (λ (p : Print). p.number < q) (print_in e.number.0 o ++ []) → e.number.0 < q
    by None none all = absurd (false≢true none)
    by (Some v) some all = all.0
below_next q e (f ∷ es) rising ends all =
    let more = below_next q f es rising.1 (later ends) (behind e.value (live (f ∷ es)) all) in
    let up : e.number.0 < f.number.0 = rising.0.0 in
    let low : f.number.0 < q = more.0 in
    (omega (arith, up, low), more)
  where
    later : EndsLive (e ∷ f ∷ es) → EndsLive (f ∷ es)
    later ends = subst (λ (o : Option Entry). IfSome o (λ (k : Entry). IsSome k.value)) (ap (slice_get (e ∷ f ∷ es)) (up_one (length es))) ends

    behind : (o : Option Datum) (ps : List Print) → AllByRecursion (λ (p : Print). p.number < q) (print_in e.number.0 o ++ ps) → AllByRecursion (λ (p : Print). p.number < q) ps
    behind None ps all = all
    behind (Some v) ps all = all.1

all_below : (q : ℕ) (es : List Entry) → IsSound es → AllByRecursion (λ (p : Print). p.number < q) (live es) → AllByRecursion (λ (k : Entry). k.number.0 < q) es
all_below q [] sound all = tt
all_below q (e ∷ es) sound all = below_next q e es sound.rising sound.ends all

all_end : (P : Entry → Type 0) (es : List Entry) (e : Entry) → AllByRecursion P es → P e → AllByRecursion P (es ++ e ∷ [])
all_end P [] e all last = (last, tt)
all_end P (f ∷ es) e all last = (all.0, all_end P es e all.1 last)

rising_end : (es : List Entry) (e : Entry) → IsRising es → AllByRecursion (λ (k : Entry). k.number.0 < e.number.0) es → IsRising (es ++ e ∷ [])
rising_end [] e rising low = (tt, tt)
rising_end (f ∷ es) e rising low = (all_end (λ (k : Entry). f.number.0 < k.number.0) es e rising.0 low.0, rising_end es e rising.1 low.1)

at_last : (es : List Entry) (e : Entry) → slice_get (es ++ e ∷ []) (length es) ≡ Some e
at_last [] e = refl
at_last (f ∷ es) e = at_last es e

last_is : (es : List Entry) (e : Entry) → slice_get (es ++ e ∷ []) (length (es ++ e ∷ []) - 1) ≡ Some e
last_is es e =
    let long : length (es ++ e ∷ []) ≡ length es + 1 = length-append es (e ∷ []) in
    let behind : length (es ++ e ∷ []) - 1 ≡ length es = omega (arith, long) in
    ap (slice_get (es ++ e ∷ [])) behind ∙ at_last es e

ends_end : (es : List Entry) (e : Entry) → IsSome e.value → EndsLive (es ++ e ∷ [])
ends_end es e some = subst (λ (o : Option Entry). IfSome o (λ (k : Entry). IsSome k.value)) (sym (last_is es e)) some

pub sound_end : (es : List Entry) (q : Seq) (v : Datum) → IsSound es → AllByRecursion (λ (p : Print). p.number < q.0) (live es) → IsSound (es ++ record { number = q; value = Some v } ∷ [])
sound_end es q v sound all = record {
  rising = rising_end es (record { number = q; value = Some v }) sound.rising (all_below q.0 es sound all);
  ends = ends_end es (record { number = q; value = Some v }) refl;
}

pub live_end : (es : List Entry) (q : Seq) (v : Datum) → live (es ++ record { number = q; value = Some v } ∷ []) ≡ live es ++ record { number = q.0; value = v } ∷ []
live_end es q v = live-append es (record { number = q; value = Some v } ∷ [])

-- ---- one struck

without_one : (q n : ℕ) (o : Option Datum) (ps : List Print) → nat_eq q n ≡ false → without q (print_in n o ++ ps) ≡ print_in n o ++ without q ps
without_one q n None ps apart = refl
without_one q n (Some v) ps apart = ap (λ b. cond (not b) (record { number = n; value = v } ∷ without q ps) (without q ps)) apart

without_it : (q n : ℕ) (o : Option Datum) (ps : List Print) → nat_eq q n ≡ true → without q (print_in n o ++ ps) ≡ without q ps
without_it q n None ps same = refl
without_it q n (Some v) ps same = ap (λ b. cond (not b) (record { number = n; value = v } ∷ without q ps) (without q ps)) same

apart_of : (q n : ℕ) → (q ≡ n → ⊥) → nat_eq q n ≡ false
apart_of q n differ = grind (arith, nat_tests, differ)

same_of : (q n : ℕ) → q ≡ n → nat_eq q n ≡ true
same_of q n is = grind (arith, nat_tests)

-- a number that no entry has
pub without_none : (q : ℕ) (es : List Entry) → ((i : ℕ) (d : Entry) → i < length es → q ≡ (get_or es i d).number.0 → ⊥) → without q (live es) ≡ live es
without_none q [] none = refl
without_none q (e ∷ es) none =
    without_one q e.number.0 e.value (live es) (apart_of q e.number.0 (none 0 e (omega arith)))
    ∙ ap (λ l. print_in e.number.0 e.value ++ l) (without_none q es (λ i d low. none (suc i) d (omega (arith, low))))

-- what all have, one of them has
all_at : (P : Entry → Type 0) (es : List Entry) (i : ℕ) (d : Entry) → i < length es → AllByRecursion P es → P (get_or es i d)
all_at P [] i d low all = absurd (omega (arith, low))
all_at P (e ∷ es) zero d low all = all.0
all_at P (e ∷ es) (suc i) d low all = all_at P es i d (omega (arith, low)) all.1

abbrev hole : Entry → Entry
hole e = record e { value = None }

-- the place of a number
pub live_struck : (q : ℕ) (es : List Entry) (i : ℕ) (d : Entry) → i < length es → IsRising es → q ≡ (get_or es i d).number.0 → live (set es i (hole (get_or es i d))) ≡ without q (live es)
live_struck q [] i d low rising at = absurd (omega (arith, low))
live_struck q (e ∷ es) zero d low rising at =
    sym (without_it q e.number.0 e.value (live es) (same_of q e.number.0 at)
    ∙ without_none q es (λ i k inside same. let up : e.number.0 < (get_or es i k).number.0 = all_at (λ (k : Entry). e.number.0 < k.number.0) es i k inside rising.0 in omega (arith, at, same, up)))
live_struck q (e ∷ es) (suc i) d low rising at =
    let up : e.number.0 < (get_or es i d).number.0 = all_at (λ (k : Entry). e.number.0 < k.number.0) es i d (omega (arith, low)) rising.0 in
    ap (λ l. print_in e.number.0 e.value ++ l) (live_struck q es i d (omega (arith, low)) rising.1 at)
    ∙ sym (without_one q e.number.0 e.value (live es) (apart_of q e.number.0 (λ same. omega (arith, at, same, up))))

all_struck : (n : ℕ) (es : List Entry) (i : ℕ) (d : Entry) → i < length es → AllByRecursion (λ (k : Entry). n < k.number.0) es → AllByRecursion (λ (k : Entry). n < k.number.0) (set es i (hole (get_or es i d)))
all_struck n [] i d low all = absurd (omega (arith, low))
all_struck n (e ∷ es) zero d low all = all
all_struck n (e ∷ es) (suc i) d low all = (all.0, all_struck n es i d (omega (arith, low)) all.1)

pub rising_struck : (es : List Entry) (i : ℕ) (d : Entry) → i < length es → IsRising es → IsRising (set es i (hole (get_or es i d)))
rising_struck [] i d low rising = absurd (omega (arith, low))
rising_struck (e ∷ es) zero d low rising = rising
rising_struck (e ∷ es) (suc i) d low rising = (all_struck e.number.0 es i d (omega (arith, low)) rising.0, rising_struck es i d (omega (arith, low)) rising.1)

-- the numbers don't fall
pub rising_order : (es : List Entry) → IsRising es → (i j : ℕ) (d : Entry) → i ≤ j → j < length es → (get_or es i d).number.0 ≤ (get_or es j d).number.0
rising_order [] rising i j d order low = absurd (omega (arith, low))
rising_order (e ∷ es) rising zero zero d order low = omega arith
rising_order (e ∷ es) rising zero (suc j) d order low =
    let up : e.number.0 < (get_or es j d).number.0 = all_at (λ (k : Entry). e.number.0 < k.number.0) es j d (omega (arith, low)) rising.0 in
    omega (arith, up)
rising_order (e ∷ es) rising (suc i) zero d order low = absurd (omega (arith, order))
rising_order (e ∷ es) rising (suc i) (suc j) d order low = rising_order es rising.1 i j d (omega (arith, order)) (omega (arith, low))

-- a number for which the search finds no place
pub live_absent : (q : ℕ) (es : List Entry) (i : ℕ) → ((k : ℕ) (d : Entry) → k < i → (get_or es k d).number.0 < q) → ((k : ℕ) (d : Entry) → i ≤ k → k < length es → q < (get_or es k d).number.0) → live es ≡ without q (live es)
live_absent q es i low high =
    sym (without_none q es (λ k d inside same. elim (nat_lt k i) as (λ b. nat_lt k i ≡ b → ⊥) [
      | true ↦ λ is. let under = low k d (below k i is) in omega (arith, under, same)
      | false ↦ λ is. let over = high k d (above k i is) inside in omega (arith, over, same)
    ] refl))
  where
    below : (k i : ℕ) → nat_lt k i ≡ true → k < i
    below k i is = grind (arith, nat_tests)

    above : (k i : ℕ) → nat_lt k i ≡ false → i ≤ k
    above k i is = grind (arith, nat_tests)

-- ---- a hole at the end

all_front : (P : Entry → Type 0) (es fs : List Entry) → AllByRecursion P (es ++ fs) → AllByRecursion P es
all_front P [] fs all = tt
all_front P (e ∷ es) fs all = (all.0, all_front P es fs all.1)

pub rising_front : (es fs : List Entry) → IsRising (es ++ fs) → IsRising es
rising_front [] fs rising = tt
rising_front (e ∷ es) fs rising = (all_front (λ (k : Entry). e.number.0 < k.number.0) es fs rising.0, rising_front es fs rising.1)

append-nil : {X : Type 0} (xs : List X) → xs ++ [] ≡ xs
append-nil [] = refl
append-nil (x ∷ xs) = ap (λ l. x ∷ l) (append-nil xs)

pub no_value : (o : Option Datum) → is_some o ≡ false → o ≡ None
no_value None none = refl
no_value (Some v) none = absurd (false≢true (sym none))

pub live_hole : (es : List Entry) (e : Entry) → e.value ≡ None → live (es ++ e ∷ []) ≡ live es
live_hole es e none = live-append es (e ∷ []) ∙ ap (λ o. live es ++ (print_in e.number.0 o ++ [])) none ∙ append-nil (live es)

-- ---- the values of all

abbrev pub values_in : List Entry → List Datum
values_in es = each (λ (p : Print). p.value) (live es)

abbrev pub value_in : Option Datum → List Datum
value_in None = []
value_in (Some v) = v ∷ []

in_value : (q : ℕ) (o : Option Datum) → each (λ (p : Print). p.value) (print_in q o) ≡ value_in o
in_value q None = refl
in_value q (Some v) = refl

pub values_cons : (e : Entry) (es : List Entry) → values_in (e ∷ es) ≡ value_in e.value ++ values_in es
values_cons e es = map-append (λ (p : Print). p.value) (print_in e.number.0 e.value) (live es) ∙ ap (λ l. l ++ values_in es) (in_value e.number.0 e.value)

pub values_few : (es : List Entry) → length (values_in es) ≡ length (live es)
values_few es = length-map (live es) (λ (p : Print). p.value)

-- the first of them and one more
pub values_more : (es : List Entry) (i : ℕ) (d : Entry) → i < length es → values_in (take (i + 1) es) ≡ values_in (take i es) ++ value_in (get_or es i d).value
values_more es i d low =
    ap values_in (take_more es i d low)
    ∙ ap (each (λ (p : Print). p.value)) (live-append (take i es) (get_or es i d ∷ []))
    ∙ map-append (λ (p : Print). p.value) (live (take i es)) (live (get_or es i d ∷ []))
    ∙ ap (λ l. values_in (take i es) ++ l) (values_cons (get_or es i d) [] ∙ append-nil (value_in (get_or es i d).value))

-- the next of some entries that are the same from there on
pub entry_same : (es fs : List Entry) (i : ℕ) (e : Entry) → i < length es → i < length fs → drop i fs ≡ drop i es → get_or es i e ≡ get_or fs i e
entry_same es fs i e low under same = ap (λ l. get_or l 0 e) (sym (drop_more es i e low) ∙ sym same ∙ drop_more fs i e under)

-- there is room for one more as long as there are more
pub values_room : (es : List Entry) (i : ℕ) (e : Entry) (v : Datum) → i < length es → (get_or es i e).value ≡ Some v → length (values_in (take i es)) + 1 ≤ length (live es)
values_room es i e v low is =
    let split : values_in es ≡ values_in (take (i + 1) es) ++ values_in (drop (i + 1) es) =
    ap values_in (sym (take-append-drop (i + 1) es)) ∙ ap (each (λ (p : Print). p.value)) (live-append (take (i + 1) es) (drop (i + 1) es)) ∙ map-append (λ (p : Print). p.value) (live (take (i + 1) es)) (live (drop (i + 1) es)) in
    let more = values_more es i e low ∙ ap (λ o. values_in (take i es) ++ value_in o) is in
    let long : length (values_in es) ≡ length (values_in (take i es) ++ v ∷ []) + length (values_in (drop (i + 1) es)) = ap length split ∙ length-append (values_in (take (i + 1) es)) (values_in (drop (i + 1) es)) ∙ ap (λ l. length l + length (values_in (drop (i + 1) es))) more in
    let one = length-append (values_in (take i es)) (v ∷ []) in
    let same = values_few es in
    omega (arith, long, one, same)

-- the first of all values
pub values_first : (fs : List Datum) (e : Entry) (es : List Entry) (v : Datum) → length fs ≡ 0 → e.value ≡ Some v → fs ++ values_in (e ∷ es) ≡ v ∷ (fs ++ values_in es)
values_first [] e es v none is = values_cons e es ∙ ap (λ o. value_in o ++ values_in es) is
values_first (f ∷ fs) e es v none is = absurd (omega (arith, none))

-- none is left
pub values_none : (fs : List Datum) (es : List Entry) → length fs ≡ 0 → length es ≡ 0 → fs ++ values_in es ≡ []
values_none [] [] none no_more = refl
values_none [] (e ∷ es) none no_more = absurd (omega (arith, no_more))
values_none (f ∷ fs) es none no_more = absurd (omega (arith, none))

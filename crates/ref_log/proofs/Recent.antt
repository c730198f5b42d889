-- Lists of recent writes: what each reference has of them, and the place of its last one.
use Rattle.std.proofs.Common.{◌≡◌, ℕ, zero, suc, ◌+◌, ◌<◌, ◌≤◌, Bool, true, false, cond, not, ◌&&◌, nat_eq, List, [], ◌∷◌, ◌++◌, length, take, refl, sym, ap, subst, ◌∙◌, arith, append_assoc, append-nil, add-one}
use Rattle.std.specs.List.{slice_index_or, slice_set, AllByRecursion}
use Rattle.std.proofs.lemmas.Bool.Decides.{nat_tests}
use Rattle.ref_log.specs.declared.places.Recent.{Recent}
use Rattle.ref_log.specs.Log.{Write}
use Rattle.ref_log.specs.Layout.{is_of, is_live, write_of, of_reference, place_with, last_place}

place_more : (b c : Bool) (n l : ℕ) → place_with c (cond b (n + 1) l) ≡ cond b (suc n + 1) (place_with c l)
place_more true c n l = ap (place_with c) (add-one n) ∙ sym (add-one (suc n))
place_more false c n l = refl

pub last_place-push : (r : ℕ) (es : List Recent) (e : Recent) → last_place r (es ++ e ∷ []) ≡ cond (is_of r e) (length es + 1) (last_place r es)
last_place-push r [] e = refl
last_place-push r (x ∷ es) e = ap (place_with (is_of r x)) (last_place-push r es e) ∙ place_more (is_of r e) (is_of r x) (length es) (last_place r es)

place_small : (b : Bool) (n l : ℕ) → l ≤ n → place_with b l ≤ suc n
place_small true n zero h = omega arith
place_small false n zero h = omega arith
place_small b n (suc l) h = omega arith

pub last_place-within : (r : ℕ) (es : List Recent) → last_place r es ≤ length es
last_place-within r [] = omega arith
last_place-within r (e ∷ es) = place_small (is_of r e) (length es) (last_place r es) (last_place-within r es)

pub of_reference-append : (r : ℕ) (es fs : List Recent) → of_reference r (es ++ fs) ≡ of_reference r es ++ of_reference r fs
of_reference-append r [] fs = refl
of_reference-append r (e ∷ es) fs = ap (λ ws. cond (is_live r e) (write_of e ∷ []) [] ++ ws) (of_reference-append r es fs) ∙ sym (append_assoc (cond (is_live r e) (write_of e ∷ []) []) (of_reference r es) (of_reference r fs))

pub of_reference-push : (r : ℕ) (es : List Recent) (e : Recent) → of_reference r (es ++ e ∷ []) ≡ of_reference r es ++ cond (is_live r e) (write_of e ∷ []) []
of_reference-push r es e = of_reference-append r es (e ∷ []) ∙ ap (λ ws. of_reference r es ++ ws) (append-nil (cond (is_live r e) (write_of e ∷ []) []))

-- the last recent write of the reference r stands at i
pub record IsLast (r : ℕ) (es : List Recent) (i : ℕ) : Type 0 where
  pub within : i < length es
  pub here : (d : Recent) → is_of r (slice_index_or es i d) ≡ true
  pub writes : (d : Recent) → of_reference r es ≡ of_reference r (take i es) ++ cond (is_live r (slice_index_or es i d)) (write_of (slice_index_or es i d) ∷ []) []

none_by : (b live : Bool) (l : ℕ) (w : Write) (ws : List Write) → place_with b l ≡ 0 → (l ≡ 0 → ws ≡ []) → cond (b && live) (w ∷ []) [] ++ ws ≡ []
none_by true live zero w ws e none = cc
none_by false live zero w ws e none = none refl
none_by b live (suc l) w ws e none = cc

pub none_there : (r : ℕ) (es : List Recent) → last_place r es ≡ 0 → of_reference r es ≡ []
none_there r [] e = refl
none_there r (x ∷ es) e = none_by (is_of r x) (not x.struck) (last_place r es) (write_of x) (of_reference r es) e (none_there r es)

last_by : (r : ℕ) (e : Recent) (es : List Recent) (i l : ℕ) (b : Bool) → is_of r e ≡ b → last_place r es ≡ l → place_with b l ≡ suc i → ((j : ℕ) → last_place r es ≡ suc j → IsLast r es j) → IsLast r (e ∷ es) i
last_by r e es zero zero true here place is later = record {
  within = omega arith;
  here = λ d. here;
  writes = λ d. ap (λ ws. cond (is_live r e) (write_of e ∷ []) [] ++ ws) (none_there r es place) ∙ append-nil (cond (is_live r e) (write_of e ∷ []) []);
}
last_by r e es (suc i) zero true here place is later = cc
last_by r e es i zero false here place is later = cc
last_by r e es zero (suc l) b here place is later = absurd (omega arith)
last_by r e es (suc i) (suc l) b here place is later =
    let last = later i (omega arith) in
    record {
      within = let inside = last.within in omega arith;
      here = last.here;
      writes = λ d.
          ap (λ ws. cond (is_live r e) (write_of e ∷ []) [] ++ ws) (last.writes d)
          ∙ sym (append_assoc (cond (is_live r e) (write_of e ∷ []) []) (of_reference r (take i es)) (cond (is_live r (slice_index_or es i d)) (write_of (slice_index_or es i d) ∷ []) []));
    }

pub last_there : (r : ℕ) (es : List Recent) (i : ℕ) → last_place r es ≡ suc i → IsLast r es i
last_there r [] i e = cc
last_there r (x ∷ es) i e = last_by r x es i (last_place r es) (is_of r x) refl refl e (last_there r es)

some_there : (b : Bool) (l : ℕ) → b ≡ true → 1 ≤ place_with b l
some_there true zero h = omega arith
some_there false zero h = cc
some_there b (suc l) h = omega arith

more_there : (b : Bool) (l i : ℕ) → suc i ≤ l → suc (suc i) ≤ place_with b l
more_there b zero i h = absurd (omega arith)
more_there b (suc l) i h = omega arith

-- no write of a reference stands behind its last one
pub not_behind : (r : ℕ) (es : List Recent) (i : ℕ) (d : Recent) → i < length es → is_of r (slice_index_or es i d) ≡ true → suc i ≤ last_place r es
not_behind r [] i d within here = absurd (omega arith)
not_behind r (e ∷ es) zero d within here = some_there (is_of r e) (last_place r es) here
not_behind r (e ∷ es) (suc i) d within here = more_there (is_of r e) (last_place r es) i (not_behind r es i d (omega arith) here)

pub all_at : (P : Write → Type 0) (r : ℕ) (es : List Recent) (k : ℕ) (d : Recent) → k < length es → is_live r (slice_index_or es k d) ≡ true → AllByRecursion P (of_reference r es) → P (write_of (slice_index_or es k d))
all_at P r [] k d within here all = absurd (omega arith)
all_at P r (e ∷ es) zero d within here all =
    let first : AllByRecursion P (write_of e ∷ of_reference r es) = subst (λ b. AllByRecursion P (cond b (write_of e ∷ []) [] ++ of_reference r es)) here all in first.0
all_at P r (e ∷ es) (suc k) d within here all =
    (elim (is_live r e) as (λ b. AllByRecursion P (cond b (write_of e ∷ []) [] ++ of_reference r es) → P (write_of (slice_index_or es k d))) [
      | true ↦ λ a. all_at P r es k d (omega arith) here a.1
      | false ↦ λ a. all_at P r es k d (omega arith) here a
    ]) all

zero_only : (n : ℕ) → n ≤ 0 → n ≡ 0
zero_only n h = omega arith

less_by : (b : Bool) (l n : ℕ) → place_with b l ≤ suc n → l ≤ n
less_by b zero n h = omega arith
less_by b (suc l) n h = omega arith

-- with what comes before the last one's place, all is there
pub place-take : (r : ℕ) (es : List Recent) (n : ℕ) → last_place r es ≤ n → last_place r (take n es) ≡ last_place r es
place-take r [] zero h = refl
place-take r [] (suc n) h = refl
place-take r (e ∷ es) zero h = sym (zero_only _ h)
place-take r (e ∷ es) (suc n) h = ap (place_with (is_of r e)) (place-take r es n (less_by (is_of r e) (last_place r es) n h))

-- another entry in its place
pub same-writes : (s : ℕ) (es : List Recent) (k : ℕ) (h : Recent) → cond (is_live s h) (write_of h ∷ []) [] ≡ (let e = slice_index_or es k h in cond (is_live s e) (write_of e ∷ []) []) → of_reference s (slice_set es k h) ≡ of_reference s es
same-writes s [] k h same = refl
same-writes s (e ∷ es) zero h same = ap (λ ws. ws ++ of_reference s es) same
same-writes s (e ∷ es) (suc k) h same = ap (λ ws. cond (is_live s e) (write_of e ∷ []) [] ++ ws) (same-writes s es k h same)

pub same-place : (s : ℕ) (es : List Recent) (n k : ℕ) (h : Recent) → is_of s h ≡ is_of s (slice_index_or es k h) → last_place s (take n (slice_set es k h)) ≡ last_place s (take n es)
same-place s [] n k h same = refl
same-place s (e ∷ es) zero k h same = refl
same-place s (e ∷ es) (suc n) zero h same = ap (λ b. place_with b (last_place s (take n es))) same
same-place s (e ∷ es) (suc n) (suc k) h same = ap (place_with (is_of s e)) (same-place s es n k h same)

-- where a write became a hole
first_hole : (l : ℕ) → place_with false l ≡ cond (nat_eq (place_with true l) 1) 0 (place_with true l)
first_hole zero = refl
first_hole (suc l) = grind (arith, nat_tests)

still_none : (b : Bool) (x j : ℕ) → place_with b (cond (nat_eq 0 (suc j)) x 0) ≡ cond (nat_eq (place_with b 0) (suc (suc j))) (place_with b x) (place_with b 0)
still_none true x j = grind (arith, nat_tests)
still_none false x j = grind (arith, nat_tests)

one_later : (b same : Bool) (l x j : ℕ) → nat_eq (suc l) (suc j) ≡ same → nat_eq (suc (suc l)) (suc (suc j)) ≡ same
one_later b true l x j e = grind (arith, nat_tests)
one_later b false l x j e = grind (arith, nat_tests)

by_same : (b same : Bool) (l x : ℕ) → place_with b (cond same x (suc l)) ≡ cond same (place_with b x) (suc (suc l))
by_same b true l x = refl
by_same b false l x = refl

later_hole : (b : Bool) (l x j : ℕ) → place_with b (cond (nat_eq l (suc j)) x l) ≡ cond (nat_eq (place_with b l) (suc (suc j))) (place_with b x) (place_with b l)
later_hole b zero x j = still_none b x j
later_hole b (suc l) x j =
    by_same b (nat_eq (suc l) (suc j)) l x
    ∙ ap (λ same. cond same (place_with b x) (suc (suc l))) (sym (one_later b (nat_eq (suc l) (suc j)) l x j refl))

no_place : (x j : ℕ) → 0 ≡ cond (nat_eq 0 (suc j)) x 0
no_place x j = grind (arith, nat_tests)

pub place-hole : (r : ℕ) (es : List Recent) (n k : ℕ) (h : Recent) → k < length es → is_of r (slice_index_or es k h) ≡ true → is_of r h ≡ false → last_place r (take n (slice_set es k h)) ≡ cond (nat_eq (last_place r (take n es)) (suc k)) (last_place r (take k es)) (last_place r (take n es))
place-hole r [] n k h within here hole = absurd (omega arith)
place-hole r (e ∷ es) zero k h within here hole = no_place (last_place r (take k (e ∷ es))) k
place-hole r (e ∷ es) (suc n) zero h within here hole =
    let l = last_place r (take n es) in
    ap (λ b. place_with b l) hole
    ∙ first_hole l
    ∙ ap (λ b. cond (nat_eq (place_with b l) 1) 0 (place_with b l)) (sym here)
place-hole r (e ∷ es) (suc n) (suc k) h within here hole =
    ap (place_with (is_of r e)) (place-hole r es n k h (omega arith) here hole)
    ∙ later_hole (is_of r e) (last_place r (take n es)) (last_place r (take k es)) k

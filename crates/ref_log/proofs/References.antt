-- What the places of references keep, and what a write that joins changes.
use Rattle.std.proofs.Common.{◌≡◌, ℕ, zero, suc, ◌+◌, ◌<◌, ◌≤◌, Bool, true, false, cond, not, ◌&&◌, nat_eq, nat_lt, List, [], ◌∷◌, ◌++◌, length, take, drop, Option, Some, None, slice_get, refl, sym, ap, subst, ◌∙◌, arith, add-one, drop-cons}
use Rattle.std.specs.List.{slice_index_or, slice_set, last_or, AllByRecursion}
use Rattle.std.proofs.Math.Seq.{take-suc-set}
use Rattle.std.proofs.lemmas.Bool.Decides.{nat_tests}
use Rattle.std.proofs.lemmas.Bool.{eqb-true}
use Rattle.std.proofs.lemmas.List.{length-take}
use Rattle.std.proofs.lemmas.Option.{slice_get-get_or, slice_get_past}
use Rattle.ref_log.specs.declared.places.Recent.{Recent}
use Rattle.ref_log.specs.declared.places.Reference.{Reference}
use Rattle.ref_log.specs.Log.{Write, last_of}
use Rattle.ref_log.specs.Calls.{written}
use Rattle.ref_log.specs.Layout.{is_of, is_live, write_of, of_reference, place_with, last_place, settled_writes, settled_of, settled_at, head_of, head_at, held, IsLinked}
use Rattle.ref_log.proofs.Recent.{of_reference-push}
use Rattle.ref_log.proofs.Links.{at-set, linked-push, linked-same}
use Rattle.ref_log.proofs.Views.{written-held}

pub by_cond : {A B : Type 0} (f : A → B) (b : Bool) (x y : A) → f (cond b x y) ≡ cond b (f x) (f y)
by_cond f true x y = refl
by_cond f false x y = refl

pub head-set : (xs : List Reference) (r : ℕ) (y : Reference) (s : ℕ) → r < length xs → head_at (slice_set xs r y) s ≡ cond (nat_eq r s) y.head (head_at xs s)
head-set xs r y s within = ap head_of (at-set xs r y s within) ∙ by_cond head_of (nat_eq r s) (Some y) (slice_get xs s)

pub settled-set : (xs : List Reference) (r : ℕ) (y : Reference) (s : ℕ) → r < length xs → settled_at (slice_set xs r y) s ≡ cond (nat_eq r s) (settled_writes y.settled) (settled_at xs s)
settled-set xs r y s within = ap settled_of (at-set xs r y s within) ∙ by_cond settled_of (nat_eq r s) (Some y) (slice_get xs s)

pub head-here : (xs : List Reference) (r : ℕ) (d : Reference) → r < length xs → head_at xs r ≡ (slice_index_or xs r d).head
head-here xs r d within = ap head_of (slice_get-get_or xs r d within)

pub settled-here : (xs : List Reference) (r : ℕ) (d : Reference) → r < length xs → settled_at xs r ≡ settled_writes (slice_index_or xs r d).settled
settled-here xs r d within = ap settled_of (slice_get-get_or xs r d within)

same_where : (b : Bool) (ws vs : List Write) → (b ≡ true → ws ≡ vs) → cond b ws vs ≡ vs
same_where true ws vs same = same refl
same_where false ws vs same = refl

-- another head alone
pub settled-same : (xs : List Reference) (r : ℕ) (x y : Reference) (s : ℕ) → r < length xs → x ≡ slice_index_or xs r x → y.settled ≡ x.settled → settled_at (slice_set xs r y) s ≡ settled_at xs s
settled-same xs r x y s within is same =
    settled-set xs r y s within
    ∙ same_where (nat_eq r s) (settled_writes y.settled) (settled_at xs s) (λ here.
    ap settled_writes (same ∙ ap (λ (z : Reference). z.settled) is) ∙ sym (settled-here xs r x within) ∙ ap (settled_at xs) (eqb-true r s here))

new_by : (a n r s : ℕ) → a ≡ r → 1 ≤ n → (nat_eq a s && not (nat_eq n 0)) ≡ nat_eq r s
new_by a n r s same some = grind (arith, nat_tests)

-- a new write is that of its reference alone
pub is_of-new : (r s : ℕ) (e : Recent) → e.reference.0 ≡ r → 1 ≤ e.number.0 → is_of s e ≡ nat_eq r s
is_of-new r s e same some = new_by e.reference.0 e.number.0 r s same some

and_true : (b c : Bool) → c ≡ false → (b && not c) ≡ b
and_true true c live = ap not live
and_true false c live = refl

pub is_live-new : (r s : ℕ) (e : Recent) → e.reference.0 ≡ r → 1 ≤ e.number.0 → e.struck ≡ false → is_live s e ≡ nat_eq r s
is_live-new r s e same some live = and_true (is_of s e) e.struck live ∙ is_of-new r s e same some

-- a write joins the recent ones, and its reference leads to it
pub linked-append : (xs : List Reference) (es : List Recent) (r : ℕ) (y : Reference) (e : Recent) → IsLinked xs es → r < length xs → e.reference.0 ≡ r → 1 ≤ e.number.0 → e.before ≡ head_at xs r → y.head ≡ length es + 1 → AllByRecursion (λ w. w.number < e.number.0) (of_reference r es) → e.struck ≡ false → IsLinked (slice_set xs r y) (es ++ e ∷ [])
linked-append xs es r y e linked within same some before head above live =
    linked-push xs (slice_set xs r y) es e linked (before ∙ linked.chained.heads r ∙ ap (λ s. last_place s es) (sym same)) (λ s.
    head-set xs r y s within ∙ ap (λ b. cond b y.head (head_at xs s)) (sym (is_of-new r s e same some)) ∙ ap (λ n. cond (is_of s e) n (head_at xs s)) head)
    (subst (λ s. AllByRecursion (λ w. w.number < e.number.0) (of_reference s es)) (sym same) above) live

pub held-append : (xs ys : List Reference) (es : List Recent) (r : ℕ) (e : Recent) (s : ℕ) → settled_at ys s ≡ settled_at xs s → e.reference.0 ≡ r → 1 ≤ e.number.0 → e.struck ≡ false → held ys (es ++ e ∷ []) s ≡ cond (nat_eq r s) (written (held xs es s) e.number.0 e.value) (held xs es s)
held-append xs ys es r e s settled same some live =
    ap (λ ws. ws ++ of_reference s (es ++ e ∷ [])) settled
    ∙ ap (λ ws. settled_at xs s ++ ws) (of_reference-push s es e ∙ ap (λ b. of_reference s es ++ cond b (write_of e ∷ []) []) (is_live-new r s e same some live))
    ∙ written-held (nat_eq r s) (settled_at xs s) (of_reference s es) (write_of e)

-- a write is put behind the first n
pub put-behind : (es : List Recent) (n : ℕ) (e : Recent) → n < length es → take (n + 1) (slice_set es n e) ≡ take n es ++ e ∷ []
put-behind es n e within = ap (λ m. take m (slice_set es n e)) (add-one n) ∙ take-suc-set es n e within

pub long-prefix : (es : List Recent) (n : ℕ) → n < length es → length (take n es) ≡ n
long-prefix es n within = let long = length-take n es in omega arith

high_by : (b : Bool) (n q : ℕ) → q ≤ n → (b && not (nat_lt n q)) ≡ b
high_by true n q high = grind (arith, nat_tests)
high_by false n q high = refl

none_by : (b : Bool) (n q : ℕ) → q ≤ n → (b && nat_lt n q) ≡ false
none_by true n q high = grind (arith, nat_tests)
none_by false n q high = refl

low_by : (b : Bool) (n q : ℕ) → n < q → (b && nat_lt n q) ≡ b
low_by true n q low = grind (arith, nat_tests)
low_by false n q low = refl

-- what a write that stays adds to those of each reference
pub stays : (s q : ℕ) (es : List Recent) (e entry : Recent) → is_live s e ≡ is_live s entry → write_of e ≡ write_of entry → q ≤ entry.number.0 → of_reference s (es ++ e ∷ []) ≡ cond (is_live s entry && not (nat_lt entry.number.0 q)) (of_reference s es ++ write_of entry ∷ []) (of_reference s es)
stays s q es e entry same write high =
    of_reference-push s es e
    ∙ written-held (is_live s e) [] (of_reference s es) (write_of e)
    ∙ ap (λ b. cond b (of_reference s es ++ write_of e ∷ []) (of_reference s es)) (same ∙ sym (high_by (is_live s entry) entry.number.0 q high))
    ∙ ap (λ w. cond (is_live s entry && not (nat_lt entry.number.0 q)) (of_reference s es ++ w ∷ []) (of_reference s es)) write

pub stays-settled : (s q : ℕ) (entry : Recent) (ws vs : List Write) → q ≤ entry.number.0 → vs ≡ cond (is_live s entry && nat_lt entry.number.0 q) ws vs
stays-settled s q entry ws vs high = ap (λ b. cond b ws vs) (sym (none_by (is_live s entry) entry.number.0 q high))

pub goes-settled : (s q : ℕ) (entry : Recent) (r : ℕ) (ws vs : List Write) → entry.reference.0 ≡ r → 1 ≤ entry.number.0 → entry.number.0 < q → entry.struck ≡ false → cond (nat_eq r s) ws vs ≡ cond (is_live s entry && nat_lt entry.number.0 q) ws vs
goes-settled s q entry r ws vs same some low live = ap (λ b. cond b ws vs) (sym (low_by (is_live s entry) entry.number.0 q low ∙ is_live-new r s entry same some live))

pub head-past : (xs : List Reference) (r s : ℕ) → length xs ≤ r → head_at xs s ≡ cond (nat_eq r s) 0 (head_at xs s)
head-past xs r s past =
    elim (nat_eq r s) as (λ b. nat_eq r s ≡ b → head_at xs s ≡ cond b 0 (head_at xs s)) [
      | true ↦ λ same. let is = eqb-true r s same in ap head_of (slice_get_past xs s (omega arith))
      | false ↦ λ _. refl
    ] refl

other_by : (a n s : ℕ) → nat_eq a s ≡ false → (nat_eq a s && not (nat_eq n 0)) ≡ false
other_by a n s other = grind (arith, nat_tests)

-- a reference forgets where its last write is
pub forget-more : (xs ys : List Reference) (es : List Recent) (i : ℕ) (e : Recent) → i < length es → e ≡ slice_index_or es i e → ((s : ℕ) → last_place s (drop i es) ≡ 0 → head_at xs s ≡ 0) → ((s : ℕ) → head_at ys s ≡ cond (nat_eq e.reference.0 s) 0 (head_at xs s)) → (s : ℕ) → last_place s (drop (i + 1) es) ≡ 0 → head_at ys s ≡ 0
forget-more xs ys es i e within is forgot heads s none =
    heads s ∙ (elim (nat_eq e.reference.0 s) as (λ b. nat_eq e.reference.0 s ≡ b → cond b 0 (head_at xs s) ≡ 0) [
      | true ↦ λ _. refl
      | false ↦ λ other. forgot s
          (ap (last_place s) (drop-cons es i e within)
          ∙ ap (λ (x : Recent). place_with (is_of s x) (last_place s (drop (suc i) es))) (sym is)
          ∙ ap (λ b. place_with b (last_place s (drop (suc i) es))) (other_by e.reference.0 e.number.0 s other)
          ∙ ap (place_with false) (ap (λ n. last_place s (drop n es)) (sym (add-one i)) ∙ none))
    ] refl)

-- another settled write alone
pub linked-heads : (xs : List Reference) (es : List Recent) (r : ℕ) (x y : Reference) → IsLinked xs es → r < length xs → x ≡ slice_index_or xs r x → y.head ≡ x.head → IsLinked (slice_set xs r y) es
linked-heads xs es r x y linked within is same = linked-same xs (slice_set xs r y) es (λ s.
    head-set xs r y s within
    ∙ (elim (nat_eq r s) as (λ b. nat_eq r s ≡ b → cond b y.head (head_at xs s) ≡ head_at xs s) [
      | true ↦ λ here. same ∙ ap (λ (z : Reference). z.head) is ∙ sym (head-here xs r x within) ∙ ap (head_at xs) (eqb-true r s here)
      | false ↦ λ _. refl
    ] refl)) linked

last_end_or : (o : Option Write) (ws : List Write) (w : Write) → last_or o (ws ++ w ∷ []) ≡ Some w
last_end_or o [] w = refl
last_end_or o (v ∷ ws) w = last_end_or (Some v) ws w

pub last_end : (ws : List Write) (w : Write) → last_of (ws ++ w ∷ []) ≡ Some w
last_end ws w = last_end_or None ws w

-- an empty place joins at the end
grown : {T : Type 0} (f : Option Reference → T) (xs : List Reference) (y : Reference) (s : ℕ) → f (Some y) ≡ f None → f (slice_get (xs ++ y ∷ []) s) ≡ f (slice_get xs s)
grown f [] y zero same = same
grown f [] y (suc s) same = refl
grown f (x ∷ xs) y zero same = refl
grown f (x ∷ xs) y (suc s) same = grown f xs y s same

pub head-grown : (xs : List Reference) (y : Reference) (s : ℕ) → y.head ≡ 0 → head_at (xs ++ y ∷ []) s ≡ head_at xs s
head-grown xs y s empty = grown head_of xs y s empty

pub settled-grown : (xs : List Reference) (y : Reference) (s : ℕ) → settled_writes y.settled ≡ [] → settled_at (xs ++ y ∷ []) s ≡ settled_at xs s
settled-grown xs y s empty = grown settled_of xs y s empty

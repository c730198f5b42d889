-- What an entry's place leads to, and what another entry behind all changes.
use Rattle.std.proofs.Common.{◌≡◌, ◌⊎◌, inl, inr, ℕ, zero, suc, ◌+◌, ◌<◌, ◌≤◌, Bool, true, false, cond, nat_eq, List, [], ◌∷◌, ◌++◌, length, slice_get, Option, Some, None, refl, sym, ap, ◌∙◌, arith, add-one}
use Rattle.std.proofs.lemmas.Bool.Decides.{nat_tests}
use Rattle.std.proofs.lemmas.List.{length_push}
use Rattle.std.proofs.lemmas.Option.{same_Some, slice_get_past, slice_get_within}
use Rattle.own_steps.specs.declared.entries.Entry.{Entry}
use Rattle.own_steps.specs.Layout.{is_of, is_own, own_place, step_in, before_in, steps_to, row, IsLinked}

-- what stands in a list to which one more joined
pub get-left : {A : Type 0} (xs ys : List A) (i : ℕ) → i < length xs → slice_get (xs ++ ys) i ≡ slice_get xs i
get-left [] ys i h = absurd (omega arith)
get-left (x ∷ xs) ys zero h = refl
get-left (x ∷ xs) ys (suc i) h = get-left xs ys i (omega arith)

pub get-seam : {A : Type 0} (xs : List A) (y : A) → slice_get (xs ++ y ∷ []) (length xs) ≡ Some y
get-seam [] y = refl
get-seam (x ∷ xs) y = get-seam xs y

pub same_is : (n : ℕ) → nat_eq n n ≡ true
same_is n = grind (arith, nat_tests)

pub apart_is : (m n : ℕ) → (m ≡ n → ⊥) → nat_eq m n ≡ false
apart_is m n h = grind (arith, nat_tests)

pub is_same : (m n : ℕ) → nat_eq m n ≡ true → m ≡ n
is_same m n h = grind (arith, nat_tests)

sides : (i n : ℕ) → (i < n) ⊎ (i ≡ n) ⊎ (n < i)
sides i n = grind arith

-- what no walk passes doesn't matter to it
pub steps_to-same : (n p : ℕ) (es fs : List Entry) → ((i : ℕ) → i < n → slice_get es i ≡ slice_get fs i) → steps_to n p es ≡ steps_to n p fs
steps_to-same zero p es fs same = refl
steps_to-same (suc n) p es fs same =
    let below = λ (i : ℕ) (h : i < n). same i (omega arith) in
    ap (λ o. cond (nat_eq p (suc n)) (steps_to n (before_in o) es ++ step_in o) (steps_to n p es)) (same n (omega arith))
    ∙ ap (λ qs. cond (nat_eq p (suc n)) (qs ++ step_in (slice_get fs n)) (steps_to n p es)) (steps_to-same n (before_in (slice_get fs n)) es fs below)
    ∙ ap (λ qs. cond (nat_eq p (suc n)) (steps_to n (before_in (slice_get fs n)) fs ++ step_in (slice_get fs n)) qs) (steps_to-same n p es fs below)

pub steps_to-none : (n : ℕ) (es : List Entry) → steps_to n 0 es ≡ []
steps_to-none zero es = refl
steps_to-none (suc n) es = ap (λ b. cond b (steps_to n (before_in (slice_get es n)) es ++ step_in (slice_get es n)) (steps_to n 0 es)) (apart_is 0 (suc n) (λ e. omega arith)) ∙ steps_to-none n es

steps_to-one : (n p : ℕ) (es : List Entry) → p ≤ n → steps_to (suc n) p es ≡ steps_to n p es
steps_to-one n p es h = ap (λ b. cond b (steps_to n (before_in (slice_get es n)) es ++ step_in (slice_get es n)) (steps_to n p es)) (apart_is p (suc n) (λ e. omega arith))

at_most : (k n : ℕ) → k ≤ suc n → (k ≤ n) ⊎ (k ≡ suc n)
at_most k n h = grind arith

-- a walk begins at its place
pub steps_to-from : (n k p : ℕ) (es : List Entry) → p ≤ k → k ≤ n → steps_to n p es ≡ steps_to k p es
steps_to-from zero k p es low high = let none : 0 ≡ k = omega arith in ap (λ m. steps_to m p es) none
steps_to-from (suc n) k p es low high =
    elim (at_most k n high) as (λ _. steps_to (suc n) p es ≡ steps_to k p es) [
      | inl below ↦ steps_to-one n p es (omega arith) ∙ steps_to-from n k p es low below
      | inr here ↦ ap (λ m. steps_to m p es) (sym here)
    ]

pub steps_to-here : (n : ℕ) (es : List Entry) → steps_to (suc n) (suc n) es ≡ steps_to n (before_in (slice_get es n)) es ++ step_in (slice_get es n)
steps_to-here n es = ap (λ b. cond b (steps_to n (before_in (slice_get es n)) es ++ step_in (slice_get es n)) (steps_to n (suc n) es)) (same_is (suc n))

-- an entry that is a thread's is there
of-some : (t : ℕ) (o : Option Entry) → is_of t o ≡ true → (e : Entry) × (o ≡ Some e) × (t ≡ e.thread.0)
of-some t None h = absurd (cc h)
of-some t (Some e) h = (e, refl, is_same t e.thread.0 h)

own-below : (t p : ℕ) (es : List Entry) → is_own t p es ≡ true → p ≤ length es
own-below t zero es h = omega arith
own-below t (suc i) es h = let found = of-some t (slice_get es i) h in let inside = slice_get_within es i found.0 found.1 in omega arith

within-by : (t p : ℕ) (es : List Entry) (b : Bool) → is_own t p es ≡ b → cond b p 0 ≤ length es
within-by t p es true h = own-below t p es h
within-by t p es false h = omega arith

pub own-within : (t p : ℕ) (es : List Entry) → own_place t p es ≤ length es
own-within t p es = within-by t p es (is_own t p es) refl

pub row-none : (t p : ℕ) (es : List Entry) → own_place t p es ≡ 0 → row t p es ≡ []
row-none t p es none = ap (λ m. steps_to (length es) m es) none ∙ steps_to-none (length es) es

-- whether a thread keeps a place, once an entry joined that isn't there for it
pub own-push : (t p : ℕ) (es : List Entry) (e : Entry) → (is_of t (Some e) ≡ true → p ≡ suc (length es) → ⊥) → is_own t p (es ++ e ∷ []) ≡ is_own t p es
own-push t zero es e other = refl
own-push t (suc i) es e other =
    let long : length (es ++ e ∷ []) ≡ length es + 1 = length_push es e in
    elim (sides i (length es)) as (λ _. is_own t (suc i) (es ++ e ∷ []) ≡ is_own t (suc i) es) [
      | inl early ↦ ap (is_of t) (get-left es (e ∷ []) i early)
      | inr (inl here) ↦
          ap (λ k. is_of t (slice_get (es ++ e ∷ []) k)) here
          ∙ ap (is_of t) (get-seam es e)
          ∙ (elim (is_of t (Some e)) as (λ b. is_of t (Some e) ≡ b → b ≡ false) [
            | true ↦ λ is. absurd (other is (ap suc here))
            | false ↦ λ is. refl
          ] refl)
          ∙ sym (ap (is_of t) (slice_get_past es i (omega arith)))
      | inr (inr past) ↦ ap (is_of t) (slice_get_past (es ++ e ∷ []) i (omega arith) ∙ sym (slice_get_past es i (omega arith)))
    ]

-- an entry joins behind all, and a thread doesn't lead to it
pub row-behind : (t p : ℕ) (es : List Entry) (e : Entry) → (is_of t (Some e) ≡ true → p ≡ suc (length es) → ⊥) → row t p (es ++ e ∷ []) ≡ row t p es
row-behind t p es e other =
    let n = length es in
    let within = own-within t p es in
    ap (λ b. steps_to (length (es ++ e ∷ [])) (cond b p 0) (es ++ e ∷ [])) (own-push t p es e other)
    ∙ ap (λ k. steps_to k (own_place t p es) (es ++ e ∷ [])) (length_push es e ∙ add-one n)
    ∙ steps_to-one n (own_place t p es) (es ++ e ∷ []) within
    ∙ steps_to-same n (own_place t p es) (es ++ e ∷ []) es (λ i h. get-left es (e ∷ []) i h)

-- the thread of the last entry leads to it from its place
pub own-seam : (es : List Entry) (e : Entry) → own_place e.thread.0 (suc (length es)) (es ++ e ∷ []) ≡ suc (length es)
own-seam es e = ap (λ b. cond b (suc (length es)) 0) (ap (is_of e.thread.0) (get-seam es e) ∙ same_is e.thread.0)

-- and one that leads to it has one step more
pub row-push : (t : ℕ) (es : List Entry) (e : Entry) → t ≡ e.thread.0 → row t (suc (length es)) (es ++ e ∷ []) ≡ steps_to (length es) e.before es ++ e.step.0 ∷ []
row-push t es e is =
    let n = length es in
    let whole = es ++ e ∷ [] in
    ap (λ b. steps_to (length whole) (cond b (suc n) 0) whole) (ap (is_of t) (get-seam es e) ∙ ap (nat_eq t) (sym is) ∙ same_is t)
    ∙ ap (λ k. steps_to k (suc n) whole) (length_push es e ∙ add-one n)
    ∙ steps_to-here n whole
    ∙ ap (λ o. steps_to n (before_in o) whole ++ step_in o) (get-seam es e)
    ∙ ap (λ qs. qs ++ e.step.0 ∷ []) (steps_to-same n e.before whole es (λ i h. get-left es (e ∷ []) i h))

zero-or : (n : ℕ) → (n ≡ 0) ⊎ (1 ≤ n)
zero-or n = grind arith

-- where an entry leads to is its thread's
pub own-before : (es : List Entry) (i : ℕ) (e : Entry) → IsLinked es → slice_get es i ≡ Some e → own_place e.thread.0 e.before es ≡ e.before
own-before es i e linked at =
    elim (zero-or e.before) as (λ _. own_place e.thread.0 e.before es ≡ e.before) [
      | inl none ↦ ap (λ p. own_place e.thread.0 p es) none ∙ sym none
      | inr some ↦ ap (λ b. cond b e.before 0) (linked.same i e at some)
    ]

-- the last step of a thread, and what is left without it
pub row-last : (t p i : ℕ) (es : List Entry) (e : Entry) → IsLinked es → own_place t p es ≡ suc i → slice_get es i ≡ Some e → t ≡ e.thread.0 → row t p es ≡ row t e.before es ++ e.step.0 ∷ []
row-last t p i es e linked place at is =
    let n = length es in
    let inside = slice_get_within es i e at in
    let early = linked.earlier i e at in
    ap (λ m. steps_to n m es) place
    ∙ steps_to-from n (suc i) (suc i) es (omega arith) (omega arith)
    ∙ steps_to-here i es
    ∙ ap (λ o. steps_to i (before_in o) es ++ step_in o) at
    ∙ ap (λ qs. qs ++ e.step.0 ∷ []) (sym (ap (λ m. steps_to n m es) (ap (λ u. own_place u e.before es) is ∙ own-before es i e linked at) ∙ steps_to-from n i e.before es early (omega arith)))

-- links without the last entry
pub linked-pop : (es : List Entry) (e : Entry) → IsLinked (es ++ e ∷ []) → IsLinked es
linked-pop es e linked = record {
  earlier = λ i x at. linked.earlier i x (get-left es (e ∷ []) i (slice_get_within es i x at) ∙ at);
  same = λ i x at some.
      let inside = slice_get_within es i x at in
      let whole : slice_get (es ++ e ∷ []) i ≡ Some x = get-left es (e ∷ []) i inside ∙ at in
      let early = linked.earlier i x whole in
      sym (own-push x.thread.0 x.before es e (λ is last. absurd (omega arith))) ∙ linked.same i x whole some;
  few = let long = length_push es e in let few = linked.few in omega arith;
}

own-by : (t p q : ℕ) (es : List Entry) (b : Bool) → is_own t p es ≡ b → cond b p 0 ≡ q → 1 ≤ q → is_own t q es ≡ true
own-by t p q es true own is some = ap (λ r. is_own t r es) (sym is) ∙ own
own-by t p q es false own is some = absurd (omega arith)

-- and with one more that leads to its thread's last step
pub linked-push : (es : List Entry) (e : Entry) (p : ℕ) → IsLinked es → e.before ≡ own_place e.thread.0 p es → length es + 1 ≤ 4294967295 → IsLinked (es ++ e ∷ [])
linked-push es e p linked before few = record {
  earlier = λ i x at.
      elim (sides i (length es)) as (λ _. x.before ≤ i) [
        | inl early ↦ linked.earlier i x (sym (get-left es (e ∷ []) i early) ∙ at)
        | inr (inl here) ↦
            let is : Some e ≡ Some x = sym (get-seam es e) ∙ ap (slice_get (es ++ e ∷ [])) (sym here) ∙ at in
            let within = own-within e.thread.0 p es in
            let same : e.before ≡ x.before = ap before_in is in
            omega arith
        | inr (inr past) ↦ let inside = slice_get_within (es ++ e ∷ []) i x at in let long = length_push es e in absurd (omega arith)
      ];
  same = λ i x at some.
      elim (sides i (length es)) as (λ _. is_own x.thread.0 x.before (es ++ e ∷ []) ≡ true) [
        | inl early ↦
            let old : slice_get es i ≡ Some x = sym (get-left es (e ∷ []) i early) ∙ at in
            let low = linked.earlier i x old in
            own-push x.thread.0 x.before es e (λ is last. absurd (omega arith)) ∙ linked.same i x old some
        | inr (inl here) ↦
            let is : e ≡ x = same_Some e x (sym (get-seam es e) ∙ ap (slice_get (es ++ e ∷ [])) (sym here) ∙ at) in
            let within = own-within e.thread.0 p es in
            let known : own_place e.thread.0 p es ≡ x.before = sym before ∙ ap (λ (y : Entry). y.before) is in
            own-push x.thread.0 x.before es e (λ own last. absurd (omega arith))
            ∙ ap (λ (y : Entry). is_own y.thread.0 x.before es) (sym is)
            ∙ own-by e.thread.0 p x.before es (is_own e.thread.0 p es) refl known some
        | inr (inr past) ↦ let inside = slice_get_within (es ++ e ∷ []) i x at in let long = length_push es e in absurd (omega arith)
      ];
  few = let long = length_push es e in omega arith;
}

at-place : (t p i : ℕ) (es : List Entry) (b : Bool) → is_own t p es ≡ b → cond b p 0 ≡ suc i → is_own t (suc i) es ≡ true
at-place t p i es true own is = ap (λ r. is_own t r es) (sym is) ∙ own
at-place t p i es false own is = absurd (omega arith)

-- the entry to which a thread leads is its own
pub own-here : (t p i : ℕ) (es : List Entry) (e : Entry) → own_place t p es ≡ suc i → slice_get es i ≡ Some e → t ≡ e.thread.0
own-here t p i es e place at = is_same t e.thread.0 (ap (is_of t) (sym at) ∙ at-place t p i es (is_own t p es) refl place)

place-by : (t p n : ℕ) (es : List Entry) (b : Bool) → is_own t p es ≡ b → cond b p 0 ≡ n → 1 ≤ n → p ≡ n
place-by t p n es true own is some = is
place-by t p n es false own is some = absurd (omega arith)

pub own-is : (t p n : ℕ) (es : List Entry) → own_place t p es ≡ n → 1 ≤ n → p ≡ n
own-is t p n es place some = place-by t p n es (is_own t p es) refl place some

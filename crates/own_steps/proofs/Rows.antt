-- All threads' steps: one of them changes, and there are no more steps than entries.
use Rattle.std.proofs.Common.{◌≡◌, ℕ, zero, suc, ◌+◌, ◌-◌, ◌<◌, ◌≤◌, true, false, cond, nat_eq, List, [], ◌∷◌, ◌++◌, get_or, length, take, slice_get, Some, refl, sym, ap, subst, ◌∙◌, arith, add-one}
use Rattle.std.specs.List.{slice_index_or, slice_set, sum_by}
use Rattle.std.proofs.Math.Seq.{take-append_seam}
use Rattle.std.proofs.lemmas.List.{get_or-set_same, length-set, length_push}
use Rattle.std.proofs.lemmas.List.Sums.{sum_by-cons, sum_by-set}
use Rattle.own_steps.specs.declared.entries.Entry.{Entry}
use Rattle.own_steps.specs.Own.{Seen, steps_of, last_step, but_last}
use Rattle.own_steps.specs.Layout.{is_of, own_place, steps_to, row, rows_from, IsLinked}
use Rattle.own_steps.proofs.Links.{is_same, same_is, get-seam, own-push, own-seam, own-here, own-is, own-before, linked-pop, row-none, row-behind, row-push, row-last}

pub rows-length : (k : ℕ) (heads : List ℕ) (es : List Entry) → length (rows_from k heads es) ≡ length heads
rows-length k [] es = refl
rows-length k (p ∷ heads) es = ap suc (rows-length (suc k) heads es)

-- the steps of one thread among those of all
pub rows-at : (k t n : ℕ) (heads : List ℕ) (es : List Entry) → k + t ≡ n → slice_index_or (rows_from k heads es) t [] ≡ row n (get_or heads t 0) es
rows-at k t n [] es at = sym (row-none n 0 es refl)
rows-at k zero n (p ∷ heads) es at = ap (λ m. row m p es) (omega arith)
rows-at k (suc t) n (p ∷ heads) es at = rows-at (suc k) t n heads es (omega arith)

-- what each thread keeps gives the same steps
pub rows-same : (k : ℕ) (heads : List ℕ) (es fs : List Entry) → ((i n : ℕ) → k + i ≡ n → row n (get_or heads i 0) es ≡ row n (get_or heads i 0) fs) → rows_from k heads es ≡ rows_from k heads fs
rows-same k [] es fs same = refl
rows-same k (p ∷ heads) es fs same =
    ap (λ qs. qs ∷ rows_from (suc k) heads es) (same 0 k (omega arith))
    ∙ ap (λ rows. row k p fs ∷ rows) (rows-same (suc k) heads es fs (λ i n at. same (suc i) n (omega arith)))

rows-above : (k n : ℕ) (heads : List ℕ) (es fs : List Entry) → n < k → ((m p : ℕ) → (m ≡ n → ⊥) → row m p fs ≡ row m p es) → rows_from k heads fs ≡ rows_from k heads es
rows-above k n heads es fs above other = rows-same k heads fs es (λ i m at. other m (get_or heads i 0) (λ is. omega arith))

-- one thread keeps another place
pub rows-set : (k i n v : ℕ) (heads : List ℕ) (es fs : List Entry) (qs : List ℕ) → k + i ≡ n → i < length heads → row n v fs ≡ qs → ((m p : ℕ) → (m ≡ n → ⊥) → row m p fs ≡ row m p es) → rows_from k (slice_set heads i v) fs ≡ slice_set (rows_from k heads es) i qs
rows-set k i n v [] es fs qs at inside is other = absurd (omega arith)
rows-set k zero n v (p ∷ heads) es fs qs at inside is other =
    let here : k ≡ n = omega arith in
    ap (λ rs. rs ∷ rows_from (suc k) heads fs) (ap (λ m. row m v fs) here ∙ is)
    ∙ ap (λ rows. qs ∷ rows) (rows-above (suc k) n heads es fs (omega arith) other)
rows-set k (suc i) n v (p ∷ heads) es fs qs at inside is other =
    ap (λ rs. rs ∷ rows_from (suc k) (slice_set heads i v) fs) (other k p (λ here. omega arith))
    ∙ ap (λ rows. row k p es ∷ rows) (rows-set (suc k) i n v heads es fs qs (omega arith) (omega arith) is other)

not_of : (m : ℕ) (e : Entry) → (m ≡ e.thread.0 → ⊥) → is_of m (Some e) ≡ true → ⊥
not_of m e apart is = apart (is_same m e.thread.0 is)

-- a step joins
pub rows-push : (heads : List ℕ) (es : List Entry) (e : Entry) (qs : List ℕ) → e.thread.0 < length heads → steps_to (length es) e.before es ≡ qs → rows_from 0 (slice_set heads e.thread.0 (suc (length es))) (es ++ e ∷ []) ≡ slice_set (rows_from 0 heads es) e.thread.0 (qs ++ e.step.0 ∷ [])
rows-push heads es e qs inside are =
    rows-set 0 e.thread.0 e.thread.0 (suc (length es)) heads es (es ++ e ∷ []) (qs ++ e.step.0 ∷ []) (omega arith) inside
    (row-push e.thread.0 es e refl ∙ ap (λ rs. rs ++ e.step.0 ∷ []) are)
    (λ m p apart. row-behind m p es e (λ is. absurd (not_of m e apart is)))

-- an entry to which no thread leads goes
pub rows-behind : (heads : List ℕ) (es : List Entry) (e : Entry) → (get_or heads e.thread.0 0 ≡ suc (length es) → ⊥) → (t : ℕ) → row t (get_or heads t 0) (es ++ e ∷ []) ≡ row t (get_or heads t 0) es
rows-behind heads es e unused t =
    row-behind t (get_or heads t 0) es e (λ is last. unused (ap (λ u. get_or heads u 0) (sym (is_same t e.thread.0 is)) ∙ last))

pub data Ends (es : List Entry) (n : ℕ) : Type 0 where
  ends : (fs : List Entry) (e : Entry) → es ≡ fs ++ e ∷ [] → length fs ≡ n → Ends es n

pub at_end : (es : List Entry) (n : ℕ) → length es ≡ suc n → Ends es n
at_end [] n long = absurd (omega arith)
at_end (e ∷ []) n long = ends [] e refl (omega arith)
at_end (e ∷ f ∷ es) zero long = absurd (omega arith)
at_end (e ∷ f ∷ es) (suc n) long =
    elim (at_end (f ∷ es) n (omega arith)) as (λ _. Ends (e ∷ f ∷ es) (suc n)) [
      | ends fs g is short ↦ ends (e ∷ fs) g (ap (λ gs. e ∷ gs) is) (ap suc short)
    ]

set_back : (heads : List ℕ) (t v w : ℕ) → get_or heads t 0 ≡ w → slice_set (slice_set heads t v) t w ≡ heads
set_back [] t v w is = refl
set_back (p ∷ heads) zero v w is = ap (λ q. q ∷ heads) (sym is)
set_back (p ∷ heads) (suc t) v w is = ap (λ qs. p ∷ qs) (set_back heads t v w is)

some_inside : (heads : List ℕ) (t n : ℕ) → get_or heads t 0 ≡ n → 1 ≤ n → t < length heads
some_inside [] zero n is some = absurd (omega arith)
some_inside [] (suc t) n is some = absurd (omega arith)
some_inside (p ∷ heads) zero n is some = omega arith
some_inside (p ∷ heads) (suc t) n is some = let inside = some_inside heads t n is some in omega arith

-- a thread that leads to an entry has a number
pub own-inside : (heads : List ℕ) (t n : ℕ) (es : List Entry) → own_place t (get_or heads t 0) es ≡ n → 1 ≤ n → t < length heads
own-inside heads t n es place some = some_inside heads t n (own-is t (get_or heads t 0) n es place some) some

last-before : (fs : List Entry) (e : Entry) → IsLinked (fs ++ e ∷ []) → own_place e.thread.0 e.before fs ≡ e.before
last-before fs e linked =
    let early = linked.earlier (length fs) e (get-seam fs e) in
    ap (λ b. cond b e.before 0) (sym (own-push e.thread.0 e.before fs e (λ is last. absurd (omega arith))))
    ∙ own-before (fs ++ e ∷ []) (length fs) e linked (get-seam fs e)

-- there are no more steps than entries: with the last entry at most one step goes
module _ (heads : List ℕ) (fs : List Entry) (e : Entry) (linked : IsLinked (fs ++ e ∷ [])) (fewer : (hs : List ℕ) → sum_by length (rows_from 0 hs fs) ≤ length fs) where
  one-used : get_or heads e.thread.0 0 ≡ suc (length fs) → sum_by length (rows_from 0 heads (fs ++ e ∷ [])) ≤ suc (length fs)
  one-used used =
      let t = e.thread.0 in
      let inside = some_inside heads t (suc (length fs)) used (omega arith) in
      let hs = slice_set heads t e.before in
      let long : length hs ≡ length heads = length-set heads t e.before in
      let kept : get_or hs t 0 ≡ e.before = get_or-set_same heads t e.before 0 inside in
      let before : List ℕ = steps_to (length fs) e.before fs in
      let rows = rows_from 0 hs fs in
      let own : own_place t e.before fs ≡ e.before = last-before fs e linked in
      let at : slice_index_or rows t [] ≡ before = rows-at 0 t t hs fs (omega arith) ∙ ap (λ p. row t p fs) kept ∙ ap (λ m. steps_to (length fs) m fs) own in
      let is : rows_from 0 heads (fs ++ e ∷ []) ≡ slice_set rows t (before ++ e.step.0 ∷ []) = ap (λ qs. rows_from 0 qs (fs ++ e ∷ [])) (sym (set_back heads t e.before (suc (length fs)) used)) ∙ rows-push hs fs e before (omega arith) refl in
      let sums = sum_by-set length rows t (before ++ e.step.0 ∷ []) [] (let same = rows-length 0 hs fs in omega arith) in
      let one = length_push before e.step.0 in
      let old = ap length at in
      let low = fewer hs in
      subst (λ rs. sum_by length rs ≤ suc (length fs)) (sym is) (omega arith)

zero_more : (i m : ℕ) → 0 + i ≡ m → i ≡ m
zero_more i m at = omega arith

none-used : (k : ℕ) (heads : List ℕ) → sum_by length (rows_from k heads []) ≡ 0
none-used k [] = refl
none-used k (p ∷ heads) = let first = sum_by-cons length [] (rows_from (suc k) heads []) in let rest = none-used (suc k) heads in omega arith

pub no-more : (n : ℕ) (heads : List ℕ) (es : List Entry) → length es ≡ n → IsLinked es → sum_by length (rows_from 0 heads es) ≤ n
no-more zero heads [] long linked = let none = none-used 0 heads in omega arith
no-more zero heads (e ∷ es) long linked = absurd (omega arith)
no-more (suc n) heads es long linked =
    elim (at_end es n long) as (λ _. sum_by length (rows_from 0 heads es) ≤ suc n) [
      | ends fs e is short ↦
          subst (λ gs. sum_by length (rows_from 0 heads gs) ≤ suc n) (sym is)
          (let whole : IsLinked (fs ++ e ∷ []) = subst IsLinked is linked in
          let fewer : (hs : List ℕ) → sum_by length (rows_from 0 hs fs) ≤ length fs = λ hs. subst (λ m. sum_by length (rows_from 0 hs fs) ≤ m) (sym short) (no-more n hs fs short (linked-pop fs e whole)) in
          elim (nat_eq (get_or heads e.thread.0 0) (suc (length fs))) as (λ b. nat_eq (get_or heads e.thread.0 0) (suc (length fs)) ≡ b → sum_by length (rows_from 0 heads (fs ++ e ∷ [])) ≤ suc n) [
            | true ↦ λ used. let at = one-used heads fs e whole fewer (is_same (get_or heads e.thread.0 0) (suc (length fs)) used) in omega arith
            | false ↦ λ unused.
                let same : rows_from 0 heads (fs ++ e ∷ []) ≡ rows_from 0 heads fs = rows-same 0 heads (fs ++ e ∷ []) fs (λ i m at. subst (λ u. row u (get_or heads i 0) (fs ++ e ∷ []) ≡ row u (get_or heads i 0) fs) (zero_more i m at) (rows-behind heads fs e (λ is. absurd (cc (unused, ap (λ q. nat_eq q (suc (length fs))) is, same_is (suc (length fs))))) i)) in
                let low = fewer heads in
                subst (λ rs. sum_by length rs ≤ suc n) (sym same) (omega arith)
          ] refl)
    ]

-- what callers see of a thread
pub seen-row : (s : Seen) (heads : List ℕ) (es : List Entry) (t : ℕ) → rows_from 0 heads es ≡ s.steps → steps_of s t ≡ row t (get_or heads t 0) es
seen-row s heads es t is = ap (λ rows. slice_index_or rows t []) (sym is) ∙ rows-at 0 t t heads es (omega arith)

pub last-end : (qs : List ℕ) (q : ℕ) → last_step (qs ++ q ∷ []) ≡ Some q
last-end qs q = let long : length (qs ++ q ∷ []) - 1 ≡ length qs = omega (arith, length_push qs q) in ap (slice_get (qs ++ q ∷ [])) long ∙ get-seam qs q

pub but-end : (qs : List ℕ) (q : ℕ) → but_last (qs ++ q ∷ []) ≡ qs
but-end qs q = let long : length (qs ++ q ∷ []) - 1 ≡ length qs = omega (arith, length_push qs q) in ap (λ n. take n (qs ++ q ∷ [])) long ∙ take-append_seam qs (q ∷ [])

-- some steps are all but the last one with it
pub whole-last : (qs : List ℕ) (q : ℕ) → last_step qs ≡ Some q → qs ≡ but_last qs ++ q ∷ []
whole-last [] q is = cc
whole-last (p ∷ []) q is = cc
whole-last (p ∷ r ∷ qs) q is =
    let one : length (p ∷ r ∷ qs) - 1 ≡ suc (length (r ∷ qs) - 1) = omega arith in
    let later : last_step (r ∷ qs) ≡ Some q = sym (ap (slice_get (p ∷ r ∷ qs)) one) ∙ is in
    ap (λ rs. p ∷ rs) (whole-last (r ∷ qs) q later) ∙ ap (λ n. take n (p ∷ r ∷ qs) ++ q ∷ []) (sym one)

less-one : (i : ℕ) → i ≡ suc i - 1
less-one i = omega arith

-- a thread leads to its last step
pub row-end : (t p n : ℕ) (es : List Entry) (e : Entry) → IsLinked es → own_place t p es ≡ n → 1 ≤ n → slice_get es (n - 1) ≡ Some e → row t p es ≡ row t e.before es ++ e.step.0 ∷ []
row-end t p zero es e linked place some at = absurd (omega arith)
row-end t p (suc i) es e linked place some at =
    let here : slice_get es i ≡ Some e = ap (slice_get es) (less-one i) ∙ at in
    row-last t p i es e linked place here (own-here t p i es e place here)

default-grown : (heads : List ℕ) (t : ℕ) → get_or (heads ++ 0 ∷ []) t 0 ≡ get_or heads t 0
default-grown [] zero = refl
default-grown [] (suc t) = refl
default-grown (p ∷ heads) zero = refl
default-grown (p ∷ heads) (suc t) = default-grown heads t

-- a thread more that keeps no place
pub rows-grown : (heads : List ℕ) (es : List Entry) (t : ℕ) → slice_index_or (rows_from 0 (heads ++ 0 ∷ []) es) t [] ≡ slice_index_or (rows_from 0 heads es) t []
rows-grown heads es t = rows-at 0 t t (heads ++ 0 ∷ []) es (omega arith) ∙ ap (λ p. row t p es) (default-grown heads t) ∙ sym (rows-at 0 t t heads es (omega arith))

-- the last entry goes, to which no thread leads
pub pop-unused : (heads : List ℕ) (es fs : List Entry) (e : Entry) → es ≡ fs ++ e ∷ [] → IsLinked es → (own_place e.thread.0 (get_or heads e.thread.0 0) es ≡ length es → ⊥) → ((t : ℕ) → row t (get_or heads t 0) fs ≡ row t (get_or heads t 0) es) × IsLinked fs
pop-unused heads es fs e is linked unused =
    let long : length (fs ++ e ∷ []) ≡ suc (length fs) = length_push fs e ∙ add-one (length fs) in
    let free : get_or heads e.thread.0 0 ≡ suc (length fs) → ⊥ = λ used. unused (
    ap (λ gs. own_place e.thread.0 (get_or heads e.thread.0 0) gs) is
    ∙ ap (λ p. own_place e.thread.0 p (fs ++ e ∷ [])) used
    ∙ own-seam fs e
    ∙ sym long
    ∙ ap length (sym is)) in (
      λ t. sym (ap (row t (get_or heads t 0)) is ∙ rows-behind heads fs e free t),
      linked-pop fs e (subst IsLinked is linked),
    )

-- what is there in its place changes nothing
pub set-self : (rows : List (List ℕ)) (t : ℕ) → slice_set rows t (slice_index_or rows t []) ≡ rows
set-self [] t = refl
set-self (qs ∷ rows) zero = refl
set-self (qs ∷ rows) (suc t) = ap (λ rs. qs ∷ rs) (set-self rows t)

-- the last step of a thread goes
pub rows-pop : (heads : List ℕ) (es : List Entry) (t n : ℕ) (e : Entry) → IsLinked es → own_place t (get_or heads t 0) es ≡ n → 1 ≤ n → slice_get es (n - 1) ≡ Some e → rows_from 0 (slice_set heads t e.before) es ≡ slice_set (rows_from 0 heads es) t (but_last (row t (get_or heads t 0) es))
rows-pop heads es t n e linked place some at =
    rows-set 0 t t e.before heads es es (but_last (row t (get_or heads t 0) es)) (omega arith) (own-inside heads t n es place some)
    (sym (ap but_last (row-end t (get_or heads t 0) n es e linked place some at) ∙ but-end (row t e.before es) e.step.0))
    (λ m p apart. refl)

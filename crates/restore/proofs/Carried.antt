-- The parts of a rollback when one more thread goes back and one more node is struck.
use Rattle.std.proofs.Common.{◌≡◌, ℕ, zero, suc, ◌<◌, ◌≤◌, ◌+◌, Bool, true, false, cond, not, ◌&&◌, ◌||◌, nat_eq, List, [], ◌∷◌, ◌++◌, length, get_or, take, Option, Some, None, is_some, option_map, refl, sym, ap, subst, ◌∙◌, arith, append_assoc}
use Rattle.std.specs.Prelude.{filter, option_and_then}
use Rattle.std.specs.Ordering.{nat_cmp}
use Rattle.std.specs.FinMap as map
use Rattle.std.specs.FinMap.{FinMap}
use Rattle.std.proofs.lemmas.Bool.{false≢true}
use Rattle.std.proofs.lemmas.Bool.Decides.{nat_tests}
use Rattle.std.proofs.lemmas.List.{take_all, take_more, get_or-map}
use Rattle.std.proofs.lemmas.List.Folds.{list_any-append}
use Rattle.linked_lists.specs.Lists.{is_listed, without}
use Rattle.linked_lists.proofs.Leaving.{without-absent, neither}
use Rattle.linked_lists.proofs.Numbered.{removed}
use Rattle.stab_base.specs.declared.numbers.Seq.{Seq}
use Rattle.stab_base.specs.declared.numbers.ThreadId.{ThreadId}
use Rattle.comm_graph.specs.Node.{Node}
use Rattle.comm_graph.specs.Edge.{kind_at, from_number, kind_of}
use Rattle.reach_line.specs.Reached.{has, IsOnce}
use Rattle.rendezvous.specs.Line as waiting
use Rattle.rendezvous.specs.Line.{left}
use Rattle.thread_slots.specs.Slot.{Slot, restored, changed}
use Rattle.thread_slots.proofs.CallerLemmas.{get-changed}
use Rattle.restore.specs.declared.line.Line.{Line}
use Rattle.restore.specs.declared.line.Line.TheVariants.{From, Gone}
use Rattle.restore.specs.Found.{numbers}
use Rattle.restore.specs.Left.{LineMap, is_from, put_back, others, without_all, unmarked}

or_false : (b : Bool) → (b || false) ≡ b
or_false true = refl
or_false false = refl

or_true : (b : Bool) → (b || true) ≡ true
or_true true = refl
or_true false = refl

not_or : (a b : Bool) → not (a || b) ≡ (not b && not a)
not_or true true = refl
not_or true false = refl
not_or false true = refl
not_or false false = refl

either : {X : Type 0} (a b : Bool) (o : Option X) → cond a None (cond b None o) ≡ cond (b || a) None o
either true true o = refl
either true false o = refl
either false true o = refl
either false false o = refl

flipped : (a b : ℕ) → nat_eq a b ≡ nat_eq b a
flipped a b = grind (arith, nat_tests)

filter-filter : {X : Type 0} (p q : X → Bool) (xs : List X) → filter p (filter q xs) ≡ filter (λ x. p x && q x) xs
filter-filter p q [] = refl
filter-filter p q (x ∷ xs) =
    elim (q x) as (λ b. filter p (cond b (x ∷ filter q xs) (filter q xs)) ≡ cond (p x && b) (x ∷ filter (λ x. p x && q x) xs) (filter (λ x. p x && q x) xs)) [
      | true ↦ elim (p x) as (λ b. cond b (x ∷ filter p (filter q xs)) (filter p (filter q xs)) ≡ cond (b && true) (x ∷ filter (λ x. p x && q x) xs) (filter (λ x. p x && q x) xs)) [
        | true ↦ ap (λ l. x ∷ l) (filter-filter p q xs)
        | false ↦ filter-filter p q xs
      ]
      | false ↦ elim (p x) as (λ b. filter p (filter q xs) ≡ cond (b && false) (x ∷ filter (λ x. p x && q x) xs) (filter (λ x. p x && q x) xs)) [
        | true ↦ filter-filter p q xs
        | false ↦ filter-filter p q xs
      ]
    ]

pub filter-same : {X : Type 0} (p q : X → Bool) (xs : List X) → ((x : X) → p x ≡ q x) → filter p xs ≡ filter q xs
filter-same p q [] is = refl
filter-same p q (x ∷ xs) is = ap (λ b. cond b (x ∷ filter p xs) (filter p xs)) (is x) ∙ ap (λ l. cond (q x) (x ∷ l) l) (filter-same p q xs is)

-- those that aren't listed, with one more listed
pub others_more : (done : List ℕ) (t : ℕ) (xs : List ℕ) → without t (others (λ u. is_listed u done) xs) ≡ others (λ u. is_listed u (done ++ t ∷ [])) xs
others_more done t xs =
    filter-filter (λ u. not (nat_eq t u)) (λ u. not (is_listed u done)) xs
    ∙ filter-same (λ u. not (nat_eq t u) && not (is_listed u done)) (λ u. not (is_listed u (done ++ t ∷ []))) xs
    (λ u. ap (λ b. not b && not (is_listed u done)) (flipped t u ∙ sym (or_false (nat_eq u t))) ∙ sym (not_or (is_listed u done) (nat_eq u t || false)) ∙ ap (λ b. not b) (sym (list_any-append (nat_eq u) done (t ∷ []))))

pub others_none : (xs : List ℕ) → others (λ u. is_listed u []) xs ≡ xs
others_none [] = refl
others_none (x ∷ xs) = ap (λ l. x ∷ l) (others_none xs)

same_line : {a b c d : List ℕ} → a ≡ b → c ≡ d → ◌≡◌ {A = waiting.Line} (record { sends = a; receives = c }) (record { sends = b; receives = d })
same_line p q = λ i. record { sends = p i; receives = q i }

-- who waits but for one thread more
pub left_more : (done : List ℕ) (t : ℕ) (o : Option waiting.Line) → option_map (left t) (option_map (without_all (λ u. is_listed u done)) o) ≡ option_map (without_all (λ u. is_listed u (done ++ t ∷ []))) o
left_more done t None = refl
left_more done t (Some line) = ap (λ l. Some l) (same_line (others_more done t line.sends) (others_more done t line.receives))

pub left_none : (o : Option waiting.Line) → option_map (without_all (λ u. is_listed u [])) o ≡ o
left_none None = refl
left_none (Some line) = ap (λ l. Some l) (same_line (others_none line.sends) (others_none line.receives))

pub without-same : (p q : ℕ → Bool) (o : Option waiting.Line) → ((u : ℕ) → p u ≡ q u) → option_map (without_all p) o ≡ option_map (without_all q) o
without-same p q None is = refl
without-same p q (Some line) is = ap (λ l. Some l) (same_line (filter-same _ _ line.sends (λ u. ap (λ b. not b) (is u))) (filter-same _ _ line.receives (λ u. ap (λ b. not b) (is u))))

-- what is taken away at one more number
pub cond_more : {X : Type 0} (done : List ℕ) (t u : ℕ) (w o : Option X) → w ≡ cond (is_listed u done) None o → cond (nat_eq u t) None w ≡ cond (is_listed u (done ++ t ∷ [])) None o
cond_more done t u w o is =
    ap (λ w. cond (nat_eq u t) None w) is
    ∙ either (nat_eq u t) (is_listed u done) o
    ∙ ap (λ b. cond b None o) (ap (λ b. is_listed u done || b) (sym (or_false (nat_eq u t))) ∙ sym (list_any-append (nat_eq u) done (t ∷ [])))

-- ---- places of lists without repetition

clash : {P : Type 0} (b : Bool) → b ≡ true → b ≡ false → P
clash b t f = absurd (false≢true (sym f ∙ t))

has_get : (xs : List ℕ) (i : ℕ) → i < length xs → is_listed (get_or xs i 0) xs ≡ true
has_get [] i low = absurd (omega arith)
has_get (x ∷ xs) zero low = (let e : nat_eq x x ≡ true = grind (arith, nat_tests) in ap (λ b. b || is_listed x xs) e)
has_get (x ∷ xs) (suc i) low = ap (λ b. nat_eq (get_or xs i 0) x || b) (has_get xs i (omega arith)) ∙ or_true (nat_eq (get_or xs i 0) x)

-- what stands at a place doesn't stand before it
pub not_before : (xs : List ℕ) (i : ℕ) → IsOnce xs → i < length xs → is_listed (get_or xs i 0) (take i xs) ≡ false
not_before [] i once low = absurd (omega arith)
not_before (x ∷ xs) zero once low = refl
not_before (x ∷ xs) (suc i) once low =
    elim (nat_eq (get_or xs i 0) x) as (λ b. nat_eq (get_or xs i 0) x ≡ b → (b || is_listed (get_or xs i 0) (take i xs)) ≡ false) [
      | true ↦ λ e. clash (is_listed x xs) (ap (λ k. is_listed k xs) (let same : x ≡ get_or xs i 0 = grind (arith, nat_tests) in same) ∙ has_get xs i (omega arith)) once.0
      | false ↦ λ e. not_before xs i once.1 (omega arith)
    ] refl

alike : (a b : ℕ) → a ≡ b → nat_eq a b ≡ true
alike a b same = grind (arith, nat_tests)

equal : (a b : ℕ) → nat_eq a b ≡ true → a ≡ b
equal a b e = grind (arith, nat_tests)

same_thread : (t u : ThreadId) → u.0 ≡ t.0 → t ≡ u
same_thread t u same = sym (λ i. record { 0 = same i })

listed_last : (done : List ℕ) (t : ℕ) → is_listed t (done ++ t ∷ []) ≡ true
listed_last done t = list_any-append (nat_eq t) done (t ∷ []) ∙ ap (λ b. is_listed t done || (b || false)) (alike t t refl) ∙ or_true (is_listed t done)

listed_others : (done : List ℕ) (t u : ℕ) → nat_eq u t ≡ false → is_listed u (done ++ t ∷ []) ≡ is_listed u done
listed_others done t u other = list_any-append (nat_eq u) done (t ∷ []) ∙ ap (λ b. is_listed u done || (b || false)) other ∙ or_false (is_listed u done)

-- ---- the queue

filter-append : {X : Type 0} (p : X → Bool) (xs ys : List X) → filter p (xs ++ ys) ≡ filter p xs ++ filter p ys
filter-append p [] ys = refl
filter-append p (x ∷ xs) ys =
    elim (p x) as (λ b. cond b (x ∷ filter p (xs ++ ys)) (filter p (xs ++ ys)) ≡ cond b (x ∷ filter p xs) (filter p xs) ++ filter p ys) [
      | true ↦ ap (λ l. x ∷ l) (filter-append p xs ys)
      | false ↦ filter-append p xs ys
    ]

unlisted-filter : (p : ℕ → Bool) (t : ℕ) (xs : List ℕ) → is_listed t xs ≡ false → is_listed t (filter p xs) ≡ false
unlisted-filter p t [] out = refl
unlisted-filter p t (x ∷ xs) out =
    let parts = neither (nat_eq t x) (is_listed t xs) out in
    elim (p x) as (λ b. is_listed t (cond b (x ∷ filter p xs) (filter p xs)) ≡ false) [
      | true ↦ ap (λ b. b || is_listed t (filter p xs)) parts.0 ∙ unlisted-filter p t xs parts.1
      | false ↦ unlisted-filter p t xs parts.1
    ]

pub others-same : (p q : ℕ → Bool) (xs : List ℕ) → ((x : ℕ) → p x ≡ q x) → others p xs ≡ others q xs
others-same p q xs is = filter-same (λ x. not (p x)) (λ x. not (q x)) xs (λ x. ap (λ b. not b) (is x))

-- the queue with one more thread put back
pub queue_more : (back : ℕ → Bool) (done : List ℕ) (t : ℕ) (queue now : List ℕ) (b : Bool) → is_listed t done ≡ false → back t ≡ b → now ≡ others (λ u. is_listed u done) queue ++ filter back done
    → without t now ++ cond b (t ∷ []) [] ≡ others (λ u. is_listed u (done ++ t ∷ [])) queue ++ filter back (done ++ t ∷ [])
queue_more back done t queue now b out is was =
    ap (λ l. without t l ++ cond b (t ∷ []) []) was
    ∙ ap (λ l. l ++ cond b (t ∷ []) []) (filter-append (λ u. not (nat_eq t u)) (others (λ u. is_listed u done) queue) (filter back done) ∙ ap (λ l. without t (others (λ u. is_listed u done) queue) ++ l) (without-absent t (filter back done) (unlisted-filter back t done out)))
    ∙ ap (λ l. (l ++ filter back done) ++ cond b (t ∷ []) []) (others_more done t queue)
    ∙ append_assoc (others (λ u. is_listed u (done ++ t ∷ [])) queue) (filter back done) (cond b (t ∷ []) [])
    ∙ ap (λ l. others (λ u. is_listed u (done ++ t ∷ [])) queue ++ l) (ap (λ b. filter back done ++ cond b (t ∷ []) []) (sym is) ∙ sym (filter-append back done (t ∷ [])))

-- ---- threads and what is saved of them

module _ {C : Type 0} where
  pub back_one : (saved : ℕ → Option C) (line : Line) (q : Seq) (control : C) (slot : Option (Slot C)) → line ≡ From q → saved q.0 ≡ Some control → option_map (restored control) slot ≡ put_back saved (Some line) slot
  back_one saved line q control slot is found = sym (ap (λ l. put_back saved (Some l) slot) is ∙ ap (option_and_then (λ c. option_map (restored c) slot)) found)

  pub gone_one : (saved : ℕ → Option C) (line : Line) (slot : Option (Slot C)) → line ≡ Gone → None ≡ put_back saved (Some line) slot
  gone_one saved line slot is = sym (ap (λ l. put_back saved (Some l) slot) is)

  -- of the thread itself, and of another one, when the slot of one is changed
  pub changed_here : (threads : FinMap nat_cmp (Slot C)) (t : ℕ) (f : Slot C → Slot C) → map.get (changed threads t f) t ≡ option_map f (map.get threads t)
  changed_here threads t f = get-changed threads t t f ∙ ap (λ b. cond b (option_map f (map.get threads t)) (map.get threads t)) (alike t t refl)

  pub changed_other : (threads : FinMap nat_cmp (Slot C)) (t u : ℕ) (f : Slot C → Slot C) → nat_eq u t ≡ false → map.get (changed threads t f) u ≡ map.get threads u
  changed_other threads t u f other = get-changed threads t u f ∙ ap (λ b. cond b (option_map f (map.get threads t)) (map.get threads u)) (flipped t u ∙ other)

  pub removed_here : (threads : FinMap nat_cmp (Slot C)) (t : ℕ) → map.get (map.remove threads t) t ≡ None
  removed_here threads t = removed threads t t ∙ ap (λ b. cond b None (map.get threads t)) (alike t t refl)

  pub removed_other : (threads : FinMap nat_cmp (Slot C)) (t u : ℕ) → nat_eq u t ≡ false → map.get (map.remove threads t) u ≡ map.get threads u
  removed_other threads t u other = removed threads t u ∙ ap (λ b. cond b None (map.get threads u)) other

  put_back-same : (s r : ℕ → Option C) (line : Option Line) (slot : Option (Slot C)) → ((q : ℕ) → s q ≡ r q) → put_back s line slot ≡ put_back r line slot
  put_back-same s r None slot is = refl
  put_back-same s r (Some Gone) slot is = refl
  put_back-same s r (Some (From q)) slot is = ap (option_and_then (λ c. option_map (restored c) slot)) (is q.0)

  -- one more thread was put back
  pub threads_more : (lines : LineMap) (done : List ℕ) (t u : ThreadId) (saved now : ThreadId → ℕ → Option C) (old threads new : FinMap nat_cmp (Slot C)) (line : Option Line) → line ≡ map.get lines t.0 → is_listed t.0 done ≡ false
      → map.get new t.0 ≡ put_back (now t) line (map.get threads t.0) → ((k : ℕ) → nat_eq k t.0 ≡ false → map.get new k ≡ map.get threads k) → ((q : ℕ) → now t q ≡ saved t q)
      → ((k : ThreadId) → map.get threads k.0 ≡ cond (is_listed k.0 done) (put_back (saved k) (map.get lines k.0) (map.get old k.0)) (map.get old k.0))
      → map.get new u.0 ≡ cond (is_listed u.0 (done ++ t.0 ∷ [])) (put_back (saved u) (map.get lines u.0) (map.get old u.0)) (map.get old u.0)
  threads_more lines done t u saved now old threads new line is out here others kept was =
      let Q : ThreadId → Type 0 = λ k. map.get new k.0 ≡ cond (is_listed k.0 (done ++ t.0 ∷ [])) (put_back (saved k) (map.get lines k.0) (map.get old k.0)) (map.get old k.0) in
      elim (nat_eq u.0 t.0) as (λ b. nat_eq u.0 t.0 ≡ b → Q u) [
        | true ↦ λ e. subst Q (same_thread t u (equal u.0 t.0 e))
            (here ∙ ap (put_back (now t) line) (was t ∙ ap (λ b. cond b (put_back (saved t) (map.get lines t.0) (map.get old t.0)) (map.get old t.0)) out)
            ∙ put_back-same (now t) (saved t) line (map.get old t.0) kept ∙ ap (λ l. put_back (saved t) l (map.get old t.0)) is
            ∙ sym (ap (λ b. cond b (put_back (saved t) (map.get lines t.0) (map.get old t.0)) (map.get old t.0)) (listed_last done t.0)))
        | false ↦ λ e. others u.0 e ∙ was u ∙ ap (λ b. cond b (put_back (saved u) (map.get lines u.0) (map.get old u.0)) (map.get old u.0)) (sym (listed_others done t.0 u.0 e))
      ] refl

  -- what is left of the saved controls when one more was taken
  pub saved_more : (lines : LineMap) (done : List ℕ) (t u : ThreadId) (q : ℕ) (line : Option Line) (new now old : Option C) → line ≡ map.get lines t.0 → is_listed t.0 done ≡ false
      → new ≡ cond (nat_eq u.0 t.0 && is_from q line) None now → now ≡ cond (is_listed u.0 done && is_from q (map.get lines u.0)) None old
      → new ≡ cond (is_listed u.0 (done ++ t.0 ∷ []) && is_from q (map.get lines u.0)) None old
  saved_more lines done t u q line new now old is out left was =
      let Q : Bool → Type 0 = λ b. new ≡ cond (b && is_from q (map.get lines u.0)) None old in
      elim (nat_eq u.0 t.0) as (λ b. nat_eq u.0 t.0 ≡ b → new ≡ cond (b && is_from q line) None now → new ≡ cond (is_listed u.0 (done ++ t.0 ∷ []) && is_from q (map.get lines u.0)) None old) [
        | true ↦ λ e l.
            let same : u.0 ≡ t.0 = equal u.0 t.0 e in
            subst Q (sym (ap (λ k. is_listed k (done ++ t.0 ∷ [])) same ∙ listed_last done t.0))
            (l ∙ ap (λ o. cond (is_from q line) None o) (was ∙ ap (λ b. cond (b && is_from q (map.get lines u.0)) None old) (ap (λ k. is_listed k done) same ∙ out)) ∙ ap (λ m. cond (is_from q m) None old) (is ∙ ap (map.get lines) (sym same)))
        | false ↦ λ e l. subst Q (sym (listed_others done t.0 u.0 e)) (l ∙ was)
      ] refl left

  -- a thread that wasn't gone through yet is as it was, and so is what is saved of it
  pub thread_still : (threads : Option (Slot C)) (b : Bool) (back old : Option (Slot C)) → b ≡ false → threads ≡ cond b back old → threads ≡ old
  thread_still threads b back old out was = was ∙ ap (λ b. cond b back old) out

  pub saved_still : (now : Option C) (b from : Bool) (old : Option C) → b ≡ false → now ≡ cond (b && from) None old → now ≡ old
  saved_still now b from old out was = was ∙ ap (λ b. cond (b && from) None old) out

  -- once all touched threads were put back
  pub threads_all : (saved : ℕ → Option C) (o : Option Line) (slot : Option (Slot C)) → cond (is_some o) (put_back saved o slot) slot ≡ put_back saved o slot
  threads_all saved None slot = refl
  threads_all saved (Some line) slot = refl

pub saved_all : (q : ℕ) (o : Option Line) → (is_some o && is_from q o) ≡ is_from q o
saved_all q None = refl
saved_all q (Some line) = refl

-- ---- the threads that are gone through

length-numbers : (ts : List ThreadId) → length (numbers ts) ≡ length ts
length-numbers [] = refl
length-numbers (t ∷ ts) = ap suc (length-numbers ts)

at_key : (ts : List ThreadId) (ks : List ℕ) (i : ℕ) → i < length ts → numbers ts ≡ ks → get_or ks i 0 ≡ (get_or ts i (record { 0 = 0 })).0
at_key ts ks i low is = ap (λ l. get_or l i 0) (sym is) ∙ get_or-map (λ (t : ThreadId). t.0) ts i (record { 0 = 0 }) 0 low

within : (ts : List ThreadId) (ks : List ℕ) → numbers ts ≡ ks → length ks ≡ length ts
within ts ks is = ap length (sym is) ∙ length-numbers ts

pub keys_more : (ts : List ThreadId) (ks : List ℕ) (i : ℕ) → i < length ts → numbers ts ≡ ks → take (i + 1) ks ≡ take i ks ++ (get_or ts i (record { 0 = 0 })).0 ∷ []
keys_more ts ks i low is = take_more ks i 0 (let n = within ts ks is in omega arith) ∙ ap (λ q. take i ks ++ q ∷ []) (at_key ts ks i low is)

pub take_keys : (ts : List ThreadId) (ks : List ℕ) (i : ℕ) → length ts ≤ i → numbers ts ≡ ks → take i ks ≡ ks
take_keys ts ks i high is = take_all i ks (let n = within ts ks is in omega arith)

pub key_listed : (ts : List ThreadId) (ks : List ℕ) (i : ℕ) → i < length ts → numbers ts ≡ ks → is_listed (get_or ts i (record { 0 = 0 })).0 ks ≡ true
key_listed ts ks i low is = ap (λ k. is_listed k ks) (sym (at_key ts ks i low is)) ∙ has_get ks i (let n = within ts ks is in omega arith)

pub key_fresh : (ts : List ThreadId) (ks : List ℕ) (i : ℕ) → IsOnce ks → i < length ts → numbers ts ≡ ks → is_listed (get_or ts i (record { 0 = 0 })).0 (take i ks) ≡ false
key_fresh ts ks i once low is = ap (λ k. is_listed k (take i ks)) (sym (at_key ts ks i low is)) ∙ not_before ks i once (let n = within ts ks is in omega arith)

-- ---- nodes

kind_cons : (n : Node) (later : List Node) (q : ℕ) → kind_of (n ∷ later) q ≡ cond (nat_eq q n.number) (Some n.kind) (kind_of later q)
kind_cons n later q = elim (nat_eq q n.number) as (λ b. kind_at (cond b (n ∷ later) (from_number q later)) ≡ cond b (Some n.kind) (kind_of later q)) [ true ↦ refl | false ↦ refl ]

elsewhere : (marks : List ℕ) (q n : ℕ) → has q marks ≡ false → has n marks ≡ true → nat_eq q n ≡ false
elsewhere marks q n out goes =
    elim (nat_eq q n) as (λ b. nat_eq q n ≡ b → b ≡ false) [
      | true ↦ λ e. absurd (false≢true (sym out ∙ ap (λ k. has k marks) (let same : q ≡ n = grind (arith, nat_tests) in same) ∙ goes))
      | false ↦ λ e. refl
    ] refl

-- a node that stays is the same
pub kind_unmarked : (marks : List ℕ) (q : ℕ) (nodes : List Node) → has q marks ≡ false → kind_of (unmarked marks nodes) q ≡ kind_of nodes q
kind_unmarked marks q [] out = refl
kind_unmarked marks q (n ∷ nodes) out =
    elim (has n.number marks) as (λ b. has n.number marks ≡ b → kind_of (cond (not b) (n ∷ unmarked marks nodes) (unmarked marks nodes)) q ≡ kind_of (n ∷ nodes) q) [
      | true ↦ λ goes. kind_unmarked marks q nodes out ∙ sym (kind_cons n nodes q ∙ ap (λ b. cond b (Some n.kind) (kind_of nodes q)) (elsewhere marks q n.number out goes))
      | false ↦ λ stays. kind_cons n (unmarked marks nodes) q ∙ ap (cond (nat_eq q n.number) (Some n.kind)) (kind_unmarked marks q nodes out) ∙ sym (kind_cons n nodes q)
    ] refl

-- one more node is struck
pub struck_more : (done : List ℕ) (q : ℕ) (nodes : List Node) → filter (λ (n : Node). not (nat_eq q n.number)) (unmarked done nodes) ≡ unmarked (done ++ q ∷ []) nodes
struck_more done q nodes =
    filter-filter (λ (n : Node). not (nat_eq q n.number)) (λ (n : Node). not (has n.number done)) nodes
    ∙ filter-same _ _ nodes (λ n. ap (λ b. not b && not (has n.number done)) (flipped q n.number ∙ sym (or_false (nat_eq n.number q))) ∙ sym (not_or (has n.number done) (nat_eq n.number q || false)) ∙ ap (λ b. not b) (sym (list_any-append (nat_eq n.number) done (q ∷ []))))

pub unmarked_none : (nodes : List Node) → unmarked [] nodes ≡ nodes
unmarked_none [] = refl
unmarked_none (n ∷ nodes) = ap (λ l. n ∷ l) (unmarked_none nodes)

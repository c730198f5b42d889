-- Beginnings of one list, and the events of one worker.
use Rattle.std.proofs.Common.{◌≡◌, ℕ, zero, suc, ◌+◌, ◌<◌, ◌≤◌, ◌≢◌, eqb, cond, List, [], ◌∷◌, ◌++◌, length, sym, refl, ap, ◌∙◌, subst, arith, get_or, map, drop, take, ◌-◌, length-append, append_assoc, eq-eqb, ne_eqb}
use Rattle.std.proofs.lemmas.List.{append-nil, map-append}
use mathlib.Core.List.{IsPrefix}
use Rattle.std.specs.List.{AllByRecursion}
use Rattle.stab_journal.specs.declared.event.Event.{Event}
use Rattle.stab_journal.specs.declared.event.Recorded.{Recorded}
use Rattle.stab_journal.specs.Own.{own, own_at, own_from}
use Rattle.turn_floor.specs.declared.kept.Told.{Told}
use Rattle.turn_floor.specs.Served.{Adds, AddsOf, AreOf, Tells, from_to, recorded, told_events}

module _ {A : Type 0} where
  pub prefix_self : (xs : List A) → IsPrefix xs xs
  prefix_self xs = ([], append-nil xs)

  pub prefix_more : (xs ys rest zs : List A) → IsPrefix xs ys → zs ≡ ys ++ rest → IsPrefix xs zs
  prefix_more xs ys rest zs p e = (p.0 ++ rest, sym (append_assoc xs p.0 rest) ∙ ap (λ (l : List A). l ++ rest) p.1 ∙ sym e)

  pub olds_more : (ys rest zs : List A) → zs ≡ ys ++ rest → (ls : List (List A)) → AllByRecursion (λ (old : List A). IsPrefix old ys) ls → AllByRecursion (λ (old : List A). IsPrefix old zs) ls
  olds_more ys rest zs e [] all = tt
  olds_more ys rest zs e (l ∷ ls) all = (prefix_more l ys rest zs all.0 e, olds_more ys rest zs e ls all.1)

-- an event with its number
abbrev at : ℕ → Event → Recorded
at q e = record { seq = record { 0 = q }; event = e }

-- the events of a worker in two lists, one behind the other
own_append : (w q : ℕ) (xs ys : List Event) → own_from w q (xs ++ ys) ≡ own_from w q xs ++ own_from w (q + length xs) ys
own_append w q [] ys = let e : q ≡ q + 0 = omega arith in ap (λ (n : ℕ). own_from w n ys) e
own_append w q (x ∷ xs) ys =
    let e : suc q + length xs ≡ q + length (x ∷ xs) = omega arith in
    ap (λ (l : List Recorded). own_at w q x ++ l) (own_append w (suc q) xs ys ∙ ap (λ (n : ℕ). own_from w (suc q) xs ++ own_from w n ys) e)
    ∙ sym (append_assoc (own_at w q x) (own_from w (suc q) xs) (own_from w (q + length (x ∷ xs)) ys))

others_none : (w v q : ℕ) → w ≢ v → (new : List Event) → AllByRecursion (λ (e : Event). e.worker ≡ v) new → own_from w q new ≡ []
others_none w v q ne [] all = refl
others_none w v q ne (e ∷ es) all = ap (λ b. cond b (at q e ∷ []) [] ++ own_from w (suc q) es) (ne_eqb e.worker w (λ same. ne (sym same ∙ all.0))) ∙ others_none w v (suc q) ne es all.1

mine_all : (w q : ℕ) (new : List Event) → AllByRecursion (λ (e : Event). e.worker ≡ w) new → own_from w q new ≡ recorded q new
mine_all w q [] all = refl
mine_all w q (e ∷ es) all = ap (λ b. cond b (at q e ∷ []) [] ++ own_from w (suc q) es) (eq-eqb e.worker w all.0) ∙ ap (λ (l : List Recorded). at q e ∷ l) (mine_all w (suc q) es all.1)

-- what another worker adds has none of one's own events
pub own_same : (w v : ℕ) (before after : List Event) → w ≢ v → Adds v before after → own w after ≡ own w before
own_same w v before after ne a = ap (own w) a.1 ∙ own_append w 1 before a.0 ∙ ap (λ (l : List Recorded). own w before ++ l) (others_none w v (1 + length before) ne a.0 a.2) ∙ append-nil (own w before)

recorded_after : (q : ℕ) (xs ys : List Event) → drop (length xs) (recorded q (xs ++ ys)) ≡ recorded (q + length xs) ys
recorded_after q [] ys = let e : q ≡ q + 0 = omega arith in ap (λ (n : ℕ). recorded n ys) e
recorded_after q (x ∷ xs) ys = let e : suc q + length xs ≡ q + length (x ∷ xs) = omega arith in recorded_after (suc q) xs ys ∙ ap (λ (n : ℕ). recorded n ys) e

recorded_whole : (q : ℕ) (ys : List Event) → take (length ys) (recorded q ys) ≡ recorded q ys
recorded_whole q [] = refl
recorded_whole q (y ∷ ys) = ap (λ (l : List Recorded). at q y ∷ l) (recorded_whole (suc q) ys)

pub told_new : (t : Told) (before new after : List Event) → after ≡ before ++ new → Tells t before after → told_events t after ≡ recorded (1 + length before) new
told_new t before [] after e tells =
    let none-new : t.count ≡ 0 = omega (arith, tells.0, ap length e, length-append before []) in
    ap (λ (n : ℕ). take n (drop (t.first.0 - 1) (recorded 1 after))) none-new
told_new t before (y ∷ ys) after e tells =
    let count : t.count ≡ length (y ∷ ys) = omega (arith, tells.0, ap length e, length-append before (y ∷ ys)) in
    let first : t.first.0 - 1 ≡ length before = omega (arith, tells.1 (omega (arith, count))) in
    (λ i. take (count i) (drop (first i) (recorded 1 (e i)))) ∙ ap (take (length (y ∷ ys))) (recorded_after 1 before (y ∷ ys)) ∙ recorded_whole (1 + length before) (y ∷ ys)

-- a worker's events grow by those that the answer tells of
pub own_more : (w : ℕ) (t : Told) (before after : List Event) → Adds w before after → Tells t before after → own w after ≡ own w before ++ told_events t after
own_more w t before after a tells =
    ap (own w) a.1 ∙ own_append w 1 before a.0 ∙ ap (λ (l : List Recorded). own w before ++ l) (mine_all w (1 + length before) a.0 a.2 ∙ sym (told_new t before a.0 after a.1 tells))

pub named_more : (v n : ℕ) (before new : List Event) → 1 ≤ v → v ≤ n → AllByRecursion (λ (e : Event). e.worker ≡ v) new → AreOf n before → AreOf n (before ++ new)
named_more v n [] [] pos le new named = tt
named_more v n [] (e ∷ es) pos le new named = let is = new.0 in ((omega arith, omega arith), named_more v n [] es pos le new.1 tt)
named_more v n (e ∷ es) new pos le all named = (named.0, named_more v n es new pos le all named.1)

pub named_upto : (m n : ℕ) (es : List Event) → m ≤ n → AreOf m es → AreOf n es
named_upto m n [] le named = tt
named_upto m n (e ∷ es) le named = let is = named.0 in let low = is.0 in let high = is.1 in ((low, omega arith), named_upto m n es le named.1)

-- the worker number that comes next has no events
pub none_yet_from : (n q : ℕ) (es : List Event) → AreOf n es → own_from (suc n) q es ≡ []
none_yet_from n q [] named = refl
none_yet_from n q (e ∷ es) named = let is = named.0 in let high = is.1 in ap (λ b. cond b (at q e ∷ []) [] ++ own_from (suc n) (suc q) es) (ne_eqb e.worker (suc n) (λ same. omega arith)) ∙ none_yet_from n (suc q) es named.1

-- nor had it any, but those that were there at first
pub own_first : (n : ℕ) (first whole : List Event) → AddsOf n first whole → own (suc n) whole ≡ own (suc n) first
own_first n first whole a =
    ap (own (suc n)) a.1
    ∙ own_append (suc n) 1 first a.0
    ∙ ap (λ (l : List Recorded). own (suc n) first ++ l) (none_yet_from n (1 + length first) a.0 a.2)
    ∙ append-nil (own (suc n) first)

-- what was added stays, and more comes from one of the numbers
pub adds_more : (v n : ℕ) (first whole after : List Event) → 1 ≤ v → v ≤ n → AddsOf n first whole → Adds v whole after → AddsOf n first after
adds_more v n first whole after pos le a more =
    (a.0 ++ more.0, more.1 ∙ ap (λ (l : List Event). l ++ more.0) a.1 ∙ append_assoc first a.0 more.0, named_more v n a.0 more.0 pos le more.2 a.2)

pub adds_upto : (m n : ℕ) (first whole : List Event) → m ≤ n → AddsOf m first whole → AddsOf n first whole
adds_upto m n first whole le a = (a.0, a.1, named_upto m n a.0 le a.2)

pub adds_nothing : (n : ℕ) (first : List Event) → AddsOf n first first
adds_nothing n first = ([], sym (append-nil first), tt)

pub adds_begins : (n : ℕ) (first whole : List Event) → AddsOf n first whole → IsPrefix first whole
adds_begins n first whole a = (a.0, sym a.1)

pub same_slot : {S : Type 0} (h k : S) (c : List (ℕ × S)) → c ≡ (0, h) ∷ [] → c ≡ (0, k) ∷ [] → h ≡ k
same_slot {S} h k c p q = ap (λ (l : List (ℕ × S)). (get_or l 0 (0, k)).1) (sym p ∙ q)

module _ {A : Type 0} where
  pub all_end : (P : A → Type 0) (xs : List A) (x : A) → AllByRecursion P xs → P x → AllByRecursion P (xs ++ x ∷ [])
  all_end P [] x all p = (p, tt)
  all_end P (y ∷ ys) x all p = (all.0, all_end P ys x all.1 p)

  pub map_end : {B : Type 0} (f : A → B) (xs : List A) (x : A) (ys : List B) (y : B) → map f xs ≡ ys → f x ≡ y → map f (xs ++ x ∷ []) ≡ ys ++ y ∷ []
  map_end f xs x ys y e p = map-append f xs (x ∷ []) ∙ (λ i. e i ++ p i ∷ [])

  drop_last : (xs : List A) (x : A) → drop (length xs) (xs ++ x ∷ []) ≡ x ∷ []
  drop_last [] x = refl
  drop_last (y ∷ ys) x = drop_last ys x

  take_rest : (xs : List A) (x : A) → take (length xs) (xs ++ x ∷ []) ≡ xs
  take_rest [] x = refl
  take_rest (y ∷ ys) x = ap (λ (l : List A). y ∷ l) (take_rest ys x)

  -- the last comes to the front
  pub rotated : (xs ys zs : List A) (x : A) (m : ℕ) → m ≡ length ys → ys ≡ xs ++ x ∷ [] → zs ≡ drop (m - 1) ys ++ take (m - 1) ys → zs ≡ x ∷ xs
  rotated xs ys zs x m len e f =
      let n : m - 1 ≡ length xs = omega (arith, len, ap length e, length-append xs (x ∷ [])) in
      f ∙ (λ i. drop (n i) (e i) ++ take (n i) (e i)) ∙ (λ i. drop_last xs x i ++ take_rest xs x i)

pub from_to_end : (a n : ℕ) → from_to a (suc n) ≡ from_to a n ++ (a + n) ∷ []
from_to_end a zero = ap (λ (k : ℕ). k ∷ []) (omega arith)
from_to_end a (suc n) = ap (λ (l : List ℕ). a ∷ l) (from_to_end (suc a) n ∙ ap (λ (k : ℕ). from_to (suc a) n ++ k ∷ []) (omega arith))

module _ {A : Type 0} (P : A → Type 0) where
  pub all_first : (xs ys : List A) (x : A) → ys ≡ x ∷ xs → P x → AllByRecursion P xs → AllByRecursion P ys
  all_first xs ys x e p all = subst (AllByRecursion P) (sym e) (p, all)

  pub all_last : (xs ys : List A) (x : A) → ys ≡ xs ++ x ∷ [] → AllByRecursion P xs → P x → AllByRecursion P ys
  all_last xs ys x e all p = subst (AllByRecursion P) (sym e) (all_end P xs x all p)

pub map_next : {A : Type 0} (f : A → ℕ) (a n m : ℕ) (xs ys : List A) (x : A) → ys ≡ xs ++ x ∷ [] → map f xs ≡ from_to a n → f x ≡ a + n → m ≡ n + 1 → map f ys ≡ from_to a m
map_next f a n m xs ys x e p q is = let more : suc n ≡ m = omega (arith, is) in ap (map f) e ∙ map_end f xs x (from_to a n) (a + n) p q ∙ sym (from_to_end a n) ∙ ap (from_to a) more

pub map_first : {A : Type 0} (f : A → ℕ) (n m : ℕ) (xs ys : List A) (x : A) → ys ≡ x ∷ xs → map f xs ≡ from_to 2 n → f x ≡ 1 → n + 1 ≡ m → map f ys ≡ from_to 1 m
map_first f n m xs ys x e p q is = let more : suc n ≡ m = omega (arith, is) in ap (map f) e ∙ (λ i. q i ∷ p i) ∙ ap (from_to 1) more

pub all_now : {A B : Type 0} (f : A → B) (xs : List A) (b c : B) → b ≡ c → AllByRecursion (λ x. f x ≡ b) xs → AllByRecursion (λ x. f x ≡ c) xs
all_now f xs b c e all = subst (λ z. AllByRecursion (λ x. f x ≡ z) xs) e all

all_front : {A : Type 0} (P : A → Type 0) (xs : List A) (x : A) → AllByRecursion P (xs ++ x ∷ []) → AllByRecursion P xs × P x
all_front P [] x all = (tt, all.0)
all_front P (y ∷ ys) x all = let r = all_front P ys x all.1 in ((all.0, r.0), r.1)

pub all_cut : {A : Type 0} (P : A → Type 0) (xs ys : List A) (x : A) → ys ≡ xs ++ x ∷ [] → AllByRecursion P ys → AllByRecursion P xs × P x
all_cut P xs ys x e all = all_front P xs x (subst (AllByRecursion P) e all)

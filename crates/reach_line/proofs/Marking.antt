-- The table of marks after one more and after one less.
use Rattle.std.proofs.Common.{◌≡◌, ◌≢◌, ℕ, suc, ◌+◌, ◌-◌, ◌<◌, ◌≤◌, Bool, true, false, cond, ◌||◌, nat_eq, List, [], ◌∷◌, ◌++◌, length, get_or, refl, sym, ap, subst, ◌∙◌, arith, inl, inr, eq-eqb, length-append, get_or-set_same, get_or-set_other}
use Rattle.std.specs.List.{AllByRecursion, slice_set, count_by}
use Rattle.std.proofs.Math.ListN.{length-set}
use Rattle.std.proofs.lemmas.Bool.{cases_eq, cases_Bool}
use Rattle.std.proofs.lemmas.Bool.Decides.{eqb_tells}
use Rattle.std.proofs.lemmas.List.Sums.{count_by-le-length, sum_by-set}
use Rattle.stab_base.specs.declared.numbers.Seq.{Seq}
use Rattle.reach_line.specs.Reached.{has, IsOnce}
use Rattle.reach_line.specs.MarkList.{numbers, IsKept}

clash : {X : Type 0} (b : Bool) → b ≡ true → b ≡ false → X
clash b t f = absurd (cc)

pub apart : (a b : ℕ) → a ≢ b → nat_eq a b ≡ false
apart a b ne = elim (eqb_tells a b) [ inl t ↦ absurd (ne t.1) | inr f ↦ f.0 ]

pub has_append : (q : ℕ) (xs ys : List ℕ) → has q (xs ++ ys) ≡ (has q xs || has q ys)
has_append q [] ys = refl
has_append q (x ∷ xs) ys = elim (cases_Bool (nat_eq q x)) [
  | inl t ↦ ap (λ b. b || has q (xs ++ ys)) t ∙ sym (ap (λ b. (b || has q xs) || has q ys) t)
  | inr f ↦ ap (λ b. b || has q (xs ++ ys)) f ∙ has_append q xs ys ∙ sym (ap (λ b. (b || has q xs) || has q ys) f)
]

or_false : (b : Bool) → (b || false) ≡ b
or_false true = refl
or_false false = refl

or_true : (b : Bool) → (b || true) ≡ true
or_true true = refl
or_true false = refl

pub has_push : (q p : ℕ) (xs : List ℕ) → has q (xs ++ p ∷ []) ≡ (has q xs || nat_eq q p)
has_push q p xs = has_append q xs (p ∷ []) ∙ ap (λ b. has q xs || b) (or_false (nat_eq q p))

all_push : (P : ℕ → Type 0) (xs : List ℕ) (x : ℕ) → AllByRecursion P xs → P x → AllByRecursion P (xs ++ x ∷ [])
all_push P [] x all h = (h, tt)
all_push P (y ∷ xs) x all h = (all.0, all_push P xs x all.1 h)

all_front : (P : ℕ → Type 0) (xs ys : List ℕ) → AllByRecursion P (xs ++ ys) → AllByRecursion P xs
all_front P [] ys all = tt
all_front P (y ∷ xs) ys all = (all.0, all_front P xs ys all.1)

all_last : (P : ℕ → Type 0) (xs : List ℕ) (x : ℕ) → AllByRecursion P (xs ++ x ∷ []) → P x
all_last P [] x all = all.0
all_last P (y ∷ xs) x all = all_last P xs x all.1

once_push : (xs : List ℕ) (q : ℕ) → IsOnce xs → has q xs ≡ false → IsOnce (xs ++ q ∷ [])
once_push [] q once z = (refl, tt)
once_push (x ∷ xs) q once z =
    let other : q ≢ x = λ s. clash (has q (x ∷ xs)) (ap (λ b. b || has q xs) (eq-eqb q x s)) z in
    let rest : has q xs ≡ false = sym (ap (λ b. b || has q xs) (apart q x other)) ∙ z in
    (has_push x q xs ∙ ap (λ b. b || nat_eq x q) once.0 ∙ apart x q (λ s. other (sym s)), once_push xs q once.1 rest)

once_front : (xs : List ℕ) (q : ℕ) → IsOnce (xs ++ q ∷ []) → IsOnce xs × (has q xs ≡ false)
once_front [] q once = (tt, refl)
once_front (x ∷ xs) q once =
    let more = once_front xs q once.1 in
    let split : (has x xs || nat_eq x q) ≡ false = sym (has_push x q xs) ∙ once.0 in
    elim (cases_Bool (has x xs)) [
      | inl t ↦ clash (has x xs || nat_eq x q) (ap (λ b. b || nat_eq x q) t) split
      | inr f ↦
          let ne : nat_eq x q ≡ false = sym (ap (λ b. b || nat_eq x q) f) ∙ split in
          let other : q ≢ x = λ s. clash (nat_eq x q) (eq-eqb x q (sym s)) ne in
          ((f, more.0), ap (λ b. b || has q xs) (apart q x other) ∙ more.1)
    ]

count_set : (bs : List Bool) (i : ℕ) (b : Bool) → i < length bs → count_by (λ c. c) (slice_set bs i b) + cond (get_or bs i false) 1 0 ≡ count_by (λ c. c) bs + cond b 1 0
count_set bs i b lt = sum_by-set (λ (c : Bool). cond c 1 0) bs i b false lt

pub numbers_push : (qs : List Seq) (q : Seq) → numbers (qs ++ q ∷ []) ≡ numbers qs ++ q.0 ∷ []
numbers_push [] q = refl
numbers_push (p ∷ qs) q = ap (λ l. p.0 ∷ l) (numbers_push qs q)

numbers_length : (qs : List Seq) → length (numbers qs) ≡ length qs
numbers_length [] = refl
numbers_length (q ∷ qs) = ap suc (numbers_length qs)

-- fewer are marked than there is room for, where one isn't
pub room_left : (qs : List Seq) (lowest q : ℕ) (seen : List Bool) (capacity : ℕ) → IsKept (numbers qs) lowest seen capacity → lowest ≤ q → q < lowest + length seen → get_or seen (q - lowest) false ≡ false → length qs < capacity
room_left qs lowest q seen capacity k lo hi out =
    let c = count_set seen (q - lowest) true (omega arith) in
    let z : cond {A = ℕ} (get_or seen (q - lowest) false) 1 0 ≡ 0 = ap (λ (b : Bool). cond {A = ℕ} b 1 0) out in
    let most = count_by-le-length (λ (b : Bool). b) (slice_set seen (q - lowest) true) in
    let len = length-set seen (q - lowest) true in
    let n = numbers_length qs in
    let r = k.spare in
    let e = k.count in
    omega arith

pub kept_more : (qs : List ℕ) (lowest q : ℕ) (seen : List Bool) (capacity : ℕ) → IsKept qs lowest seen capacity → lowest ≤ q → q < lowest + length seen → get_or seen (q - lowest) false ≡ false → IsKept (qs ++ q ∷ []) lowest (slice_set seen (q - lowest) true) capacity
kept_more qs lowest q seen capacity k lo hi out =
    let i = q - lowest in
    let len = length-set seen i true in
    let here : has q qs ≡ false = (let place : lowest + i ≡ q = omega arith in ap (λ n. has n qs) (sym place) ∙ sym (k.exact i (omega arith)) ∙ out) in
    record {
      exact = λ j lt. elim (cases_eq j i) [
        | inl s ↦ ap (λ n. get_or (slice_set seen i true) n false) s ∙ get_or-set_same seen i true false (omega arith)
            ∙ sym (has_push (lowest + j) q qs ∙ ap (λ b. has (lowest + j) qs || b) (eq-eqb (lowest + j) q (omega arith)) ∙ or_true (has (lowest + j) qs))
        | inr n ↦ get_or-set_other seen i j true false n ∙ k.exact j (omega arith)
            ∙ sym (has_push (lowest + j) q qs ∙ ap (λ b. has (lowest + j) qs || b) (apart (lowest + j) q (λ s. n (omega arith))) ∙ or_false (has (lowest + j) qs))
      ];
      within = subst (λ n. AllByRecursion (λ p. (lowest ≤ p) × (p < lowest + n)) (qs ++ q ∷ [])) (sym len) (all_push (λ p. (lowest ≤ p) × (p < lowest + length seen)) qs q k.within (lo, hi));
      once = once_push qs q k.once here;
      count = (let c = count_set seen i true (omega arith) in let z : cond {A = ℕ} (get_or seen (q - lowest) false) 1 0 ≡ 0 = ap (λ (b : Bool). cond {A = ℕ} b 1 0) out in let n = length-append qs (q ∷ []) in let e = k.count in omega arith);
      spare = (let r = k.spare in omega arith);
    }

pub kept_less : (qs : List ℕ) (lowest q : ℕ) (seen : List Bool) (capacity more : ℕ) → IsKept (qs ++ q ∷ []) lowest seen capacity → capacity ≤ more → IsKept qs lowest (slice_set seen (q - lowest) false) more
kept_less qs lowest q seen capacity more k le =
    let i = q - lowest in
    let b = all_last (λ p. (lowest ≤ p) × (p < lowest + length seen)) qs q k.within in
    let len = length-set seen i false in
    let o = once_front qs q k.once in
    let was : get_or seen i false ≡ true = k.exact i (omega (arith, b.0, b.1)) ∙ has_push (lowest + i) q qs ∙ ap (λ c. has (lowest + i) qs || c) (eq-eqb (lowest + i) q (omega (arith, b.0))) ∙ or_true (has (lowest + i) qs) in
    record {
      exact = λ j lt. elim (cases_eq j i) [
        | inl s ↦ ap (λ n. get_or (slice_set seen i false) n false) s ∙ get_or-set_same seen i false false (omega (arith, b.0, b.1)) ∙ sym (ap (λ n. has n qs) (let p : lowest + j ≡ q = omega (arith, b.0) in p) ∙ o.1)
        | inr n ↦ get_or-set_other seen i j false false n ∙ k.exact j (omega arith) ∙ has_push (lowest + j) q qs ∙ ap (λ c. has (lowest + j) qs || c) (apart (lowest + j) q (λ s. n (omega arith))) ∙ or_false (has (lowest + j) qs)
      ];
      within = subst (λ n. AllByRecursion (λ p. (lowest ≤ p) × (p < lowest + n)) qs) (sym len) (all_front (λ p. (lowest ≤ p) × (p < lowest + length seen)) qs (q ∷ []) k.within);
      once = o.0;
      count = (let c = count_set seen i false (omega (arith, b.0, b.1)) in let z : cond {A = ℕ} (get_or seen i false) 1 0 ≡ 1 = ap (λ (x : Bool). cond {A = ℕ} x 1 0) was in let n = length-append qs (q ∷ []) in let e = k.count in omega arith);
      spare = (let r = k.spare in omega arith);
    }

-- the last mark is within the room
pub last_within : (qs : List ℕ) (lowest q : ℕ) (seen : List Bool) (capacity : ℕ) → IsKept (qs ++ q ∷ []) lowest seen capacity → (lowest ≤ q) × (q < lowest + length seen)
last_within qs lowest q seen capacity k = all_last (λ p. (lowest ≤ p) × (p < lowest + length seen)) qs q k.within

-- where nothing is marked, the room may begin anywhere
pub kept_moved : (qs : List ℕ) (lowest lowest' : ℕ) (seen : List Bool) (capacity : ℕ) → qs ≡ [] → IsKept qs lowest seen capacity → IsKept qs lowest' seen capacity
kept_moved qs lowest lowest' seen capacity none k = record {
  exact = λ j lt. k.exact j lt ∙ ap (has (lowest + j)) none ∙ sym (ap (has (lowest' + j)) none);
  within = subst (AllByRecursion (λ q. (lowest' ≤ q) × (q < lowest' + length seen))) (sym none) tt;
  once = k.once;
  count = k.count;
  spare = k.spare;
}

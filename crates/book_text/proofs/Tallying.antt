-- How many pass, counted number after number.
use Rattle.std.proofs.Common.{◌≡◌, ℕ, zero, suc, ◌+◌, Bool, true, false, cond, List, [], ◌∷◌, ◌++◌, length, Option, Some, None, refl, ap, ◌∙◌, arith, length-append}
use Rattle.std.specs.Prelude.{map as each, count_by}
use Rattle.std.specs.Option.{option_map_or}
use Rattle.std.proofs.lemmas.List.{map-append}
use Rattle.std.proofs.lemmas.List.Sums.{sum_by-append, sum_by-cons}
use Rattle.thread_slots.specs.Ready.{numbers}
use Rattle.book_text.proofs.ByNumber.{pairs}

abbrev pub one : Bool → ℕ
one b = cond b 1 0

pub one_more : (p : ℕ → Bool) (n : ℕ) → length (numbers p (suc n)) ≡ length (numbers p n) + one (p n)
one_more p n = length-append (numbers p n) (cond (p n) (n ∷ []) []) ∙ ap (λ k. length (numbers p n) + k) (single (p n))
  where
    single : (b : Bool) → length (cond b (n ∷ []) []) ≡ one b
    single true = refl
    single false = refl

-- a number passes where it passes the one test or the other, and none passes both
pub split : (p q r : ℕ → Bool) (n : ℕ) → ((u : ℕ) → one (p u) ≡ one (q u) + one (r u)) → length (numbers p n) ≡ length (numbers q n) + length (numbers r n)
split p q r zero h = refl
split p q r (suc n) h =
    let before : length (numbers p n) ≡ length (numbers q n) + length (numbers r n) = split p q r n h in
    let a : length (numbers p (suc n)) ≡ length (numbers p n) + one (p n) = one_more p n in
    let b : length (numbers q (suc n)) ≡ length (numbers q n) + one (q n) = one_more q n in
    let c : length (numbers r (suc n)) ≡ length (numbers r n) + one (r n) = one_more r n in
    let d : one (p n) ≡ one (q n) + one (r n) = h n in
    omega arith

count-append : {X : Type 0} (P : X → Bool) (xs ys : List X) → count_by P (xs ++ ys) ≡ count_by P xs + count_by P ys
count-append P xs ys = sum_by-append (λ x. one (P x)) xs ys

count-each : {X Y : Type 0} (P : Y → Bool) (f : X → Y) (xs : List X) → count_by P (each f xs) ≡ count_by (λ x. P (f x)) xs
count-each P f [] = refl
count-each P f (x ∷ xs) =
    let rest : count_by P (each f xs) ≡ count_by (λ x. P (f x)) xs = count-each P f xs in
    let a : count_by P (each f (x ∷ xs)) ≡ one (P (f x)) + count_by P (each f xs) = sum_by-cons (λ y. one (P y)) (f x) (each f xs) in
    let b : count_by (λ x. P (f x)) (x ∷ xs) ≡ one (P (f x)) + count_by (λ x. P (f x)) xs = sum_by-cons (λ x. one (P (f x))) x xs in
    omega arith

-- how many of the values below n pass
pub tally : {X : Type 0} (P : X → Bool) (f : ℕ → Option X) (n : ℕ) → count_by P (each (λ (e : ℕ × X). e.1) (pairs f n)) ≡ length (numbers (λ t. option_map_or P (f t) false) n)
tally P f zero = refl
tally {X} P f (suc n) =
    let last : List (ℕ × X) = option_map_or (λ v. (n, v) ∷ []) (f n) [] in
    let before : count_by P (each (λ (e : ℕ × X). e.1) (pairs f n)) ≡ length (numbers (λ t. option_map_or P (f t) false) n) = tally P f n in
    let all : count_by P (each (λ (e : ℕ × X). e.1) (pairs f n ++ last)) ≡ count_by P (each (λ (e : ℕ × X). e.1) (pairs f n)) + count_by P (each (λ (e : ℕ × X). e.1) last) =
    ap (count_by P) (map-append (λ (e : ℕ × X). e.1) (pairs f n) last) ∙ count-append P (each (λ (e : ℕ × X). e.1) (pairs f n)) (each (λ (e : ℕ × X). e.1) last)
    in
    let more : length (numbers (λ t. option_map_or P (f t) false) (suc n)) ≡ length (numbers (λ t. option_map_or P (f t) false) n) + one (option_map_or P (f n) false) = one_more (λ t. option_map_or P (f t) false) n in
    let there : count_by P (each (λ (e : ℕ × X). e.1) last) ≡ one (option_map_or P (f n) false) = at (f n) in
    omega arith
  where
    at : (o : Option X) → count_by P (each (λ (e : ℕ × X). e.1) (option_map_or (λ v. (n, v) ∷ []) o [])) ≡ one (option_map_or P o false)
    at None = refl
    at (Some v) = let k : 0 + one (P v) ≡ one (P v) = omega arith in k

-- the same of what the values are taken to
pub tally_each : {X Y : Type 0} (P : Y → Bool) (g : X → Y) (f : ℕ → Option X) (n : ℕ) → count_by P (each g (each (λ (e : ℕ × X). e.1) (pairs f n))) ≡ length (numbers (λ t. option_map_or (λ x. P (g x)) (f t) false) n)
tally_each {X} P g f n = count-each P g (each (λ (e : ℕ × X). e.1) (pairs f n)) ∙ tally (λ x. P (g x)) f n

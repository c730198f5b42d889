-- The nodes of a thread, and the lines that linked lists of nodes make.
use Rattle.std.proofs.Common.{◌≡◌, ◌≢◌, ℕ, zero, suc, ◌+◌, ◌-◌, ◌*◌, ◌/◌, ◌<◌, Bool, true, false, cond, not, ◌&&◌, ◌||◌, ◌⊎◌, inl, inr, nat_eq, List, [], ◌∷◌, map, option_map, slice_get, refl, sym, ap, ◌∙◌, arith}
use Rattle.std.proofs.lemmas.Bool.Decides.{Decides-eqb, nat_tests}
use Rattle.std.proofs.Math.ListN.{get_or-map}
use Rattle.linked_lists.specs.Lists.{is_listed, list_at, without, StandsNowhere}
use Rattle.linked_lists.proofs.Leaving.{is_listed-without}
use Rattle.rendezvous.specs.declared.offer.Side.{Side}
use Rattle.rendezvous.specs.declared.offer.Side.TheVariants as side
use Rattle.rendezvous.specs.Line.{Line, waiting, left}
use Rattle.rendezvous.specs.Nodes.{list_number, thread_of, line_at, IsAway}

pub itself : (t : ℕ) → nat_eq t t ≡ true
itself t = (Decides-eqb t t).1 refl

pub unlike : {P : Type 0} (b : Bool) → b ≡ true → b ≡ false → P
unlike b is off = cc

pub cases_eq : {P : Type 0} (a b : ℕ) → (a ≡ b → P) → (nat_eq a b ≡ false → P) → P
cases_eq {P} a b same apart =
    elim (nat_eq a b) as (λ r. nat_eq a b ≡ r → P) [
      | true ↦ λ e. same ((Decides-eqb a b).0 e)
      | false ↦ λ e. apart e
    ] refl

pub same_line : {a b c d : List ℕ} → a ≡ c → b ≡ d → (let l : Line = record { sends = a; receives = b } in l) ≡ record { sends = c; receives = d }
same_line e f = λ i. record { sends = e i; receives = f i }

-- a node that stands in a list lets its thread stand in the line
thread_listed : (n : ℕ) (list : List ℕ) → is_listed n list ≡ true → is_listed (thread_of n) (map thread_of list) ≡ true
thread_listed n [] there = cc
thread_listed n (x ∷ list) there =
    elim (nat_eq n x) as (λ b. nat_eq n x ≡ b → (b || is_listed n list) ≡ true → is_listed (thread_of n) (map thread_of (x ∷ list)) ≡ true) [
      | true ↦ λ e _. ap (λ b. b || is_listed (thread_of n) (map thread_of list)) (ap (λ y. nat_eq (thread_of n) (thread_of y)) (sym ((Decides-eqb n x).0 e)) ∙ itself (thread_of n))
      | false ↦ λ _ h. or_right (nat_eq (thread_of n) (thread_of x)) _ (thread_listed n list h)
    ] refl there
  where
    or_right : (a b : Bool) → b ≡ true → (a || b) ≡ true
    or_right true b e = refl
    or_right false b e = e

pub record Half (h : ℕ) : Type 0 where
  pub half : ℕ
  pub is : (h ≡ 2 * half) ⊎ (h ≡ 2 * half + 1)

parity : (h : ℕ) → Half h
parity zero = record { half = 0; is = inl (omega arith) }
parity (suc h) =
    let before : Half h = parity h in
    elim before.is [
      | inl e ↦ record { half = before.half; is = inr (omega arith) }
      | inr e ↦ record { half = before.half + 1; is = inl (omega arith) }
    ]

-- a node of a thread that waits nowhere stands nowhere
pub nowhere_node : (lists : List (List ℕ)) (t n : ℕ) → thread_of n ≡ t → IsAway t lists → StandsNowhere n lists
nowhere_node lists t n of away h =
    elim (is_listed n (list_at lists h)) as (λ b. is_listed n (list_at lists h) ≡ b → b ≡ false) [
      | true ↦ λ e. (let there : is_listed t (map thread_of (list_at lists h)) ≡ true = ap (λ t. is_listed t (map thread_of (list_at lists h))) (sym of) ∙ thread_listed n (list_at lists h) e in
          let found : Half h = parity h in
          elim found.is [
            | inl even ↦ unlike (is_listed t (map thread_of (list_at lists h))) there (ap (λ h. is_listed t (map thread_of (list_at lists h))) even ∙ (away found.half).0)
            | inr odd ↦ unlike (is_listed t (map thread_of (list_at lists h))) there (ap (λ h. is_listed t (map thread_of (list_at lists h))) odd ∙ (away found.half).1)
          ])
      | false ↦ λ e. refl
    ] refl

-- ---- the first of a line

pub waiting_is : (s : Side) (lists : List (List ℕ)) (c : ℕ) → waiting s (line_at lists c) ≡ map thread_of (list_at lists (list_number s c))
waiting_is side.Send lists c = refl
waiting_is side.Recv lists c = refl

pub first-map : (list : List ℕ) → slice_get (map thread_of list) 0 ≡ option_map thread_of (slice_get list 0)
first-map [] = refl
first-map (x ∷ list) = refl

-- ---- a thread leaves

same_thread : (t n : ℕ) → nat_eq 0 n ≡ false → nat_eq t (thread_of n) ≡ (nat_eq (2 * t + 1) n || nat_eq (2 * t + 2) n)
same_thread t n real =
    cases_eq (2 * t + 1) n
    (λ e. let is : thread_of n ≡ t = omega arith in ap (nat_eq t) is ∙ itself t ∙ sym (ap (λ b. b || nat_eq (2 * t + 2) n) (ap (λ k. nat_eq k n) e ∙ itself n)))
    (λ off. cases_eq (2 * t + 2) n
    (λ e. let is : thread_of n ≡ t = omega arith in ap (nat_eq t) is ∙ itself t ∙ sym (ap (λ b. b || nat_eq (2 * t + 2) n) off ∙ ap (λ k. nat_eq k n) e ∙ itself n))
    (λ away.
    cases_eq t (thread_of n)
    (λ e. absurd (let positive : 0 < n = above real in let first : n ≢ 2 * t + 1 = apart off in let second : n ≢ 2 * t + 2 = apart away in let half : t ≡ (n - 1) / 2 = e in omega arith))
    (λ other. other ∙ sym (ap (λ b. b || nat_eq (2 * t + 2) n) off ∙ away))))
  where
    above : {n : ℕ} → nat_eq 0 n ≡ false → 0 < n
    above {n} e = grind (arith, nat_tests)

    apart : {a b : ℕ} → nat_eq a b ≡ false → b ≢ a
    apart {a} {b} e f = grind (arith, nat_tests)

-- both nodes of t are gone
without_both : (t : ℕ) (list : List ℕ) → is_listed 0 list ≡ false → map thread_of (without (2 * t + 2) (without (2 * t + 1) list)) ≡ without t (map thread_of list)
without_both t [] real = refl
without_both t (n ∷ list) real =
    elim (nat_eq 0 n) as (λ b. nat_eq 0 n ≡ b → (b || is_listed 0 list) ≡ false → map thread_of (without (2 * t + 2) (without (2 * t + 1) (n ∷ list))) ≡ without t (map thread_of (n ∷ list))) [
      | true ↦ λ _ h. cc
      | false ↦ λ off h. step (without_both t list h) off
    ] refl real
  where
    one : (a b : Bool) (n : ℕ) (xs : List ℕ) (rest : List ℕ) → map thread_of (without (2 * t + 2) xs) ≡ rest → nat_eq (2 * t + 2) n ≡ b → map thread_of (without (2 * t + 2) (cond (not a) (n ∷ xs) xs)) ≡ cond (not (a || b)) (thread_of n ∷ rest) rest
    one true b n xs rest is e = is
    one false true n xs rest is e = ap (λ b. map thread_of (cond (not b) (n ∷ without (2 * t + 2) xs) (without (2 * t + 2) xs))) e ∙ is
    one false false n xs rest is e = ap (λ b. map thread_of (cond (not b) (n ∷ without (2 * t + 2) xs) (without (2 * t + 2) xs))) e ∙ ap (λ xs. thread_of n ∷ xs) is

    step : map thread_of (without (2 * t + 2) (without (2 * t + 1) list)) ≡ without t (map thread_of list) → nat_eq 0 n ≡ false → map thread_of (without (2 * t + 2) (without (2 * t + 1) (n ∷ list))) ≡ without t (map thread_of (n ∷ list))
    step is off =
        one (nat_eq (2 * t + 1) n) (nat_eq (2 * t + 2) n) n (without (2 * t + 1) list) (without t (map thread_of list)) is refl
        ∙ ap (λ b. cond (not b) (thread_of n ∷ without t (map thread_of list)) (without t (map thread_of list))) (sym (same_thread t n off))

list_left : (old mid new : List (List ℕ)) (t a b h : ℕ) → a ≡ 2 * t + 1 → b ≡ 2 * t + 2 → mid ≡ map (without a) old → new ≡ map (without b) mid → list_at new h ≡ without (2 * t + 2) (without (2 * t + 1) (list_at old h))
list_left old mid new t a b h e f first second =
    ap (λ lists. list_at lists h) second ∙ get_or-map (without b) mid h []
    ∙ ap (without b) (ap (λ lists. list_at lists h) first ∙ get_or-map (without a) old h [])
    ∙ ap (λ b. without b (without a (list_at old h))) f ∙ ap (λ a. without (2 * t + 2) (without a (list_at old h))) e

pub line_left : (old mid new : List (List ℕ)) (t a b c : ℕ) → a ≡ 2 * t + 1 → b ≡ 2 * t + 2 → mid ≡ map (without a) old → new ≡ map (without b) mid → StandsNowhere 0 old → line_at new c ≡ left t (line_at old c)
line_left old mid new t a b c e f first second real =
    same_line
    (ap (map thread_of) (list_left old mid new t a b (2 * c) e f first second) ∙ without_both t (list_at old (2 * c)) (real (2 * c)))
    (ap (map thread_of) (list_left old mid new t a b (2 * c + 1) e f first second) ∙ without_both t (list_at old (2 * c + 1)) (real (2 * c + 1)))

pub still_nowhere : (old new : List (List ℕ)) (n a : ℕ) → new ≡ map (without a) old → StandsNowhere n old → StandsNowhere n new
still_nowhere old new n a is none h =
    ap (λ lists. is_listed n (list_at lists h)) is ∙ ap (is_listed n) (get_or-map (without a) old h [])
    ∙ is_listed-without a n (list_at old h) ∙ ap (λ b. not (nat_eq a n) && b) (none h) ∙ and_false (not (nat_eq a n))
  where
    and_false : (b : Bool) → (b && false) ≡ false
    and_false true = refl
    and_false false = refl

-- ---- a thread comes

pub last_true : (a b : Bool) → b ≡ true → (a || b) ≡ true
last_true true b e = refl
last_true false b e = e

pub second_apart : (t a b : ℕ) → a ≡ 2 * t + 1 → b ≡ 2 * t + 2 → nat_eq b a ≡ false
second_apart t a b e f = grind (arith, nat_tests)

pub or_none : (a : Bool) → a ≡ true → (a || false) ≡ true
or_none true e = refl
or_none false e = cc

-- A walk over a list from one place to the next.
use Rattle.std.proofs.Common.{◌≡◌, ℕ, ◌<◌, ◌+◌, Bool, true, false, cond, ◌||◌, nat_eq, List, [], ◌∷◌, length, Some, None, slice_get, refl, sym, ap, ◌∙◌, subst, arith}
use Rattle.std.specs.List.{IsDistinct, AllByRecursion}
use Rattle.std.proofs.lemmas.Bool.Decides.{Decides-eqb, nat_tests}
use Rattle.std.proofs.lemmas.Map.Keys.{IsDistinct-head, IsDistinct-tail}
use Rattle.linked_lists.specs.Lists.{is_listed, following}

itself : (t : ℕ) → nat_eq t t ≡ true
itself t = (Decides-eqb t t).1 refl

unlike : {P : Type 0} (b : Bool) → b ≡ true → b ≡ false → P
unlike b is off = cc

-- who comes first stands there
pub first_listed : (t : ℕ) (list : List ℕ) → slice_get list 0 ≡ Some t → is_listed t list ≡ true
first_listed t [] e = cc
first_listed t (u ∷ list) e = ap (λ b. b || is_listed t list) (same t u (cc))
  where
    same : (t u : ℕ) → u ≡ t → nat_eq t u ≡ true
    same t u e = grind (arith, nat_tests)

-- who stands behind another isn't the other
other_than : (u x : ℕ) (list : List ℕ) → AllByRecursion (λ y. nat_eq x y ≡ false) list → is_listed u list ≡ true → nat_eq u x ≡ false
other_than u x [] all there = absurd (unlike false there refl)
other_than u x (y ∷ list) all there =
    elim (nat_eq u y) as (λ b. nat_eq u y ≡ b → (b || is_listed u list) ≡ true → nat_eq u x ≡ false) [
      | true ↦ λ e _. turned u x y e all.0
      | false ↦ λ _ h. other_than u x list all.1 h
    ] refl there
  where
    turned : (u x y : ℕ) → nat_eq u y ≡ true → nat_eq x y ≡ false → nat_eq u x ≡ false
    turned u x y e off = grind (arith, nat_tests)

pub record IsNext (t : ℕ) (p : ℕ) (list : List ℕ) : Type 0 where
  pub listed : is_listed p list ≡ true
  pub rest : following t list ≡ p ∷ following p list

behind : (t p x : ℕ) (list : List ℕ) → nat_eq t x ≡ false → nat_eq p x ≡ false → IsNext t p list → IsNext t p (x ∷ list)
behind t p x list off away next = record {
  listed = ap (λ b. b || is_listed p list) away ∙ next.listed;
  rest = ap (λ b. cond b list (following t list)) off ∙ next.rest ∙ ap (λ rest. p ∷ rest) (sym (ap (λ b. cond b list (following p list)) away));
}

-- the next place, and what stands behind it
pub next_of : (t p : ℕ) (list : List ℕ) → IsDistinct nat_eq list → is_listed t list ≡ true → slice_get (following t list) 0 ≡ Some p → IsNext t p list
next_of t p [] once there next = absurd (unlike false there refl)
next_of t p (x ∷ list) once there next =
    elim (nat_eq t x) as (λ b. nat_eq t x ≡ b → (b || is_listed t list) ≡ true → slice_get (cond b list (following t list)) 0 ≡ Some p → IsNext t p (x ∷ list)) [
      | true ↦ λ e _ first. here e list (IsDistinct-head nat_eq x list once) first
      | false ↦ λ off h first.
          let next : IsNext t p list = next_of t p list (IsDistinct-tail nat_eq x list once) h first in
          behind t p x list off (other_than p x list (IsDistinct-head nat_eq x list once) next.listed) next
    ] refl there next
  where
    here : nat_eq t x ≡ true → (list : List ℕ) → AllByRecursion (λ y. nat_eq x y ≡ false) list → slice_get list 0 ≡ Some p → IsNext t p (x ∷ list)
    here e [] all first = cc
    here e (y ∷ list) all first =
        let is : y ≡ p = cc in
        let away : nat_eq p x ≡ false = other_than p x (y ∷ list) all (first_listed p (y ∷ list) first) in
        record {
          listed = ap (λ b. b || is_listed p (y ∷ list)) away ∙ first_listed p (y ∷ list) first;
          rest = ap (λ b. cond b (y ∷ list) (following t (y ∷ list))) e ∙ ap (λ y. y ∷ list) is
              ∙ ap (λ rest. p ∷ rest) (sym (ap (λ b. cond b (y ∷ list) (following p (y ∷ list))) away ∙ ap (λ b. cond b list (following p list)) (ap (λ y. nat_eq p y) is ∙ itself p)));
        }

-- nothing stands behind the last
pub last_of : (t : ℕ) (list : List ℕ) → slice_get (following t list) 0 ≡ None → following t list ≡ []
last_of t list none = empty (following t list) none
  where
    empty : (xs : List ℕ) → slice_get xs 0 ≡ None → xs ≡ []
    empty [] e = refl
    empty (x ∷ xs) e = cc

-- what stands behind the first is the rest
pub behind_first : (t u : ℕ) (list : List ℕ) → slice_get list 0 ≡ Some t → is_listed u list ≡ true → is_listed u (following t list) ≡ false → u ≡ t
behind_first t u [] first there none = absurd (unlike false there refl)
behind_first t u (x ∷ list) first there none =
    let is : x ≡ t = cc in
    let rest : is_listed u list ≡ false = ap (λ b. is_listed u (cond b list (following t list))) (sym (itself t)) ∙ ap (λ y. is_listed u (cond (nat_eq t y) list (following t list))) (sym is) ∙ none in
    elim (nat_eq u x) as (λ b. nat_eq u x ≡ b → (b || is_listed u list) ≡ true → u ≡ t) [
      | true ↦ λ e _. (Decides-eqb u x).0 e ∙ is
      | false ↦ λ _ h. absurd (unlike (is_listed u list) h rest)
    ] refl there

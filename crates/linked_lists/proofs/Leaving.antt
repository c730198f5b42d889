-- A list of places, when one of them leaves.
use Rattle.std.proofs.Common.{◌≡◌, ℕ, Bool, true, false, cond, not, ◌&&◌, ◌||◌, nat_eq, List, [], ◌∷◌, refl, ap, ◌∙◌, arith}
use Rattle.std.specs.List.{IsDistinct, AllByRecursion, filter}
use Rattle.std.proofs.lemmas.Bool.Decides.{nat_tests}
use Rattle.std.proofs.lemmas.Map.Views.{any-filter_same}
use Rattle.std.proofs.lemmas.Map.Keys.{IsDistinct-head, IsDistinct-tail, IsDistinct-cons}
use Rattle.linked_lists.specs.Lists.{is_listed, without}

-- what holds of neither
pub neither : (a b : Bool) → (a || b) ≡ false → (a ≡ false) × (b ≡ false)
neither true b e = cc
neither false b e = (refl, e)

-- a place that stands elsewhere can't leave
pub without-absent : (t : ℕ) (list : List ℕ) → is_listed t list ≡ false → without t list ≡ list
without-absent t [] none = refl
without-absent t (u ∷ list) none =
    let parts : (nat_eq t u ≡ false) × (is_listed t list ≡ false) = neither (nat_eq t u) (is_listed t list) none in
    ap (λ b. cond (not b) (u ∷ without t list) (without t list)) parts.0 ∙ ap (λ q. u ∷ q) (without-absent t list parts.1)

alike : (t u k : ℕ) → nat_eq u k ≡ true → not (nat_eq t k) ≡ not (nat_eq t u)
alike t u k e = grind (arith, nat_tests)

-- the others stay
pub is_listed-without : (t u : ℕ) (list : List ℕ) → is_listed u (without t list) ≡ (not (nat_eq t u) && is_listed u list)
is_listed-without t u list = any-filter_same (nat_eq u) (λ k. not (nat_eq t k)) (not (nat_eq t u)) (λ k e. alike t u k e) list

-- none is another than itself
pub not_itself : (t : ℕ) (b : Bool) → (not (nat_eq t t) && b) ≡ false
not_itself t b = grind (arith, nat_tests)

-- a place that left stands there no more
pub gone : (t : ℕ) (list : List ℕ) → is_listed t (without t list) ≡ false
gone t list = is_listed-without t t list ∙ not_itself t (is_listed t list)

ByRecursion-filter : {X : Type 0} (P : X → Type 0) (p : X → Bool) (xs : List X) → AllByRecursion P xs → AllByRecursion P (filter p xs)
ByRecursion-filter P p [] h = h
ByRecursion-filter P p (x ∷ xs) h =
    elim (p x) as (λ b. AllByRecursion P (cond b (x ∷ filter p xs) (filter p xs))) [
      | true ↦ (h.0, ByRecursion-filter P p xs h.1)
      | false ↦ ByRecursion-filter P p xs h.1
    ]

-- none stands twice among those that stay
pub IsDistinct-filter : {X : Type 0} (e : X → X → Bool) (p : X → Bool) (xs : List X) → IsDistinct e xs → IsDistinct e (filter p xs)
IsDistinct-filter e p [] h = h
IsDistinct-filter e p (x ∷ xs) h =
    elim (p x) as (λ b. IsDistinct e (cond b (x ∷ filter p xs) (filter p xs))) [
      | true ↦ IsDistinct-cons e x (filter p xs) (ByRecursion-filter _ p xs (IsDistinct-head e x xs h)) (IsDistinct-filter e p xs (IsDistinct-tail e x xs h))
      | false ↦ IsDistinct-filter e p xs (IsDistinct-tail e x xs h)
    ]

-- none stands twice where none stands
pub IsDistinct-nil : IsDistinct nat_eq []
unfolding IsDistinct
IsDistinct-nil = tt
